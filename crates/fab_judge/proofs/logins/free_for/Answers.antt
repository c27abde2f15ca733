use Rattle.std.proofs.Common.{◌≤◌, ◌<◌, not, length, ap, arith}
use Rattle.std.proofs.lemmas.Bool.{le-leb, lt-leb}
use Rattle.fab_config.specs.Settings.{Settings}
use Rattle.fab_policy.specs.Verdicts.{staying}
use Rattle.fab_judge.proofs.logins.free_for.Goals as goal

pub returns-then-config-staying-clause-some : goal.returns-then-config-staying-clause-some
returns-then-config-staying-clause-some c =
    let C = c.args.config.now in
    let left = length (staying C c.args.roster.now.tables c.args.request.now) in
    let full : C.limit ≤ left = omega (arith, ap (λ (s : Settings). s.limit) c.config.view_is, c.staying.ensures C) in
    rw (le-leb C.limit left full)

pub returns-clause-some : goal.returns-clause-some
returns-clause-some c =
    let C = c.args.config.now in
    let left = length (staying C c.args.roster.now.tables c.args.request.now) in
    let room : left < C.limit = omega (arith, ap (λ (s : Settings). s.limit) c.config.view_is, c.staying.ensures C) in
    rw (lt-leb C.limit left room) (ap not c.find.ensures.some)
