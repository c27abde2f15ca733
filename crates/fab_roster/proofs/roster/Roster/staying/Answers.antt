use Rattle.std.proofs.Common.{◌≡◌, not, map, filter, sym, ap, ◌∙◌}
use Rattle.std.proofs.lemmas.Result.{IfOk-weaker}
use Rattle.fab_config.specs.Settings.{Settings}
use Rattle.fab_policy.specs.State.{is_overdue}
use Rattle.fab_roster.specs.Changes.{is_late}
use Rattle.fab_roster.specs.Roll.{login_of}
use Rattle.fab_roster.proofs.roster.Roster.staying.Goals as goal

pub returns : goal.returns
returns c =
    let r = c.args.self.now in
    IfOk-weaker c.by_silence.result (λ ls. ls ≡ map login_of (filter (λ p. not (is_late r.period c.args.moment p)) r.tables.ports))
    (λ ls. (s : Settings) → s.period ≡ r.period → ls ≡ map login_of (filter (λ p. not (is_overdue s c.args.moment p)) r.tables.ports))
    (λ ls is s same. is ∙ ap (λ n. map login_of (filter (λ p. not (is_late n c.args.moment p)) r.tables.ports)) (sym same)) c.by_silence.ensures
