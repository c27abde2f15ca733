use Rattle.std.proofs.Common.{◌≡◌, ◌<◌, [], map, ◌∙◌, arith}
use Rattle.std.proofs.lemmas.Result.{IfOk-weaker}
use Rattle.fab_config.specs.Settings.{Settings}
use Rattle.fab_policy.specs.State.{overdue}
use Rattle.fab_roster.specs.Roll.{login_of}
use Rattle.fab_roster.proofs.Late.{nobody_overdue, nobody_live}
use Rattle.fab_roster.proofs.roster.Roster.overdue.Goals as goal
use Rattle.fab_roster.proofs.roster.Roster.overdue.Goals.{in_default-via-in-Some+else-first-moment, in_default-via-in_default}

pub returns-in_default : goal.returns-in_default
returns-in_default c =
    let r = c.args.self.now in
    IfOk-weaker c.new.result (λ ls. ls ≡ []) (λ ls. (s : Settings) → s.period ≡ r.period → ls ≡ map login_of (overdue s r.tables c.args.moment))
    (λ ls is s same. is ∙ (elim c.in_default.branch [
      | in_default-via-in-Some+else-first-moment w ↦
          let first : w.first.inside.0 ≡ w.in-Some.first = w.first.view_is in
          let moment : w.moment.inside.0 ≡ c.args.moment = w.moment.view_is in
          let earlier : c.args.moment < w.in-Some.first = omega (arith, w.if-first-moment.false) in
          nobody_overdue r c.args.moment s same (w.in-Some.ensures.before c.args.moment earlier)
      | in_default-via-in_default w ↦ nobody_live r c.args.moment s same w.in_default.ensures
    ])) c.new.ensures
