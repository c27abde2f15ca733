use Rattle.std.proofs.Common.{ℕ, ◌-◌, ◌%◌, arith, subst, ap, ◌∙◌, IsTrue}
use Rattle.fab_config.specs.Settings.{Settings, is_in_range}
use Rattle.window_records.proofs.WindowLemmas.{window_some, window_start-mod}
use Rattle.window_records.proofs.window.window_start.Goals as goal

pub nonzero_rem-result : goal.nonzero_rem-result
nonzero_rem-result c =
    let some = window_some c.args.config.now (subst (λ (s : Settings). IsTrue (is_in_range s)) c.config.view_is c.config.invariant) in
    let is = c.from.ensures ∙ ap (λ (s : Settings). s.window) c.config.view_is in
    omega arith

pub returns-clause-start : goal.returns-clause-start
returns-clause-start c =
    ap (λ (x : ℕ). (c.moment.inside.0 - c.moment.inside.0 % x) % c.args.config.now.window) (c.from.ensures ∙ ap (λ (s : Settings). s.window) c.config.view_is)
    ∙ window_start-mod c.args.config.now c.moment.inside.0
