use Rattle.std.proofs.Common.{◌≡◌, ℕ, ◌+◌, ◌-◌, ◌%◌, ap, sym, ◌∙◌, subst}
use Rattle.fab_config.specs.Settings.{Settings}
use Rattle.forward_core.proofs.DueLemmas.{next_start}
use Rattle.forward_core.proofs.due.window_from.Goals as goal

pub returns-clause-start : goal.returns-clause-start
returns-clause-start c =
    subst (λ (w : ℕ). (c.args.moment - c.args.moment % w + w) % c.args.config.now.window ≡ 0) (sym (c.from-window.ensures ∙ ap (λ (s : Settings). s.window) c.config.view_is))
    (next_start c.args.config.now.window c.args.moment)
