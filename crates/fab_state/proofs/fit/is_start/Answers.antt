use Rattle.std.proofs.Common.{◌≡◌, ℕ, ◌<◌, ◌≤◌, arith, subst, ap, ◌∙◌, IsTrue}
use Rattle.std.specs.Prelude.{nat_le}
use Rattle.std.proofs.lemmas.Bool.{and_parts, leb-true}
use Rattle.fab_config.specs.Settings.{Settings, is_in_range}
use Rattle.fab_state.proofs.fit.is_start.Goals as goal

-- the window of a configuration isn't 0
not_zero : (c : Settings) → IsTrue (is_in_range c) → 0 < c.window
not_zero c h =
    let limit = (and_parts _ _ (and_parts _ _ (and_parts _ _ h).0).0).0 in
    let window = (and_parts _ _ (and_parts _ _ limit).0).1 in
    let least : 10 ≤ c.window = leb-true 10 c.window (and_parts (nat_le 10 c.window) (nat_le c.window 1000) window).0 in
    omega (arith, least)

pub nonzero_rem-rest : goal.nonzero_rem-rest
nonzero_rem-rest c =
    let some = not_zero c.args.config.now (subst (λ (s : Settings). IsTrue (is_in_range s)) c.config.view_is c.config.invariant) in
    let is = c.from.ensures ∙ ap (λ (s : Settings). s.window) c.config.view_is in
    omega arith
