-- Logins that are found, counted and left.
use Rattle.std.proofs.Common.{◌≡◌, ℕ, ◌+◌, ◌==◌, nat_le, Bool, true, false, not, ◌&&◌, List, [], ◌∷◌, length, map, filter, find, None, option_map, is_some, inl, inr, refl, sym, ap, ◌∙◌, arith}
use Rattle.std.specs.Option.{option_map_or}
use Rattle.std.proofs.lemmas.Bool.{cases_Bool}
use Rattle.std.proofs.lemmas.Bool.Decides.{nat_tests}
use Rattle.std.proofs.lemmas.List.{length-map}
use Rattle.std.proofs.lemmas.List.Filters.{length-filter_both}
use Rattle.std.specs.List.{list_any}
use Rattle.fab_roster.specs.Roll.{Login, login_of}
use Rattle.fab_policy.specs.State.{LivePort}
use Rattle.fab_policy.specs.Written.{IsNew, HaveDifferentNames}

at_least_zero : (n : ℕ) → nat_le 0 n ≡ true
at_least_zero n = grind (arith, nat_tests)

module _ (t : LivePort → Bool) where
  -- ---- some login passes

  pub any_from : (ports : List LivePort) → is_some (option_map (λ p. p.address) (find (λ p. nat_le 0 p.address && t p) ports)) ≡ list_any t ports
  any_from [] = refl
  any_from (p ∷ ports) = elim (cases_Bool (t p)) [ inl e ↦ rw (at_least_zero p.address, e) | inr e ↦ rw (at_least_zero p.address, e) (any_from ports) ]

-- no login passes a test that fails
pub none_pass : (t : LivePort → Bool) (ports : List LivePort) → filter (λ p. false && t p) ports ≡ []
none_pass t [] = refl
none_pass t (p ∷ ports) = none_pass t ports

-- the logins that end and those that stay are all
pub ends_and_stays : (t : LivePort → Bool) (ports : List LivePort) (ended : List Login) → ended ≡ map login_of (filter t ports) →
    length ended + length (filter (λ p. not (t p)) ports) ≡ length ports
ends_and_stays t ports ended e = omega (arith, length-filter_both t (λ p. not (t p)) (λ p. refl) ports, ap length e ∙ length-map (filter t ports) login_of)

-- ---- one name

module _ (name : ℕ) (keeps : LivePort → Bool) where
  -- behind a login with the name there is none with it
  no_other : (p : LivePort) (ports : List LivePort) → p.name == name ≡ true → IsNew p ports → find (λ p. p.name == name) ports ≡ None
  no_other p [] s h = refl
  no_other p (q ∷ ports) s h = elim (cases_Bool (q.name == name)) [ inl same ↦ absurd (h.0 (grind (arith, nat_tests))) | inr same ↦ rw same (no_other p ports s h.1) ]

  -- where names differ, the one that is found is the one that may be kept
  pub kept : (ports : List LivePort) → HaveDifferentNames ports → list_any (λ p. p.name == name) (filter keeps ports) ≡ option_map_or keeps (find (λ p. p.name == name) ports) false
  kept [] h = refl
  kept (p ∷ ports) h = elim (cases_Bool (p.name == name)) [
    | inl s ↦ elim (cases_Bool (keeps p)) [
      | inl k ↦ rw (k, s) (sym k)
      | inr k ↦ rw (k, s) (kept ports h.1 ∙ ap (λ o. option_map_or keeps o false) (no_other p ports s h.0) ∙ sym k)
    ]
    | inr s ↦ elim (cases_Bool (keeps p)) [ inl k ↦ rw (k, s) (kept ports h.1) | inr k ↦ rw (k, s) (kept ports h.1) ]
  ]
