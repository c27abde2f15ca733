-- Lists and those that are among them.
use Rattle.std.proofs.Common.{◌≡◌, ℕ, ◌+◌, ◌≤◌, ◌⊎◌, inl, inr, List, [], ◌∷◌, ◌++◌, refl, sym, ◌∙◌, arith}
use Rattle.enode_core.specs.Laws.{IsAmong}
use Rattle.enode_core.proofs.Sources.{Each}
use Rattle.joined_runs.specs.Box.{IsAt}

module _ {X : Type 0} where
  pub among_append : (xs ys : List X) (x : X) → IsAmong x (xs ++ ys) → IsAmong x xs ⊎ IsAmong x ys
  among_append [] ys x h = inr h
  among_append (z ∷ xs) ys x (inl is) = inl (inl is)
  among_append (z ∷ xs) ys x (inr later) = elim (among_append xs ys x later) [ inl there ↦ inl (inr there) | inr there ↦ inr there ]

  pub among_front : (xs ys : List X) (x : X) → IsAmong x xs → IsAmong x (xs ++ ys)
  among_front [] ys x h = absurd h
  among_front (z ∷ xs) ys x (inl is) = inl is
  among_front (z ∷ xs) ys x (inr later) = inr (among_front xs ys x later)

  pub among_back : (xs ys : List X) (x : X) → IsAmong x ys → IsAmong x (xs ++ ys)
  among_back [] ys x h = h
  among_back (z ∷ xs) ys x h = inr (among_back xs ys x h)

  pub at_least : (first : ℕ) (xs : List X) (port : ℕ) (x : X) → IsAt first xs port x → first ≤ port
  at_least first [] port x h = absurd h
  at_least first (y ∷ ys) port x (inl is) = let same = is.0 in omega arith
  at_least first (y ∷ ys) port x (inr later) = let more = at_least (first + 1) ys port x later in omega arith

  -- a port has one item
  pub at_one : (first : ℕ) (xs : List X) (port : ℕ) (x y : X) → IsAt first xs port x → IsAt first xs port y → x ≡ y
  at_one first [] port x y h g = absurd h
  at_one first (z ∷ zs) port x y (inl h) (inl g) = h.1 ∙ sym g.1
  at_one first (z ∷ zs) port x y (inl h) (inr g) = let same = h.0 in let more = at_least (first + 1) zs port y g in absurd (omega arith)
  at_one first (z ∷ zs) port x y (inr h) (inl g) = let same = g.0 in let more = at_least (first + 1) zs port x h in absurd (omega arith)
  at_one first (z ∷ zs) port x y (inr h) (inr g) = at_one (first + 1) zs port x y h g

  pub each_of : (P : X → Type 0) (xs : List X) → ((x : X) → IsAmong x xs → P x) → Each P xs
  each_of P [] all = tt
  each_of P (x ∷ xs) all = (all x (inl refl), each_of P xs (λ y there. all y (inr there)))
