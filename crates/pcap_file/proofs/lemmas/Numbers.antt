-- Two numbers, and lists without elements.
use Rattle.std.proofs.Common.{◌≡◌, ℕ, ◌≤◌, ◌<◌, ◌⊎◌, inl, inr, List, [], ◌∷◌, length, refl, arith}
use Rattle.std.proofs.lemmas.Bool.Decides.{leb_tells}

pub le_or_lt : (a b : ℕ) → (a ≤ b) ⊎ (b < a)
le_or_lt a b = elim (leb_tells a b) [ inl p ↦ inl p.1 | inr p ↦ inr p.1 ]

-- nothing left
pub none_is : (l : List ℕ) → length l ≡ 0 → l ≡ []
none_is [] e = refl
none_is (x ∷ l) e = absurd (omega arith)
