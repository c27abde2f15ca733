-- None of several names.
use Rattle.std.proofs.Common.{◌≡◌, ℕ, List, [], ◌∷◌, Bool, true, false, ◌||◌, refl, sym, inl, inr}
use Rattle.std.specs.List.{list_any}
use Rattle.std.specs.Str.{bytes_eq}
use Rattle.run_files.proofs.NameLemmas.{differs}
use Rattle.run_files.specs.Names.{Among}

pub or_false : (a b : Bool) → (a || b) ≡ false → (a ≡ false) × (b ≡ false)
or_false true b h = absurd (cc)
or_false false b h = (refl, h)

-- none of these names
pub none_among : (names : List (List ℕ)) (m : List ℕ) → list_any (λ n. bytes_eq n m) names ≡ false → Among names m → ⊥
none_among [] m h a = a
none_among (n ∷ names) m h (inl is) = differs n m (or_false (bytes_eq n m) _ h).0 (sym is)
none_among (n ∷ names) m h (inr a) = none_among names m (or_false (bytes_eq n m) _ h).1 a
