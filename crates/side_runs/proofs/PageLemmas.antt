-- Pages that grow by records.
use Rattle.std.proofs.Common.{◌≡◌, ℕ, ◌+◌, ◌<◌, ◌≤◌, List, [], ◌∷◌, ◌++◌, length, take, get_or, inl, inr, refl, ap, ◌∙◌, subst, arith}
use Rattle.std.specs.Prelude.{Vec, slice_set}
use Rattle.std.specs.declared.alloc.Global.{Global}
use Rattle.pcap_file.proofs.lemmas.Numbers.{le_or_lt}
use Rattle.run_files.specs.Pages.{items_in, piece_at}
use Rattle.run_files.proofs.PageLemmas.{piece-item, set_page, other_page}

-- Up to a place each page grew by its piece, and the others are as they were.
pub record GrownTo (f : ℕ → List ℕ) (k : ℕ) (a b : List (List ℕ)) : Type 0 where
  pub before : (q : ℕ) → q < k → piece_at b q ≡ piece_at a q ++ f q
  pub behind : (q : ℕ) → k ≤ q → piece_at b q ≡ piece_at a q

pub grown_none : (f : ℕ → List ℕ) (a : List (List ℕ)) → GrownTo f 0 a a
grown_none f a = record { before = λ q lt. absurd (omega (arith, lt)); behind = λ q le. refl }

pub grown_next : (f : ℕ → List ℕ) (k : ℕ) (a : List (List ℕ)) (l : List (Vec ℕ Global)) (v w : Vec ℕ Global) → k < length l → w ≡ get_or l k w → v.items ≡ w.items ++ f k → GrownTo f k a (items_in l) → GrownTo f (k + 1) a (items_in (slice_set l k v))
grown_next f k a l v w lt is grew g = record {
  before = λ q less. elim (le_or_lt k q) [
    | inl last ↦
        let own : k ≡ q = omega (arith, less, last) in
        subst (λ (x : ℕ). piece_at (items_in (slice_set l k v)) x ≡ piece_at a x ++ f x) own
        (set_page l k v lt ∙ grew ∙ ap (λ m. m ++ f k) (piece-item l k w lt is ∙ g.behind k (omega arith)))
    | inr earlier ↦ other_page l k q v (λ e. absurd (omega (arith, e, earlier))) ∙ g.before q earlier
  ];
  behind = λ q le. other_page l k q v (λ e. absurd (omega (arith, e, le))) ∙ g.behind q (omega (arith, le));
}

-- ---- a list that was lent

pub lent_back : {X : Type 0} (new W : List X) (n : ℕ) → n ≡ length new → take n (new ++ W) ≡ new
lent_back {X} [] W n e = ap (λ (k : ℕ). take k W) e ∙ take_none W
  where
    take_none : (l : List X) → take 0 l ≡ []
    take_none [] = refl
    take_none (x ∷ l) = refl
lent_back (x ∷ new) W n e = ap (λ (k : ℕ). take k (x ∷ new ++ W)) e ∙ ap (λ l. x ∷ l) (lent_back new W (length new) refl)
