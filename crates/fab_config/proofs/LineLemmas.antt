-- Lines and words where a text is cut.
use Rattle.std.proofs.Common.{◌≡◌, ℕ, zero, suc, ◌+◌, ◌-◌, ◌<◌, List, [], ◌∷◌, length, take, drop, get_or, Bool, true, false, cond, eqb, ltb, map, refl, sym, ◌∙◌, ap, arith, true≢false}
use Rattle.std.proofs.lemmas.Bool.{eqb-true, ltb-true, lt-ltb, and_parts, and_from, ne_eqb}
use Rattle.fab_config.specs.Lines.{pieces, with_byte, without_empty_end, without_return, ends_in_return, lines_of}

-- ---- lines

-- a text without line feeds is one piece
pub pieces_whole : (l : List ℕ) → ((k : ℕ) → k < length l → get_or l k 0 ≡ 10 → ⊥) → pieces l ≡ l ∷ []
pieces_whole [] none = refl
pieces_whole (b ∷ l) none =
    ap (λ t. elim t as (λ _. List (List ℕ)) [ true ↦ [] ∷ pieces l | false ↦ with_byte b (pieces l) ]) (ne_eqb b 10 (none 0 (omega arith)))
    ∙ ap (with_byte b) (pieces_whole l (λ k lt. none (suc k) (omega arith)))

-- a text is cut at its first line feed
pub pieces_cut : (l : List ℕ) (i : ℕ) → ((k : ℕ) → k < i → get_or l k 0 ≡ 10 → ⊥) → i < length l → get_or l i 0 ≡ 10 → pieces l ≡ take i l ∷ pieces (drop (i + 1) l)
pieces_cut [] i none lt is = absurd (omega arith)
pieces_cut (b ∷ l) zero none lt is = ap (λ t. elim t as (λ _. List (List ℕ)) [ true ↦ [] ∷ pieces l | false ↦ with_byte b (pieces l) ]) (ap (λ (n : ℕ). eqb n 10) is)
pieces_cut (b ∷ l) (suc i) none lt is =
    ap (λ t. elim t as (λ _. List (List ℕ)) [ true ↦ [] ∷ pieces l | false ↦ with_byte b (pieces l) ]) (ne_eqb b 10 (none 0 (omega arith)))
    ∙ ap (with_byte b) (pieces_cut l i (λ k lt. none (suc k) (omega arith)) (omega arith) is)
    ∙ ap (λ (n : ℕ). (b ∷ take i l) ∷ pieces (drop n (b ∷ l))) (let e : suc (i + 1) ≡ suc i + 1 = omega arith in e)

-- there is a piece at least
pub some_piece : (l : List ℕ) → 0 < length (pieces l)
some_piece [] = omega arith
some_piece (b ∷ l) = by (eqb b 10) refl
  where
    longer : (ps : List (List ℕ)) → 0 < length (with_byte b ps)
    longer [] = omega arith
    longer (p ∷ ps) = omega arith

    by : (t : Bool) → eqb b 10 ≡ t → 0 < length (elim t as (λ _. List (List ℕ)) [ true ↦ [] ∷ pieces l | false ↦ with_byte b (pieces l) ])
    by true e = omega arith
    by false e = longer (pieces l)

-- a piece before others is kept
pub end_kept : (p : List ℕ) (ps : List (List ℕ)) → 0 < length ps → without_empty_end (p ∷ ps) ≡ p ∷ without_empty_end ps
end_kept [] [] some = absurd (omega arith)
end_kept [] (q ∷ ps) some = refl
end_kept (b ∷ p) ps some = refl

-- the first line of a text that has a line feed
pub lines_cut : (l : List ℕ) (i : ℕ) → ((k : ℕ) → k < i → get_or l k 0 ≡ 10 → ⊥) → i < length l → get_or l i 0 ≡ 10
    → lines_of l ≡ without_return (take i l) ∷ lines_of (drop (i + 1) l)
lines_cut l i none lt is = ap (λ ps. map without_return (without_empty_end ps)) (pieces_cut l i none lt is) ∙ ap (map without_return) (end_kept (take i l) (pieces (drop (i + 1) l)) (some_piece (drop (i + 1) l)))

-- the one line of a text without
pub lines_whole : (l : List ℕ) → 0 < length l → ((k : ℕ) → k < length l → get_or l k 0 ≡ 10 → ⊥) → lines_of l ≡ without_return l ∷ lines_of []
lines_whole [] some none = absurd (omega arith)
lines_whole (b ∷ l) some none = ap (λ ps. map without_return (without_empty_end ps)) (pieces_whole (b ∷ l) none)

-- the return at the end of a line
return_yes : (l : List ℕ) (n : ℕ) → length l ≡ suc n → get_or l n 0 ≡ 13 → without_return l ≡ take n l
return_yes [] n e is = absurd (omega arith)
return_yes (b ∷ []) zero e is = ap (λ (m : ℕ). cond (eqb m 13) [] (b ∷ [])) is
return_yes (b ∷ []) (suc n) e is = absurd (omega arith)
return_yes (b ∷ c ∷ l) zero e is = absurd (omega arith)
return_yes (b ∷ c ∷ l) (suc n) e is = ap (λ m. b ∷ m) (return_yes (c ∷ l) n (omega arith) is)

return_no : (l : List ℕ) (n : ℕ) → length l ≡ suc n → (get_or l n 0 ≡ 13 → ⊥) → without_return l ≡ l
return_no [] n e is = refl
return_no (b ∷ []) zero e is = ap (λ t. cond t [] (b ∷ [])) (ne_eqb b 13 is)
return_no (b ∷ []) (suc n) e is = absurd (omega arith)
return_no (b ∷ c ∷ l) zero e is = absurd (omega arith)
return_no (b ∷ c ∷ l) (suc n) e is = ap (λ m. b ∷ m) (return_no (c ∷ l) n (omega arith) is)

pub without_return_yes : (l : List ℕ) → ends_in_return l ≡ true → without_return l ≡ take (length l - 1) l
without_return_yes l e =
    let both = and_parts _ _ e in
    return_yes l (length l - 1) (let h : 0 < length l = ltb-true 0 (length l) both.0 in omega (arith, h)) (eqb-true (get_or l (length l - 1) 0) 13 both.1)

pub without_return_no : (l : List ℕ) → ends_in_return l ≡ false → without_return l ≡ l
without_return_no [] e = refl
without_return_no (b ∷ l) e = return_no (b ∷ l) (length l) refl (λ is. true≢false (sym (and_from (ltb 0 (length (b ∷ l))) (eqb (get_or (b ∷ l) (length (b ∷ l) - 1) 0) 13) (lt-ltb 0 (suc (length l)) (omega arith)) (ap (λ (n : ℕ). eqb (get_or (b ∷ l) n 0) 13) (let m : suc (length l) - 1 ≡ length l = omega arith in m) ∙ ap (λ (n : ℕ). eqb n 13) is)) ∙ e))
