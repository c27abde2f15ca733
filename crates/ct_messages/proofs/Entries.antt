-- The entries of a list, written one by one.
use Rattle.std.proofs.Common.{◌≡◌, ℕ, ◌+◌, ◌<◌, Bool, true, false, eqb, if◌then◌else◌, List, [], ◌∷◌, ◌++◌, length, drop, Some, refl, sym, ap, ◌∙◌, arith, append_assoc, length-drop}
use Rattle.std.specs.List.{slice_get}
use Rattle.std.proofs.lemmas.Bool.Decides.{nat_tests}
use Rattle.std.proofs.lemmas.List.{drop_more}
use Rattle.std.proofs.lemmas.Option.{slice_get_within, get_or_from_slice_get}
use Rattle.ct_messages.specs.Answer.{control, entries_bytes}

control-is : {X : Type 0} (l : List X) (last : Bool) → (last ≡ true → length l ≡ 0) → (last ≡ false → 0 < length l) → control l ≡ (if last then 0x80 else 0)
control-is [] true none some = refl
control-is [] false none some = absurd (let h = some refl in omega arith)
control-is (x ∷ l) true none some = absurd (let h = none refl in omega arith)
control-is (x ∷ l) false none some = refl

equal : (a b : ℕ) → eqb a b ≡ true → a ≡ b
equal a b e = grind (arith, nat_tests)

unequal : (a b : ℕ) → eqb a b ≡ false → a ≡ b → ⊥
unequal a b e same = grind (arith, nat_tests)

-- one entry more
module _ {X : Type 0} (entry : ℕ → X → List ℕ) (list : List X) (i : ℕ) (x : X) (at : slice_get list i ≡ Some x) where
  within : i < length list
  within = slice_get_within list i x at

  next : drop i list ≡ x ∷ drop (i + 1) list
  next = drop_more list i x within ∙ ap (λ y. y ∷ drop (i + 1) list) (get_or_from_slice_get list i x x at)

  mark : control (drop (i + 1) list) ≡ (if eqb (i + 1) (length list) then 0x80 else 0)
  mark =
      let len = length-drop (i + 1) list in
      let lt = within in
      control-is (drop (i + 1) list) (eqb (i + 1) (length list)) (λ e. let same = equal (i + 1) (length list) e in omega arith)
      (λ e. let other = unequal (i + 1) (length list) e in omega arith)

  pub entry_more : (old bytes new : List ℕ) (m : ℕ) → bytes ++ entries_bytes entry (drop i list) ≡ old ++ entries_bytes entry list → m ≡ (if eqb (i + 1) (length list) then 0x80 else 0)
      → new ≡ bytes ++ entry m x → new ++ entries_bytes entry (drop (i + 1) list) ≡ old ++ entries_bytes entry list
  entry_more old bytes new m so_far is_mark put =
      let rest = drop (i + 1) list in
      ap (λ l. l ++ entries_bytes entry rest) put ∙ append_assoc bytes (entry m x) (entries_bytes entry rest)
      ∙ ap (λ k. bytes ++ (entry k x ++ entries_bytes entry rest)) (is_mark ∙ sym mark)
      ∙ ap (λ l. bytes ++ entries_bytes entry l) (sym next) ∙ so_far
