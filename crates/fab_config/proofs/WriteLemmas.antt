-- One item more is written.
use Rattle.std.proofs.Common.{◌≡◌, ℕ, ◌+◌, List, [], ◌∷◌, ◌++◌, cond, Some, Result, Ok, Err, take, slice_get, sym, ◌∙◌, ap}
use Rattle.std.specs.List.{flat_map}
use Rattle.std.specs.Result.{OnOk, is_ok}
use Rattle.std.proofs.lemmas.List.{append_assoc, append-nil}
use Rattle.std.proofs.lemmas.List.Concat.{flat_map-append}
use Rattle.fab_config.proofs.ListLemmas.{take_slice}

pub written_more : {X : Type 0} (f : X → List ℕ) (xs : List X) (i : ℕ) (x : X) (start before after : List ℕ) → slice_get xs i ≡ Some x → before ≡ start ++ flat_map f (take i xs) → after ≡ before ++ f x
    → after ≡ start ++ flat_map f (take (i + 1) xs)
written_more f xs i x start before after e was now =
    now ∙ ap (λ l. l ++ f x) was ∙ append_assoc start (flat_map f (take i xs)) (f x)
    ∙ ap (λ l. start ++ l) (ap (λ l. flat_map f (take i xs) ++ l) (sym (append-nil (f x))) ∙ sym (flat_map-append f (take i xs) (x ∷ [])) ∙ ap (flat_map f) (sym (take_slice xs i x e)))

regroup : (start key w ws t : List ℕ) → start ++ key ++ w ++ ws ++ t ≡ start ++ (key ++ (w ++ ws) ++ t)
regroup start key w ws t = simp append_assoc

-- a line with its key, its name and what is behind the name
pub line_end : {A E : Type 0} (r : Result A E) (new o1 o2 o3 start key w ws : List ℕ) → o1 ≡ start ++ key → o2 ≡ o1 ++ w → o3 ≡ o2 ++ ws → new ≡ cond (is_ok r) (o3 ++ 10 ∷ []) o3
    → OnOk r (new ≡ start ++ (key ++ (w ++ ws) ++ 10 ∷ []))
line_end (Err e) new o1 o2 o3 start key w ws e1 e2 e3 is = tt
line_end (Ok x) new o1 o2 o3 start key w ws e1 e2 e3 is = is ∙ ap (λ l. l ++ 10 ∷ []) (e3 ∙ ap (λ l. l ++ ws) (e2 ∙ ap (λ l. l ++ w) e1)) ∙ regroup start key w ws (10 ∷ [])

regroup_four : (start l1 l2 l3 l4 : List ℕ) → start ++ l1 ++ l2 ++ l3 ++ l4 ≡ start ++ (l1 ++ l2 ++ l3 ++ l4)
regroup_four start l1 l2 l3 l4 = simp append_assoc

-- four pieces
pub four_written : {A E : Type 0} (r : Result A E) (new o1 o2 o3 start l1 l2 l3 l4 : List ℕ) → o1 ≡ start ++ l1 → o2 ≡ o1 ++ l2 → o3 ≡ o2 ++ l3 → OnOk r (new ≡ o3 ++ l4) → OnOk r (new ≡ start ++ (l1 ++ l2 ++ l3 ++ l4))
four_written (Err e) new o1 o2 o3 start l1 l2 l3 l4 e1 e2 e3 is = tt
four_written (Ok x) new o1 o2 o3 start l1 l2 l3 l4 e1 e2 e3 is = is ∙ ap (λ l. l ++ l4) (e3 ∙ ap (λ l. l ++ l3) (e2 ∙ ap (λ l. l ++ l2) e1)) ∙ regroup_four start l1 l2 l3 l4
