-- The bits of seen N_Ports by their index.
use Rattle.std.proofs.Common.{◌≡◌, ◌≢◌, ℕ, zero, suc, ◌+◌, ◌<◌, ◌≤◌, ◌==◌, ◌⊎◌, inl, inr, Bool, true, false, cond, List, [], ◌∷◌, length, get_or, find, position, Option, Some, None, slice_get, refl, sym, ◌∙◌, ap, arith}
use Rattle.std.proofs.lemmas.Bool.{cases_order}
use Rattle.std.proofs.lemmas.Bool.Decides.{nat_tests}
use Rattle.std.proofs.lemmas.Option.{slice_get_cases}
use Rattle.fab_base.specs.Keyed.{AscendFrom}
use Rattle.fab_base.proofs.KeyedLemmas as keyed
use Rattle.sorted_lists.proofs.IndexLemmas.{key_found}
use Rattle.name_server.specs.Registry.{SeenAscend, seen_address, seen_at}
use Rattle.name_server.specs.Views.{is_at}
use Rattle.name_server.specs.declared.seen.SeenPort.{SeenPort}

module _ {X : Type 0} (key : X → ℕ) where
  key_from : (k : ℕ) (xs : List X) (i : ℕ) (d : X) → AscendFrom key k xs → i < length xs → k ≤ key (get_or xs i d)
  key_from k [] i d ascend lt = absurd (omega (arith, lt))
  key_from k (x ∷ xs) zero d ascend lt = ascend.0
  key_from k (x ∷ xs) (suc i) d ascend lt = omega (arith, key_from (key x + 1) xs i d ascend.1 (omega (arith, lt)), ascend.0)

  keys_apart : (k : ℕ) (xs : List X) (i j : ℕ) (d : X) → AscendFrom key k xs → i < j → j < length xs → key (get_or xs i d) < key (get_or xs j d)
  keys_apart k [] i j d ascend less lt = absurd (omega (arith, lt))
  keys_apart k (x ∷ xs) i zero d ascend less lt = absurd (omega (arith, less))
  keys_apart k (x ∷ xs) zero (suc j) d ascend less lt = omega (arith, key_from (key x + 1) xs j d ascend.1 (omega (arith, lt)))
  keys_apart k (x ∷ xs) (suc i) (suc j) d ascend less lt = keys_apart (key x + 1) xs i j d ascend.1 (omega (arith, less)) (omega (arith, lt))

  -- one key stands at one place
  key_once : (xs : List X) (i j : ℕ) (d : X) → AscendFrom key 0 xs → i < length xs → j < length xs → key (get_or xs i d) ≡ key (get_or xs j d) → i ≡ j
  key_once xs i j d ascend lt also same = go (cases_order i j)
    where
      go : (i ≡ j) ⊎ ((i < j) ⊎ (j < i)) → i ≡ j
      go (inl e) = e
      go (inr (inl less)) = absurd (omega (arith, same, keys_apart 0 xs i j d ascend less also))
      go (inr (inr more)) = absurd (omega (arith, same, keys_apart 0 xs j i d ascend more lt))

passes_none : {X : Type 0} (p : X → Bool) (xs : List X) (i : ℕ) (d : X) → find p xs ≡ None → i < length xs → p (get_or xs i d) ≡ false
passes_none p [] i d none lt = absurd (omega (arith, lt))
passes_none {X} p (x ∷ xs) i d none lt = go (p x) refl none (λ j rest within. passes_none p xs j d rest within) i lt
  where
    go : (b : Bool) → p x ≡ b → cond b (Some x) (find p xs) ≡ None → ((j : ℕ) → find p xs ≡ None → j < length xs → p (get_or xs j d) ≡ false) → (j : ℕ) → j < suc (length xs) → p (get_or (x ∷ xs) j d) ≡ false
    go true is some later j within = absurd (cc)
    go false is rest later zero within = is
    go false is rest later (suc j) within = later j rest (omega (arith, within))

-- ---- the seen N_Port at an address

module _ (seen : List SeenPort) (ascend : SeenAscend 0 seen) (a : ℕ) (r : Option ℕ) (search : r ≡ position (λ s. seen_address s == a) seen) where
  pub seen_here : (index : ℕ) → r ≡ Some index → (i : ℕ) → (index == i) ≡ is_at a (slice_get seen i)
  seen_here index is i = by (slice_get_cases seen i).1
    where
      place : keyed.IsPlace seen_address a seen index
      place = keyed.IsPlace-found seen_address a 0 seen seen r index ascend search refl is

      mine : (d : SeenPort) → (get_or seen index d).address ≡ a
      mine d = key_found seen_address a (get_or seen index d) seen (place.item d)

      by : ((x : SeenPort) × (i < length seen) × (slice_get seen i ≡ Some x) × (get_or seen i x ≡ x)) ⊎ ((length seen ≤ i) × (slice_get seen i ≡ None)) → (index == i) ≡ is_at a (slice_get seen i)
      by (inl (x, lt, at, here)) = go (index == i) refl ∙ sym (ap (is_at a) at)
        where
          go : (b : Bool) → (index == i) ≡ b → b ≡ (x.address == a)
          go true e =
              let same : index ≡ i = grind (arith, nat_tests) in
              let address : x.address ≡ a = ap (λ (s : SeenPort). s.address) (sym here) ∙ ap (λ n. (get_or seen n x).address) (sym same) ∙ mine x in
              grind (arith, nat_tests)
          go false e =
              let other : x.address ≢ a = λ f. (
              let same : index ≡ i = key_once seen_address seen index i x ascend place.within lt (mine x ∙ sym f ∙ ap (λ (s : SeenPort). s.address) (sym here)) in grind (arith, nat_tests)) in
              grind (arith, nat_tests)
      by (inr (past, at)) = (let within = place.within in grind (arith, nat_tests)) ∙ sym (ap (is_at a) at)

  pub seen_nowhere : r ≡ None → (i : ℕ) → is_at a (slice_get seen i) ≡ false
  seen_nowhere is i = by (slice_get_cases seen i).1
    where
      none : seen_at a seen ≡ None
      none = keyed.item_at-not_found seen_address a seen seen r search refl is

      by : ((x : SeenPort) × (i < length seen) × (slice_get seen i ≡ Some x) × (get_or seen i x ≡ x)) ⊎ ((length seen ≤ i) × (slice_get seen i ≡ None)) → is_at a (slice_get seen i) ≡ false
      by (inl (x, lt, at, here)) = ap (is_at a) at ∙ ap (λ (s : SeenPort). s.address == a) (sym here) ∙ passes_none (λ (s : SeenPort). s.address == a) seen i x none lt
      by (inr (past, at)) = ap (is_at a) at
