-- Zones and zone sets, line by line.
use Rattle.std.proofs.Common.{◌≡◌, ℕ, zero, suc, ◌+◌, ◌<◌, List, [], ◌∷◌, ◌++◌, Bool, true, false, not, cond, eqb, ltb, ◌&&◌, Option, Some, None, Result, Ok, Err, take, slice_get, Ordering, Less, Equal, Greater, refl, sym, ◌∙◌, ap, arith}
use Rattle.std.specs.Option.{option_map, option_and_then, is_some, ok_or}
use Rattle.std.specs.List.{list_any}
use Rattle.std.specs.Ordering.{MatchOrdering, is_ge, nat_cmp}
use Rattle.std.proofs.lemmas.Cmp.{ranked}
use Rattle.std.proofs.lemmas.List.{append_assoc}
use Rattle.std.proofs.lemmas.List.Folds.{list_all-append}
use Rattle.std.proofs.lemmas.Bool.{lt-ltb, le-ltb, and_from, and_right}
use Rattle.fab_config.specs.Settings.{is_zone_name}
use Rattle.fab_config.specs.Names.{place}
use Rattle.fab_config.specs.Values.{all_of, once, once_from, once_more, zone_name}
use Rattle.fab_config.specs.Text.{each_once, listed, named_list, with_name, named_put, with_named, is_later}
use Rattle.fab_config.specs.declared.Activation.{Activation}
use Rattle.fab_config.specs.declared.ConfigWhy.{ConfigWhy}
use Rattle.fab_config.specs.declared.ConfigWhy.TheVariants as why
use Rattle.fab_config.proofs.ListLemmas.{take_slice}

-- ---- words that each say a number, once

-- what is there, and what the rest adds
abbrev pub joined : List ℕ → Option (List ℕ) → Option (List ℕ)
joined acc more = option_map (λ (xs : List ℕ). acc ++ once_from acc xs) more

module _ (says : List ℕ → Option ℕ) where
  pub joined_more : (acc w : List ℕ) (ws : List (List ℕ)) (x : ℕ) → says w ≡ Some x → joined acc (all_of says (w ∷ ws)) ≡ joined (once_more acc x) (all_of says ws)
  joined_more acc w ws x e =
      ap (λ (o : Option ℕ). joined acc (option_and_then (λ (x : ℕ). option_map (λ (xs : List ℕ). x ∷ xs) (all_of says ws)) o)) e
      ∙ by (list_any (λ y. eqb x y) acc) refl (all_of says ws)
    where
      by : (t : Bool) → list_any (λ y. eqb x y) acc ≡ t → (o : Option (List ℕ))
          → joined acc (option_map (λ (xs : List ℕ). x ∷ xs) o) ≡ joined (cond (list_any (λ y. eqb x y) acc) acc (acc ++ x ∷ [])) o
      by t f None = refl
      by true f (Some xs) =
          ap (λ b. Some (acc ++ cond b (once_from acc xs) (x ∷ once_from (acc ++ x ∷ []) xs))) f
          ∙ sym (ap (λ b. Some (cond b acc (acc ++ x ∷ []) ++ once_from (cond b acc (acc ++ x ∷ [])) xs)) f)
      by false f (Some xs) =
          ap (λ b. Some (acc ++ cond b (once_from acc xs) (x ∷ once_from (acc ++ x ∷ []) xs))) f
          ∙ ap (λ (m : List ℕ). Some m) (sym (append_assoc acc (x ∷ []) (once_from (acc ++ x ∷ []) xs)))
          ∙ sym (ap (λ b. Some (cond b acc (acc ++ x ∷ []) ++ once_from (cond b acc (acc ++ x ∷ [])) xs)) f)

  -- the number that a word says
  pub said : (w : List ℕ) (x : ℕ) → Ok x ≡ ok_or (says w) why.Value → says w ≡ Some x
  said w x e = by (says w) e
    where
      by : (o : Option ℕ) → ◌≡◌ {A = Result ℕ ConfigWhy} (Ok x) (ok_or o why.Value) → o ≡ Some x
      by None f = absurd (cc)
      by (Some y) f = cc

  -- a word that says none is a fault of all
  pub unsaid : (acc w : List ℕ) (ws all : List (List ℕ)) (v : ConfigWhy) → option_map once (all_of says all) ≡ joined acc (all_of says (w ∷ ws)) → Err v ≡ ok_or (says w) why.Value → each_once says all ≡ Err v
  unsaid acc w ws all v on e = by (says w) refl e
    where
      by : (o : Option ℕ) → says w ≡ o → ◌≡◌ {A = Result ℕ ConfigWhy} (Err v) (ok_or o why.Value) → each_once says all ≡ Err v
      by None f g =
          let none : option_map once (all_of says all) ≡ None = on ∙ ap (λ (o : Option ℕ). joined acc (option_and_then (λ (x : ℕ). option_map (λ (xs : List ℕ). x ∷ xs) (all_of says ws)) o)) f in
          let is : v ≡ why.Value = cc in
          ap (λ (o : Option (List ℕ)). ok_or o why.Value) none ∙ ap (λ (u : ConfigWhy). Err u) (sym is)
      by (Some x) f g = absurd (cc)

  -- ---- a list, which has one item at least

  -- ---- a name and a list under it
  module _ {X : Type 0} (names : List (List ℕ)) (put : List ℕ → List ℕ → Result X ConfigWhy) where
    module _ (ws : List (List ℕ)) (n : List ℕ) (more : List (List ℕ)) (is : ws ≡ n ∷ more) where
      fresh : is_some (place n names) ≡ false → with_named names says put ws ≡ named_put put (with_name (zone_name n) (listed says more))
      fresh e = ap (with_named names says put) is ∙ ap (λ b. cond b (Err why.Twice) (named_put put (named_list says (n ∷ more)))) e

      named : is_some (place n names) ≡ false → is_zone_name n ≡ true → with_named names says put ws ≡ named_put put (with_name (Some n) (listed says more))
      named e f = fresh e ∙ ap (λ b. named_put put (with_name (cond b (Some n) None) (listed says more))) f

      pub with_list : (l : List ℕ) → is_some (place n names) ≡ false → is_zone_name n ≡ true → listed says more ≡ Some l → with_named names says put ws ≡ put n l
      with_list l e f g = named e f ∙ ap (λ (o : Option (List ℕ)). named_put put (with_name (Some n) o)) g

-- ---- limits

-- ---- activations

-- a number is below another where its order isn't above or the same
below_is : (x y : ℕ) → ltb x y ≡ not (is_ge (nat_cmp x y))
below_is x y = by (nat_cmp x y) (ranked x y (nat_cmp x y) refl)
  where
    by : (o : Ordering) → MatchOrdering o (x < y) (x ≡ y) (y < x) → ltb x y ≡ not (is_ge o)
    by Less lt = lt-ltb x y lt
    by Equal is = le-ltb x y (omega (arith, is))
    by Greater gt = le-ltb x y (omega (arith, gt))

module _ (m : ℕ) where
  not_later : (l : List Activation) (i : ℕ) (a : Activation) → slice_get l i ≡ Some a → ltb a.moment m ≡ false → is_later l m ≡ false
  not_later [] i a e fails = absurd (cc)
  not_later (b ∷ l) zero a e fails = let is : b ≡ a = cc in ap (λ c. c && is_later l m) (ap (λ (z : Activation). ltb z.moment m) is ∙ fails)
  not_later (b ∷ l) (suc i) a e fails = and_right (ltb b.moment m) (is_later l m) (not_later l i a e fails)

  module _ (l : List Activation) (i : ℕ) (a : Activation) (there : slice_get l i ≡ Some a) where
    pub later_no : is_ge (nat_cmp a.moment m) ≡ true → false ≡ is_later l m
    later_no e = sym (not_later l i a there (below_is a.moment m ∙ ap not e))

    pub later_more : is_ge (nat_cmp a.moment m) ≡ false → is_later (take i l) m ≡ true → is_later (take (i + 1) l) m ≡ true
    later_more e was =
        ap (λ k. is_later k m) (take_slice l i a there) ∙ list_all-append (λ (z : Activation). ltb z.moment m) (take i l) (a ∷ [])
        ∙ and_from (is_later (take i l) m) (ltb a.moment m && true) was (and_from (ltb a.moment m) true (below_is a.moment m ∙ ap not e) refl)
