-- Lists of zones or of zone sets: each passes its test, their names differ, and they are within the limits.
use Rattle.std.proofs.Common.{◌≡◌, ℕ, ◌+◌, ◌≤◌, List, [], ◌∷◌, ◌++◌, length, map, Bool, true, false, cond, not, eqb, ltb, leb, ◌&&◌, ◌||◌, Some, Ok, Err, refl, sym, ◌∙◌, ap, subst, arith}
use Rattle.std.specs.Option.{is_some}
use Rattle.std.specs.List.{list_all, list_any, sum_by}
use Rattle.std.proofs.lemmas.List.{append-nil, length-append, length_push}
use Rattle.std.proofs.lemmas.List.Folds.{list_all-append, list_any-append}
use Rattle.std.proofs.lemmas.List.Sums.{sum_by-append}
use Rattle.std.proofs.lemmas.Bool.{leb-true, le-leb, le-ltb, ltb-false, and_parts, and_from, or_parts, or_from}
use Rattle.std.specs.Cmp.Lexicographic.{nat_list_eq_equiv}
use Rattle.fab_config.specs.Settings.{same_bytes, all_differ, is_zone_name, are_zones, are_sets}
use Rattle.fab_config.specs.Names.{place, place_from}
use Rattle.fab_config.specs.Text.{grown}
use Rattle.fab_config.specs.declared.Zone.{Zone}
use Rattle.fab_config.specs.declared.ZoneSet.{ZoneSet}
use Rattle.fab_config.specs.declared.ConfigWhy.TheVariants as why
use Rattle.fab_config.proofs.ListLemmas.{any_map}
use Rattle.fab_config.proofs.FoldLemmas.{place_past, differs_before}

-- ---- what differs

pub any_same : {X : Type 0} (f g : X → Bool) → ((x : X) → f x ≡ g x) → (xs : List X) → list_any f xs ≡ list_any g xs
any_same f g e [] = refl
any_same f g e (x ∷ xs) = ap (λ b. b || list_any f xs) (e x) ∙ ap (λ b. g x || b) (any_same f g e xs)

-- a new name differs from the others
pub differ_push : {X : Type 0} (same : X → X → Bool) (xs : List X) (x : X) → all_differ same xs ≡ true → list_any (λ y. same y x) xs ≡ false → all_differ same (xs ++ x ∷ []) ≡ true
differ_push same [] x all none = refl
differ_push {X} same (y ∷ xs) x all none =
    let parts = and_parts _ _ all in
    let split = or_parts (same y x) (list_any (λ z. same z x) xs) none in
    and_from (not (list_any (same y) (xs ++ x ∷ []))) (all_differ same (xs ++ x ∷ []))
    (ap not (list_any-append (same y) xs (x ∷ [])) ∙ new (list_any (same y) xs) (same y x) parts.0 split.0)
    (differ_push same xs x parts.1 split.1)
  where
    new : (a b : Bool) → not a ≡ true → b ≡ false → not (a || (b || false)) ≡ true
    new false false h e = refl
    new false true h e = absurd (cc)
    new true b h e = absurd (cc)

-- a name without a place differs from each
none_differs : (n : ℕ) (x : List ℕ) (names : List (List ℕ)) → is_some (place_from n x names) ≡ false → list_any (λ y. same_bytes x y) names ≡ false
none_differs n x [] e = refl
none_differs n x (y ∷ names) e = by (same_bytes x y) refl (none_differs (n + 1) x names) e
  where
    by : (t : Bool) → same_bytes x y ≡ t → (is_some (place_from (n + 1) x names) ≡ false → list_any (λ z. same_bytes x z) names ≡ false)
        → is_some (cond t (Some n) (place_from (n + 1) x names)) ≡ false → (same_bytes x y || list_any (λ z. same_bytes x z) names) ≡ false
    by true f ih h = absurd (cc)
    by false f ih h = ap (λ b. b || list_any (λ z. same_bytes x z) names) f ∙ ih h

pub all_push : {X : Type 0} (p : X → Bool) (xs : List X) (x : X) → list_all p xs ≡ true → p x ≡ true → list_all p (xs ++ x ∷ []) ≡ true
all_push p xs x all e = list_all-append p xs (x ∷ []) ∙ and_from (list_all p xs) (p x && true) all (and_from (p x) true e refl)

-- a new name has no place
pub no_place : {X : Type 0} (named : X → List ℕ) (done more : List X) (x : X) → all_differ (λ (y : X) (z : X). same_bytes (named y) (named z)) (done ++ x ∷ more) ≡ true → is_some (place (named x) (map named done)) ≡ false
no_place {X} named done more x h =
    let new = differs_before (λ (y : X) (z : X). same_bytes (named y) (named z)) (λ y z. nat_list_eq_equiv.symm (named y) (named z)) x done more h in
    ap (λ l. is_some (place (named x) l)) (sym (append-nil (map named done)))
    ∙ ap is_some (place_past 0 (named x) (map named done) [] (any_map (λ y. same_bytes (named x) y) named done ∙ new))

-- ---- lists within their limits

-- each item passes a test, and their names differ; so many items are the most, and so many numbers in all of them
pub record AreListed {X : Type 0} (named numbers : X → List ℕ) (check : X → Bool) (most most_numbers : ℕ) (l : List X) : Type 0 where
  pub checked : list_all check l ≡ true
  pub differ : all_differ (λ (x : X) (y : X). same_bytes (named x) (named y)) l ≡ true
  pub few : leb (length l) most ≡ true
  pub few_numbers : leb (sum_by (λ (x : X). length (numbers x)) l) most_numbers ≡ true

module _ {X : Type 0} (named numbers : X → List ℕ) (check : X → Bool) (most most_numbers : ℕ) where
  pub are_of : (l : List X)
      → (list_all check l && all_differ (λ (x : X) (y : X). same_bytes (named x) (named y)) l && leb (length l) most && leb (sum_by (λ (x : X). length (numbers x)) l) most_numbers) ≡ true
      → AreListed named numbers check most most_numbers l
  are_of l h =
      let same : X → X → Bool = λ (x : X) (y : X). same_bytes (named x) (named y) in
      let one = and_parts _ _ h in
      let two = and_parts _ _ one.0 in
      let three = and_parts _ _ two.0 in
      record { checked = three.0; differ = three.1; few = two.1; few_numbers = one.1 }

  pub are_from : (l : List X) → AreListed named numbers check most most_numbers l
      → (list_all check l && all_differ (λ (x : X) (y : X). same_bytes (named x) (named y)) l && leb (length l) most && leb (sum_by (λ (x : X). length (numbers x)) l) most_numbers) ≡ true
  are_from l are =
      let same : X → X → Bool = λ (x : X) (y : X). same_bytes (named x) (named y) in
      and_from (list_all check l && all_differ same l && leb (length l) most) (leb (sum_by (λ (x : X). length (numbers x)) l) most_numbers)
      (and_from (list_all check l && all_differ same l) (leb (length l) most) (and_from (list_all check l) (all_differ same l) are.checked are.differ) are.few) are.few_numbers

  -- a list stays one where it grows by an item with a new name
  pub grown_fits : (l more : List X) (x : X) → check x ≡ true → is_some (place (named x) (map named l)) ≡ false → AreListed named numbers check most most_numbers l
      → grown numbers most most_numbers (l ++ x ∷ []) ≡ Ok more → (AreListed named numbers check most most_numbers more) × (length l ≤ length more)
  grown_fits l more x test fresh are e = by (ltb most (length (l ++ x ∷ []))) (ltb most_numbers (sum_by (λ (y : X). length (numbers y)) (l ++ x ∷ []))) refl refl e
    where
      new : list_any (λ (y : X). same_bytes (named y) (named x)) l ≡ false
      new =
          sym (any_same (λ (y : X). same_bytes (named x) (named y)) (λ (y : X). same_bytes (named y) (named x)) (λ y. nat_list_eq_equiv.symm (named x) (named y)) l)
          ∙ sym (any_map (λ y. same_bytes (named x) y) named l) ∙ none_differs 0 (named x) (map named l) fresh

      by : (s t : Bool) → ltb most (length (l ++ x ∷ [])) ≡ s → ltb most_numbers (sum_by (λ (y : X). length (numbers y)) (l ++ x ∷ [])) ≡ t
          → cond (s || t) (Err why.Limit) (Ok (l ++ x ∷ [])) ≡ Ok more → (AreListed named numbers check most most_numbers more) × (length l ≤ length more)
      by true t a b h = absurd (cc)
      by false true a b h = absurd (cc)
      by false false a b h =
          let is : l ++ x ∷ [] ≡ more = cc in
          let all : AreListed named numbers check most most_numbers (l ++ x ∷ []) = record {
            checked = all_push check l x are.checked test;
            differ = differ_push (λ (y : X) (z : X). same_bytes (named y) (named z)) l x are.differ new;
            few = le-leb (length (l ++ x ∷ [])) most (ltb-false most (length (l ++ x ∷ [])) a);
            few_numbers = le-leb (sum_by (λ (y : X). length (numbers y)) (l ++ x ∷ [])) most_numbers (ltb-false most_numbers (sum_by (λ (y : X). length (numbers y)) (l ++ x ∷ [])) b);
          } in
          (subst (λ m. AreListed named numbers check most most_numbers m) is all, (let k = length_push l x in let g = ap length is in omega (arith, k, g)))

  -- a part of a list is within the limits
  pub grown_back : (done more : List X) (x : X) → AreListed named numbers check most most_numbers (done ++ x ∷ more) → grown numbers most most_numbers (done ++ x ∷ []) ≡ Ok (done ++ x ∷ [])
  grown_back done more x are =
      let all = done ++ x ∷ more in
      let here = done ++ x ∷ [] in
      let size : X → ℕ = λ (y : X). length (numbers y) in
      let few : length all ≤ most = leb-true (length all) most are.few in
      let sum : sum_by size all ≤ most_numbers = leb-true (sum_by size all) most_numbers are.few_numbers in
      let l1 = length-append done (x ∷ more) in
      let l2 = length-append done (x ∷ []) in
      let s1 = sum_by-append size done (x ∷ more) in
      let s2 = sum_by-append size done (x ∷ []) in
      let s3 = sum_by-append size (x ∷ []) more in
      ap (λ t. cond t (Err why.Limit) (Ok here)) (or_from (ltb most (length here)) (ltb most_numbers (sum_by size here)) (le-ltb most (length here) (omega (arith, few, l1, l2))) (le-ltb most_numbers (sum_by size here) (omega (arith, sum, s1, s2, s3))))

-- ---- zones

abbrev pub zone_check : Zone → Bool
zone_check z = is_zone_name z.name && ltb 0 (length z.members) && all_differ (λ x y. eqb x y) z.members

pub record IsZone (z : Zone) : Type 0 where
  pub is_name : is_zone_name z.name ≡ true
  pub some : ltb 0 (length z.members) ≡ true
  pub differ : all_differ (λ x y. eqb x y) z.members ≡ true

pub zone_of : (z : Zone) → zone_check z ≡ true → IsZone z
zone_of z h =
    let one = and_parts _ _ h in
    let two = and_parts _ _ one.0 in
    record { is_name = two.0; some = two.1; differ = one.1 }

abbrev pub AreZones : List Zone → Type 0
AreZones l = AreListed (λ (z : Zone). z.name) (λ (z : Zone). z.members) zone_check 1000 20000 l

pub zones_of : (l : List Zone) → are_zones l ≡ true → AreZones l
zones_of l h = are_of (λ (z : Zone). z.name) (λ (z : Zone). z.members) zone_check 1000 20000 l h

-- ---- zone sets

abbrev pub set_check : ℕ → ZoneSet → Bool
set_check n s = is_zone_name s.name && ltb 0 (length s.places) && list_all (λ p. ltb p n) s.places && all_differ (λ x y. eqb x y) s.places

pub record IsSet (n : ℕ) (s : ZoneSet) : Type 0 where
  pub is_name : is_zone_name s.name ≡ true
  pub some : ltb 0 (length s.places) ≡ true
  pub below : list_all (λ p. ltb p n) s.places ≡ true
  pub differ : all_differ (λ x y. eqb x y) s.places ≡ true

pub set_of : (n : ℕ) (s : ZoneSet) → set_check n s ≡ true → IsSet n s
set_of n s h =
    let one = and_parts _ _ h in
    let two = and_parts _ _ one.0 in
    let three = and_parts _ _ two.0 in
    record { is_name = three.0; some = three.1; below = two.1; differ = one.1 }

abbrev pub AreSets : ℕ → List ZoneSet → Type 0
AreSets n l = AreListed (λ (s : ZoneSet). s.name) (λ (s : ZoneSet). s.places) (set_check n) 64 4000 l

pub sets_of : (n : ℕ) (l : List ZoneSet) → are_sets n l ≡ true → AreSets n l
sets_of n l h = are_of (λ (s : ZoneSet). s.name) (λ (s : ZoneSet). s.places) (set_check n) 64 4000 l h
