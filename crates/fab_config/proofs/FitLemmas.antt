-- Each line leaves every value of a draft in its range.
use Rattle.std.proofs.Common.{◌≡◌, ℕ, suc, ◌+◌, ◌<◌, ◌≤◌, List, [], ◌∷◌, ◌++◌, length, Bool, true, false, cond, eqb, ltb, leb, ◌&&◌, Option, Some, None, Result, Ok, Err, refl, sym, ◌∙◌, ap, subst, arith}
use Rattle.std.specs.Option.{option_map, option_and_then, is_some}
use Rattle.std.specs.List.{list_any, list_all}
use Rattle.std.proofs.lemmas.List.{append_assoc, length_push, map_push}
use Rattle.std.proofs.lemmas.Bool.{ltb-true, lt-ltb, le-leb, ltb-false, and_parts, and_from}
use Rattle.fab_base.specs.Layout.{big_endian}
use Rattle.fab_config.specs.Settings.{is_between, is_station, is_zone_name, same_bytes, all_differ, are_zones, are_sets, are_activations, do_rise}
use Rattle.fab_config.specs.Lines.{is_skipped, is_ascii, words}
use Rattle.fab_config.specs.Names.{place, place_from, zone_names, set_names}
use Rattle.fab_config.specs.Values.{number, number_between, name, station, fc_map, all_of, only, once, once_from, octets_of}
use Rattle.fab_config.specs.Text.{keyword_of, set_once, listed, with_name, named_put, with_named, zone_put, zones_with, set_put, sets_with, zone_place, is_later, activated, activation, activation_put, activations_with, changed, range_of, with_number, with_keyword, with_key, with_words, line_read}
use Rattle.fab_config.specs.Fitting.{Fits, passes}
use Rattle.fab_config.specs.declared.Zone.{Zone}
use Rattle.fab_config.specs.declared.ZoneSet.{ZoneSet}
use Rattle.fab_config.specs.declared.Activation.{Activation}
use Rattle.fab_config.specs.declared.ConfigWhy.{ConfigWhy}
use Rattle.fab_config.specs.declared.ConfigWhy.TheVariants as why
use Rattle.fab_config.specs.declared.draft.Draft.{Draft}
use Rattle.fab_config.specs.declared.keyword.Keyword.{Keyword}
use Rattle.fab_config.specs.declared.keyword.Keyword.TheVariants.{FcfMac, Switch, FcMap, Number, Zones, Sets, Activations}
use Rattle.fab_config.specs.declared.keyword.NumberKey.{NumberKey}
use Rattle.fab_config.specs.declared.keyword.NumberKey.TheVariants.{Vlan, Domain, Pool, Priority, Period, Window, Logins}
use Rattle.std.specs.Cmp.{nat_eq_equiv}
use Rattle.fab_config.proofs.ListLemmas.{all_more}
use Rattle.fab_config.proofs.ListedLemmas.{any_same, all_push, differ_push, are_from, grown_fits, zone_check, zones_of, set_check, sets_of}

-- ---- tests

-- what is chosen by a test
chosen : {X : Type 0} (test : X → Bool) (o : Option X) → passes test (option_and_then (λ (x : X). cond (test x) (Some x) None) o) ≡ true
chosen test None = refl
chosen {X} test (Some x) = by (test x) refl
  where
    by : (t : Bool) → test x ≡ t → passes test (cond t (Some x) None) ≡ true
    by true e = e
    by false e = refl

-- a line's only value passes what each value does
pub only_passes : {X : Type 0} (says : List ℕ → Option X) (test : X → Bool) → ((w : List ℕ) → passes test (says w) ≡ true) → (ws : List (List ℕ)) → passes test (only says ws) ≡ true
only_passes says test each [] = refl
only_passes says test each (w ∷ []) = each w
only_passes says test each (w ∷ x ∷ ws) = refl

fc_map_passes : (w : List ℕ) → passes (is_between 0x0efc00 0x0efcff) (fc_map w) ≡ true
fc_map_passes w = by (octets_of 3 w)
  where
    by : (o : Option (List ℕ)) → passes (is_between 0x0efc00 0x0efcff) (option_and_then (λ (l : List ℕ). cond (is_between 0x0efc00 0x0efcff (big_endian l)) (Some (big_endian l)) None) o) ≡ true
    by None = refl
    by (Some l) = chosen (is_between 0x0efc00 0x0efcff) (Some (big_endian l))

-- ---- what differs

-- numbers of which each counts once differ
once_differ : (acc xs : List ℕ) → all_differ (λ x y. eqb x y) acc ≡ true → all_differ (λ x y. eqb x y) (acc ++ once_from acc xs) ≡ true
once_differ acc [] h = ap (all_differ (λ x y. eqb x y)) (Rattle.std.proofs.lemmas.List.append-nil acc) ∙ h
once_differ acc (x ∷ xs) h = by (list_any (λ y. eqb x y) acc) refl (once_differ acc xs h) (λ g. once_differ (acc ++ x ∷ []) xs (differ_push (λ x y. eqb x y) acc x h (sym (any_same (λ y. eqb x y) (λ y. eqb y x) (nat_eq_equiv.symm x) acc) ∙ g)))
  where
    by : (t : Bool) → list_any (λ y. eqb x y) acc ≡ t → all_differ (λ x y. eqb x y) (acc ++ once_from acc xs) ≡ true → (list_any (λ y. eqb x y) acc ≡ false → all_differ (λ x y. eqb x y) ((acc ++ x ∷ []) ++ once_from (acc ++ x ∷ []) xs) ≡ true)
        → all_differ (λ x y. eqb x y) (acc ++ cond (list_any (λ y. eqb x y) acc) (once_from acc xs) (x ∷ once_from (acc ++ x ∷ []) xs)) ≡ true
    by true e old new = ap (λ b. all_differ (λ x y. eqb x y) (acc ++ cond b (once_from acc xs) (x ∷ once_from (acc ++ x ∷ []) xs))) e ∙ old
    by false e old new = ap (λ b. all_differ (λ x y. eqb x y) (acc ++ cond b (once_from acc xs) (x ∷ once_from (acc ++ x ∷ []) xs))) e ∙ ap (all_differ (λ x y. eqb x y)) (sym (append_assoc acc (x ∷ []) (once_from (acc ++ x ∷ []) xs))) ∙ new e

-- ---- lines with a name

-- what was put is under a new name, which is one, with the list
pub record IsPut {X : Type 0} (names : List (List ℕ)) (says : List ℕ → Option ℕ) (put : List ℕ → List ℕ → Result X ConfigWhy) (x : X) : Type 0 where
  pub n : List ℕ
  pub list : List ℕ
  pub ws : List (List ℕ)
  pub new : is_some (place n names) ≡ false
  pub is_name : is_zone_name n ≡ true
  pub says_list : listed says ws ≡ Some list
  pub is : put n list ≡ Ok x

pub put_of : {X : Type 0} (names : List (List ℕ)) (says : List ℕ → Option ℕ) (put : List ℕ → List ℕ → Result X ConfigWhy) (x : X) (ws : List (List ℕ)) → with_named names says put ws ≡ Ok x → IsPut names says put x
put_of names says put x [] e = absurd (cc)
put_of {X} names says put x (n ∷ ws) e = by (is_some (place n names)) (is_zone_name n) (listed says ws) refl refl refl e
  where
    by : (s t : Bool) (o : Option (List ℕ)) → is_some (place n names) ≡ s → is_zone_name n ≡ t → listed says ws ≡ o
        → cond s (Err why.Twice) (named_put put (with_name (cond t (Some n) None) o)) ≡ Ok x → IsPut names says put x
    by true t o a b c h = absurd (cc)
    by false false o a b c h = absurd (cc)
    by false true None a b c h = absurd (cc)
    by false true (Some l) a b c h = record { n = n; list = l; ws = ws; new = a; is_name = b; says_list = c; is = h }

-- a list has an item at least, and its numbers differ
listed_some : (says : List ℕ → Option ℕ) (ws : List (List ℕ)) (l : List ℕ) → listed says ws ≡ Some l → (0 < length l) × (all_differ (λ x y. eqb x y) l ≡ true)
listed_some says [] l e = absurd (cc)
listed_some says (w ∷ ws) l e = by (says w) (all_of says ws) e
  where
    one : (x : ℕ) (xs : List ℕ) → once (x ∷ xs) ≡ l → (0 < length l) × (all_differ (λ x y. eqb x y) l ≡ true)
    one x xs f = (
      (let h : length (once (x ∷ xs)) ≡ length l = ap length f in let g : 0 < length (once (x ∷ xs)) = omega arith in omega (arith, h, g)),
      ap (all_differ (λ x y. eqb x y)) (sym f) ∙ once_differ [] (x ∷ xs) refl,
    )

    by : (o : Option ℕ) (p : Option (List ℕ)) → option_map once (option_and_then (λ (x : ℕ). option_map (λ (xs : List ℕ). x ∷ xs) p) o) ≡ Some l → (0 < length l) × (all_differ (λ x y. eqb x y) l ≡ true)
    by None p f = absurd (cc)
    by (Some x) None f = absurd (cc)
    by (Some x) (Some xs) f = one x xs (let is : once (x ∷ xs) ≡ l = cc in is)

pub zones_fit_after : (zones more : List Zone) (ws : List (List ℕ)) → zones_with zones ws ≡ Ok more → are_zones zones ≡ true → (are_zones more ≡ true) × (length zones ≤ length more)
unfolding zones_with
zones_fit_after zones more ws e fit =
    let p : IsPut (zone_names zones) name (zone_put zones) more = put_of (zone_names zones) name (zone_put zones) more ws e in
    let z : Zone = record { name = p.n; members = p.list } in
    let l = listed_some name p.ws p.list p.says_list in
    let test : zone_check z ≡ true = and_from (is_zone_name p.n && ltb 0 (length p.list)) (all_differ (λ x y. eqb x y) p.list) (and_from (is_zone_name p.n) (ltb 0 (length p.list)) p.is_name (lt-ltb 0 (length p.list) l.0)) l.1 in
    let g = grown_fits (λ (y : Zone). y.name) (λ (y : Zone). y.members) zone_check 1000 20000 zones more z test p.new (zones_of zones fit) p.is in
    (are_from (λ (y : Zone). y.name) (λ (y : Zone). y.members) zone_check 1000 20000 more g.0, g.1)

-- ---- zone sets

-- a place is one of the list
place_below : (k : ℕ) (x : List ℕ) (names : List (List ℕ)) (p : ℕ) → place_from k x names ≡ Some p → p < k + length names
place_below k x [] p e = absurd (cc)
place_below k x (y ∷ names) p e = by (same_bytes x y) (λ f. place_below (k + 1) x names p f) e
  where
    by : (t : Bool) → (place_from (k + 1) x names ≡ Some p → p < k + 1 + length names) → cond t (Some k) (place_from (k + 1) x names) ≡ Some p → p < k + suc (length names)
    by true ih h = let is : k ≡ p = cc in omega (arith, is)
    by false ih h = let g = ih h in omega (arith, g)

all_below : (says : List ℕ → Option ℕ) (n : ℕ) → ((w : List ℕ) (p : ℕ) → says w ≡ Some p → p < n) → (ws : List (List ℕ)) (l : List ℕ) → all_of says ws ≡ Some l → list_all (λ p. ltb p n) l ≡ true
all_below says n below [] l e = let is : [] ≡ l = cc in ap (list_all (λ p. ltb p n)) (sym is)
all_below says n below (w ∷ ws) l e = by (says w) (all_of says ws) refl (all_below says n below ws) e
  where
    by : (o : Option ℕ) (p : Option (List ℕ)) → says w ≡ o → ((m : List ℕ) → p ≡ Some m → list_all (λ p. ltb p n) m ≡ true)
        → option_and_then (λ (x : ℕ). option_map (λ (xs : List ℕ). x ∷ xs) p) o ≡ Some l → list_all (λ p. ltb p n) l ≡ true
    by None p f ih h = absurd (cc)
    by (Some x) None f ih h = absurd (cc)
    by (Some x) (Some xs) f ih h = let is : x ∷ xs ≡ l = cc in ap (list_all (λ p. ltb p n)) (sym is) ∙ and_from (ltb x n) (list_all (λ p. ltb p n) xs) (lt-ltb x n (below w x f)) (ih xs refl)

once_all : (test : ℕ → Bool) (acc xs : List ℕ) → list_all test xs ≡ true → list_all test (once_from acc xs) ≡ true
once_all test acc [] h = refl
once_all test acc (x ∷ xs) h = by (list_any (λ y. eqb x y) acc) (and_parts _ _ h).0 (once_all test acc xs (and_parts _ _ h).1) (once_all test (acc ++ x ∷ []) xs (and_parts _ _ h).1)
  where
    by : (t : Bool) → test x ≡ true → list_all test (once_from acc xs) ≡ true → list_all test (once_from (acc ++ x ∷ []) xs) ≡ true → list_all test (cond t (once_from acc xs) (x ∷ once_from (acc ++ x ∷ []) xs)) ≡ true
    by true e old new = old
    by false e old new = and_from (test x) (list_all test (once_from (acc ++ x ∷ []) xs)) e new

pub listed_below : (says : List ℕ → Option ℕ) (n : ℕ) → ((w : List ℕ) (p : ℕ) → says w ≡ Some p → p < n) → (ws : List (List ℕ)) (l : List ℕ) → listed says ws ≡ Some l → list_all (λ p. ltb p n) l ≡ true
listed_below says n below [] l e = absurd (cc)
listed_below says n below (w ∷ ws) l e = by (all_of says (w ∷ ws)) refl e
  where
    by : (o : Option (List ℕ)) → all_of says (w ∷ ws) ≡ o → option_map once o ≡ Some l → list_all (λ p. ltb p n) l ≡ true
    by None f h = absurd (cc)
    by (Some m) f h = let is : once m ≡ l = cc in ap (list_all (λ p. ltb p n)) (sym is) ∙ once_all (λ p. ltb p n) [] m (all_below says n below (w ∷ ws) m f)

pub sets_fit_after : (zones : List Zone) (sets more : List ZoneSet) (ws : List (List ℕ)) → sets_with zones sets ws ≡ Ok more → are_sets (length zones) sets ≡ true → (are_sets (length zones) more ≡ true) × (length sets ≤ length more)
unfolding sets_with
sets_fit_after zones sets more ws e fit =
    let n = length zones in
    let p : IsPut (set_names sets) (zone_place zones) (set_put sets) more = put_of (set_names sets) (zone_place zones) (set_put sets) more ws e in
    let s : ZoneSet = record { name = p.n; places = p.list } in
    let l = listed_some (zone_place zones) p.ws p.list p.says_list in
    let below = listed_below (zone_place zones) n (λ w q f. let g = place_below 0 w (zone_names zones) q f in let h = Rattle.std.proofs.lemmas.List.length-map zones (λ (y : Zone). y.name) in omega (arith, g, h)) p.ws p.list p.says_list in
    let test : set_check n s ≡ true = and_from (is_zone_name p.n && ltb 0 (length p.list) && list_all (λ p. ltb p n) p.list) (all_differ (λ x y. eqb x y) p.list)
    (and_from (is_zone_name p.n && ltb 0 (length p.list)) (list_all (λ p. ltb p n) p.list) (and_from (is_zone_name p.n) (ltb 0 (length p.list)) p.is_name (lt-ltb 0 (length p.list) l.0)) below) l.1 in
    let g = grown_fits (λ (y : ZoneSet). y.name) (λ (y : ZoneSet). y.places) (set_check n) 64 4000 sets more s test p.new (sets_of n sets fit) p.is in
    (are_from (λ (y : ZoneSet). y.name) (λ (y : ZoneSet). y.places) (set_check n) 64 4000 more g.0, g.1)

-- ---- more zones and more sets

lt_more : (m n p : ℕ) → m ≤ n → ltb p m ≡ true → ltb p n ≡ true
lt_more m n p le e = lt-ltb p n (let h : p < m = ltb-true p m e in omega (arith, h))

sets_more : (m n : ℕ) (sets : List ZoneSet) → m ≤ n → are_sets m sets ≡ true → are_sets n sets ≡ true
sets_more m n sets le fit =
    let are = sets_of m sets fit in
    are_from (λ (y : ZoneSet). y.name) (λ (y : ZoneSet). y.places) (set_check n) 64 4000 sets (record {
      checked = all_more (set_check m) (set_check n) (λ s h.
          let a = and_parts _ _ h in
          let b = and_parts _ _ a.0 in
          and_from (is_zone_name s.name && ltb 0 (length s.places) && list_all (λ p. ltb p n) s.places) (all_differ (λ x y. eqb x y) s.places)
          (and_from (is_zone_name s.name && ltb 0 (length s.places)) (list_all (λ p. ltb p n) s.places) b.0 (all_more (λ p. ltb p m) (λ p. ltb p n) (λ p. lt_more m n p le) s.places b.1)) a.1) sets are.checked;
      differ = are.differ;
      few = are.few;
      few_numbers = are.few_numbers;
    })

activations_more : (m n : ℕ) (l : List Activation) → m ≤ n → are_activations m l ≡ true → are_activations n l ≡ true
activations_more m n l le fit =
    let check : ℕ → Activation → Bool = λ (k : ℕ) (a : Activation). ltb a.set k && leb a.moment 4294967295999 in
    let one = and_parts _ _ fit in
    let two = and_parts _ _ one.0 in
    and_from (list_all (check n) l && do_rise l) (leb (length l) 64)
    (and_from (list_all (check n) l) (do_rise l) (all_more (check m) (check n) (λ a h. let both = and_parts _ _ h in and_from (ltb a.set n) (leb a.moment 4294967295999) (lt_more m n a.set le both.0) both.1) l two.0) two.1)
    one.1

-- ---- activations

rise_push : (l : List Activation) (a : Activation) → do_rise l ≡ true → is_later l a.moment ≡ true → do_rise (l ++ a ∷ []) ≡ true
rise_push [] a rise later = refl
rise_push (x ∷ []) a rise later = later
rise_push (x ∷ y ∷ l) a rise later =
    let both = and_parts _ _ rise in
    and_from (ltb x.moment y.moment) (do_rise ((y ∷ l) ++ a ∷ [])) both.0 (rise_push (y ∷ l) a both.1 (and_parts _ _ later).1)

pub record IsNext (n : ℕ) (l : List Activation) (a : Activation) : Type 0 where
  pub set : ltb a.set n ≡ true
  pub moment : leb a.moment 4294967295999 ≡ true
  pub later : is_later l a.moment ≡ true

next_of : (sets : List ZoneSet) (l : List Activation) (ws : List (List ℕ)) (a : Activation) → activation sets l ws ≡ Some a → IsNext (length sets) l a
next_of sets l [] a e = absurd (cc)
next_of sets l (w ∷ []) a e = absurd (cc)
next_of sets l (w ∷ v ∷ x ∷ ws) a e = absurd (cc)
next_of sets l (w ∷ v ∷ []) a e = by (place w (set_names sets)) (number v) refl e
  where
    last : (p m : ℕ) (t : Bool) → ltb p (length sets) ≡ true → leb m 4294967295999 ≡ true → is_later l m ≡ t → cond t (Some (record { set = p; moment = m })) None ≡ Some a → IsNext (length sets) l a
    last p m false b c d h = absurd (cc)
    last p m true b c d h =
        let made : Activation = record { set = p; moment = m } in
        let is : made ≡ a = cc in
        record {
          set = ap (λ (z : Activation). ltb z.set (length sets)) (sym is) ∙ b;
          moment = ap (λ (z : Activation). leb z.moment 4294967295999) (sym is) ∙ c;
          later = ap (λ (z : Activation). is_later l z.moment) (sym is) ∙ d;
        }

    between : (p m : ℕ) (t : Bool) → ltb p (length sets) ≡ true → is_between 0 4294967295999 m ≡ t → activated l p (cond t (Some m) None) ≡ Some a → IsNext (length sets) l a
    between p m false b c h = absurd (cc)
    between p m true b c h = last p m (is_later l m) b (and_parts _ _ c).1 refl h

    by : (o : Option ℕ) (q : Option ℕ) → place w (set_names sets) ≡ o
        → option_and_then (λ (p : ℕ). activated l p (option_and_then (λ (n : ℕ). cond (is_between 0 4294967295999 n) (Some n) None) q)) o ≡ Some a → IsNext (length sets) l a
    by None q f h = absurd (cc)
    by (Some p) None f h = absurd (cc)
    by (Some p) (Some m) f h = between p m (is_between 0 4294967295999 m) (lt-ltb p (length sets) (let g = place_below 0 w (set_names sets) p f in let k = Rattle.std.proofs.lemmas.List.length-map sets (λ (y : ZoneSet). y.name) in omega (arith, g, k))) refl h

pub activations_fit_after : (sets : List ZoneSet) (l more : List Activation) (ws : List (List ℕ)) → activations_with sets l ws ≡ Ok more → are_activations (length sets) l ≡ true → are_activations (length sets) more ≡ true
unfolding activations_with
activations_fit_after sets l more ws e fit = by (activation sets l ws) refl e
  where
    put : (a : Activation) (t : Bool) → IsNext (length sets) l a → ltb 64 (length l + 1) ≡ t → cond t (Err why.Limit) (Ok (l ++ a ∷ [])) ≡ Ok more → are_activations (length sets) more ≡ true
    put a true next f h = absurd (cc)
    put a false next f h =
        let is : l ++ a ∷ [] ≡ more = cc in
        let check : Activation → Bool = λ (a : Activation). ltb a.set (length sets) && leb a.moment 4294967295999 in
        let one = and_parts _ _ fit in
        let two = and_parts _ _ one.0 in
        let long = l ++ a ∷ [] in
        ap (are_activations (length sets)) (sym is)
        ∙ and_from (list_all check long && do_rise long) (leb (length long) 64)
        (and_from (list_all check long) (do_rise long) (all_push check l a two.0 (and_from (ltb a.set (length sets)) (leb a.moment 4294967295999) next.set next.moment)) (rise_push l a two.1 next.later))
        (le-leb (length long) 64 (let g = ltb-false 64 (length l + 1) f in let k = length_push l a in omega (arith, g, k)))

    by : (o : Option Activation) → activation sets l ws ≡ o → activation_put l o ≡ Ok more → are_activations (length sets) more ≡ true
    by None f h = absurd (cc)
    by (Some a) f h = put a (ltb 64 (length l + 1)) (next_of sets l ws a f) refl h

-- ---- a line

pub once_passes : {X : Type 0} (test : X → Bool) (old value x : Option X) → set_once old value ≡ Ok x → passes test value ≡ true → passes test x ≡ true
once_passes test (Some a) value x e p = absurd (cc)
once_passes test None None x e p = absurd (cc)
once_passes {X} test None (Some b) x e p = let is : Some b ≡ x = cc in ap (passes test) (sym is) ∙ p

pub record Changes {X : Type 0} (r : Result X ConfigWhy) (f : X → Draft) (e : Draft) : Type 0 where
  pub x : X
  pub read : r ≡ Ok x
  pub is : f x ≡ e

pub changes_of : {X : Type 0} (r : Result X ConfigWhy) (f : X → Draft) (e : Draft) → changed r f ≡ Ok e → Changes r f e
changes_of (Err w) f e h = absurd (cc)
changes_of (Ok x) f e h = record { x = x; read = refl; is = (let g : f x ≡ e = cc in g) }

abbrev in_range : NumberKey → ℕ → Bool
in_range k = is_between (range_of k).0 (range_of k).1

low : (o : Option ℕ) → passes (in_range Priority) o ≡ true → passes (λ n. leb n 255) o ≡ true
low None h = refl
low (Some n) h = (and_parts _ _ h).1

number_fits : (d e : Draft) (k : NumberKey) (n : Option ℕ) → with_number d k n ≡ Ok e → passes (in_range k) n ≡ true → Fits d → Fits e
number_fits d e Vlan n h p fit = let c = changes_of (set_once d.vlan n) (λ x. record d { vlan = x }) e h in subst Fits c.is (record { fcf_mac = fit.fcf_mac; vlan = once_passes (in_range Vlan) d.vlan n c.x c.read p; map = fit.map; domain = fit.domain; pool = fit.pool; priority = fit.priority; period = fit.period; window = fit.window; limit = fit.limit; zones = fit.zones; sets = fit.sets; activations = fit.activations })
number_fits d e Domain n h p fit = let c = changes_of (set_once d.domain n) (λ x. record d { domain = x }) e h in subst Fits c.is (record { fcf_mac = fit.fcf_mac; vlan = fit.vlan; map = fit.map; domain = once_passes (in_range Domain) d.domain n c.x c.read p; pool = fit.pool; priority = fit.priority; period = fit.period; window = fit.window; limit = fit.limit; zones = fit.zones; sets = fit.sets; activations = fit.activations })
number_fits d e Pool n h p fit = let c = changes_of (set_once d.pool n) (λ x. record d { pool = x }) e h in subst Fits c.is (record { fcf_mac = fit.fcf_mac; vlan = fit.vlan; map = fit.map; domain = fit.domain; pool = once_passes (in_range Pool) d.pool n c.x c.read p; priority = fit.priority; period = fit.period; window = fit.window; limit = fit.limit; zones = fit.zones; sets = fit.sets; activations = fit.activations })
number_fits d e Priority n h p fit = let c = changes_of (set_once d.priority n) (λ x. record d { priority = x }) e h in subst Fits c.is (record { fcf_mac = fit.fcf_mac; vlan = fit.vlan; map = fit.map; domain = fit.domain; pool = fit.pool; priority = once_passes (λ n. leb n 255) d.priority n c.x c.read (low n p); period = fit.period; window = fit.window; limit = fit.limit; zones = fit.zones; sets = fit.sets; activations = fit.activations })
number_fits d e Period n h p fit = let c = changes_of (set_once d.period n) (λ x. record d { period = x }) e h in subst Fits c.is (record { fcf_mac = fit.fcf_mac; vlan = fit.vlan; map = fit.map; domain = fit.domain; pool = fit.pool; priority = fit.priority; period = once_passes (in_range Period) d.period n c.x c.read p; window = fit.window; limit = fit.limit; zones = fit.zones; sets = fit.sets; activations = fit.activations })
number_fits d e Window n h p fit = let c = changes_of (set_once d.window n) (λ x. record d { window = x }) e h in subst Fits c.is (record { fcf_mac = fit.fcf_mac; vlan = fit.vlan; map = fit.map; domain = fit.domain; pool = fit.pool; priority = fit.priority; period = fit.period; window = once_passes (in_range Window) d.window n c.x c.read p; limit = fit.limit; zones = fit.zones; sets = fit.sets; activations = fit.activations })
number_fits d e Logins n h p fit = let c = changes_of (set_once d.limit n) (λ x. record d { limit = x }) e h in subst Fits c.is (record { fcf_mac = fit.fcf_mac; vlan = fit.vlan; map = fit.map; domain = fit.domain; pool = fit.pool; priority = fit.priority; period = fit.period; window = fit.window; limit = once_passes (in_range Logins) d.limit n c.x c.read p; zones = fit.zones; sets = fit.sets; activations = fit.activations })

keyword_fits : (d e : Draft) (k : Keyword) (ws : List (List ℕ)) → with_keyword d k ws ≡ Ok e → Fits d → Fits e
keyword_fits d e FcfMac ws h fit =
    let c = changes_of (set_once d.fcf_mac (only station ws)) (λ x. record d { fcf_mac = x }) e h in
    subst Fits c.is (record { fcf_mac = once_passes is_station d.fcf_mac (only station ws) c.x c.read (only_passes station is_station (λ w. chosen is_station (octets_of 6 w)) ws); vlan = fit.vlan; map = fit.map; domain = fit.domain; pool = fit.pool; priority = fit.priority; period = fit.period; window = fit.window; limit = fit.limit; zones = fit.zones; sets = fit.sets; activations = fit.activations })
keyword_fits d e Switch ws h fit = let c = changes_of (set_once d.switch (only name ws)) (λ x. record d { switch = x }) e h in subst Fits c.is (record { fcf_mac = fit.fcf_mac; vlan = fit.vlan; map = fit.map; domain = fit.domain; pool = fit.pool; priority = fit.priority; period = fit.period; window = fit.window; limit = fit.limit; zones = fit.zones; sets = fit.sets; activations = fit.activations })
keyword_fits d e FcMap ws h fit =
    let c = changes_of (set_once d.map (only fc_map ws)) (λ x. record d { map = x }) e h in
    subst Fits c.is (record { fcf_mac = fit.fcf_mac; vlan = fit.vlan; map = once_passes (is_between 0x0efc00 0x0efcff) d.map (only fc_map ws) c.x c.read (only_passes fc_map (is_between 0x0efc00 0x0efcff) fc_map_passes ws); domain = fit.domain; pool = fit.pool; priority = fit.priority; period = fit.period; window = fit.window; limit = fit.limit; zones = fit.zones; sets = fit.sets; activations = fit.activations })
keyword_fits d e (Number k) ws h fit = number_fits d e k _ h (only_passes (number_between (range_of k).0 (range_of k).1) (in_range k) (λ w. chosen (in_range k) (number w)) ws) fit
keyword_fits d e Zones ws h fit =
    let c = changes_of (zones_with d.zones ws) (λ x. record d { zones = x }) e h in
    let z = zones_fit_after d.zones c.x ws c.read fit.zones in
    subst Fits c.is (record { fcf_mac = fit.fcf_mac; vlan = fit.vlan; map = fit.map; domain = fit.domain; pool = fit.pool; priority = fit.priority; period = fit.period; window = fit.window; limit = fit.limit; zones = z.0; sets = sets_more (length d.zones) (length c.x) d.sets z.1 fit.sets; activations = fit.activations })
keyword_fits d e Sets ws h fit =
    let c = changes_of (sets_with d.zones d.sets ws) (λ x. record d { sets = x }) e h in
    let z = sets_fit_after d.zones d.sets c.x ws c.read fit.sets in
    subst Fits c.is (record { fcf_mac = fit.fcf_mac; vlan = fit.vlan; map = fit.map; domain = fit.domain; pool = fit.pool; priority = fit.priority; period = fit.period; window = fit.window; limit = fit.limit; zones = fit.zones; sets = z.0; activations = activations_more (length d.sets) (length c.x) d.activations z.1 fit.activations })
keyword_fits d e Activations ws h fit =
    let c = changes_of (activations_with d.sets d.activations ws) (λ x. record d { activations = x }) e h in
    subst Fits c.is (record { fcf_mac = fit.fcf_mac; vlan = fit.vlan; map = fit.map; domain = fit.domain; pool = fit.pool; priority = fit.priority; period = fit.period; window = fit.window; limit = fit.limit; zones = fit.zones; sets = fit.sets; activations = activations_fit_after d.sets d.activations c.x ws c.read fit.activations })

-- what each key keeps, a line keeps
module _ (P : Draft → Type 0) (keeps : (d e : Draft) (k : Keyword) (ws : List (List ℕ)) → with_keyword d k ws ≡ Ok e → P d → P e) where
  words_keep : (d e : Draft) (ws : List (List ℕ)) → with_words d ws ≡ Ok e → P d → P e
  words_keep d e [] h kept = absurd (cc)
  words_keep d e (key ∷ ws) h kept = by (keyword_of key) h
    where
      by : (o : Option Keyword) → with_key d o ws ≡ Ok e → P e
      by None h = absurd (cc)
      by (Some k) h = keeps d e k ws h kept

  pub line_keeps : (d e : Draft) (line : List ℕ) → line_read d line ≡ Ok e → P d → P e
  unfolding line_read
  line_keeps d e line h kept = by (is_skipped line) (is_ascii line) h
    where
      by : (s t : Bool) → elim s as (λ _. Result Draft ConfigWhy) [ true ↦ Ok d | false ↦ elim t as (λ _. Result Draft ConfigWhy) [ false ↦ Err why.Ascii | true ↦ with_words d (words line) ] ] ≡ Ok e → P e
      by true t h = let is : d ≡ e = cc in subst P is kept
      by false false h = absurd (cc)
      by false true h = words_keep d e (words line) h kept

pub line_fits : (d e : Draft) (line : List ℕ) → line_read d line ≡ Ok e → Fits d → Fits e
line_fits d e line h fit = line_keeps Fits keyword_fits d e line h fit
