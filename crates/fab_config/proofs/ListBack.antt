-- Written zones, zone sets and activations are read again.
use Rattle.std.proofs.Common.{◌≡◌, ℕ, zero, suc, ◌+◌, ◌^◌, ◌<◌, ◌≤◌, List, [], ◌∷◌, ◌++◌, length, map, Bool, true, false, cond, not, eqb, ltb, leb, ◌&&◌, ◌||◌, Option, Some, None, Result, Ok, Err, codes, refl, sym, ◌∙◌, ap, arith}
use Rattle.std.specs.List.{list_all, list_any, flat_map}
use Rattle.std.specs.Option.{option_and_then}
use Rattle.std.specs.Fmt.{decimal}
use Rattle.std.proofs.lemmas.List.{length-append, length-map}
use Rattle.std.proofs.lemmas.List.Folds.{list_all-append}
use Rattle.std.proofs.lemmas.Bool.{leb-true, le-leb, ltb-true, lt-ltb, le-ltb, and_parts, and_from, or_from}
use Rattle.fab_config.specs.Settings.{is_between, same_bytes, all_differ, is_zone_name, is_name_sign, is_letter, are_zones, are_sets, are_activations, do_rise}
use Rattle.fab_config.specs.Lines.{lines_of}
use Rattle.fab_config.specs.Names.{place, place_from, zone_names, set_names}
use Rattle.fab_config.specs.Values.{name, number_between}
use Rattle.fab_config.specs.Text.{keyword_of, lines_read, changed, zone_put, zones_with, set_put, sets_with, zone_place, is_later, activated, activation_put, activations_with}
use Rattle.fab_config.specs.Written.{name_text, name_at, zone_line, set_line, activation_line}
use Rattle.fab_config.specs.declared.Zone.{Zone}
use Rattle.fab_config.specs.declared.ZoneSet.{ZoneSet}
use Rattle.fab_config.specs.declared.Activation.{Activation}
use Rattle.fab_config.specs.declared.ConfigWhy.{ConfigWhy}
use Rattle.fab_config.specs.declared.ConfigWhy.TheVariants as why
use Rattle.fab_config.specs.declared.draft.Draft.{Draft}
use Rattle.fab_config.specs.declared.keyword.Keyword.TheVariants.{Zones, Sets, Activations}
use Rattle.fab_config.proofs.BackLemmas.{is_sign, is_word, are_words}
use Rattle.fab_config.proofs.ValueLemmas.{name_back, octets_word, spelled_bytes, between_back, decimal_word}
use Rattle.fab_config.proofs.FoldLemmas.{line_step, items_read, listed_back, all_of_back, words_of}
use Rattle.fab_config.proofs.NamedLemmas.{with_list}
use Rattle.fab_config.proofs.ListedLemmas.{no_place, grown_back, zone_check, zone_of, zones_of, set_check, set_of, sets_of}
use Rattle.fab_base.specs.Layout.{spelled}
use Rattle.fab_base.proofs.LayoutLemmas.{length-spelled}
use Rattle.std.specs.Cmp.Lexicographic.{nat_list_eq_equiv}
use Rattle.fab_config.proofs.ListLemmas.{any_map}

-- ---- names

letter_sign : (b : ℕ) → is_letter b ≡ true → is_sign b ≡ true
letter_sign b h = by (is_between 0x41 0x5a b) refl h
  where
    within : (least most : ℕ) → 33 ≤ least → most ≤ 126 → is_between least most b ≡ true → is_sign b ≡ true
    within least most low high k =
        let both = and_parts _ _ k in
        let a : least ≤ b = leb-true least b both.0 in
        let c : b ≤ most = leb-true b most both.1 in
        and_from (leb 33 b) (leb b 126) (le-leb 33 b (omega (arith, a, low))) (le-leb b 126 (omega (arith, c, high)))

    by : (t : Bool) → is_between 0x41 0x5a b ≡ t → (t || is_between 0x61 0x7a b) ≡ true → is_sign b ≡ true
    by true f k = within 0x41 0x5a (omega arith) (omega arith) f
    by false f k = within 0x61 0x7a (omega arith) (omega arith) k

name_sign : (b : ℕ) → is_name_sign b ≡ true → is_sign b ≡ true
name_sign b h = by (is_letter b) (is_between 0x30 0x39 b) (eqb b 0x24) (eqb b 0x2d) (eqb b 0x5e) (eqb b 0x5f) refl refl refl refl refl refl h
  where
    at : (n : ℕ) → 33 ≤ n → n ≤ 126 → eqb b n ≡ true → is_sign b ≡ true
    at n low high k = let e : b ≡ n = Rattle.std.proofs.lemmas.Bool.eqb-true b n k in and_from (leb 33 b) (leb b 126) (le-leb 33 b (omega (arith, e, low))) (le-leb b 126 (omega (arith, e, high)))

    digit : is_between 0x30 0x39 b ≡ true → is_sign b ≡ true
    digit k =
        let both = and_parts _ _ k in
        let a : 0x30 ≤ b = leb-true 0x30 b both.0 in
        let c : b ≤ 0x39 = leb-true b 0x39 both.1 in
        and_from (leb 33 b) (leb b 126) (le-leb 33 b (omega (arith, a))) (le-leb b 126 (omega (arith, c)))

    by : (s t u v w x : Bool) → is_letter b ≡ s → is_between 0x30 0x39 b ≡ t → eqb b 0x24 ≡ u → eqb b 0x2d ≡ v → eqb b 0x5e ≡ w → eqb b 0x5f ≡ x → (s || t || u || v || w || x) ≡ true → is_sign b ≡ true
    by true t u v w x a c d e f g k = letter_sign b a
    by false true u v w x a c d e f g k = digit c
    by false false true v w x a c d e f g k = at 0x24 (omega arith) (omega arith) d
    by false false false true w x a c d e f g k = at 0x2d (omega arith) (omega arith) e
    by false false false false true x a c d e f g k = at 0x5e (omega arith) (omega arith) f
    by false false false false false true a c d e f g k = at 0x5f (omega arith) (omega arith) g
    by false false false false false false a c d e f g k = absurd (cc)

signs_word : (l : List ℕ) → list_all is_name_sign l ≡ true → is_word l ≡ true
signs_word [] h = refl
signs_word (b ∷ l) h = let both = and_parts _ _ h in and_from (is_sign b) (is_word l) (name_sign b both.0) (signs_word l both.1)

pub zone_name_word : (n : List ℕ) → is_zone_name n ≡ true → (is_word n && leb 1 (length n)) ≡ true
zone_name_word [] h = absurd (cc)
zone_name_word (b ∷ l) h =
    let one = and_parts _ _ h in
    let two = and_parts _ _ one.0 in
    and_from (is_sign b && is_word l) (leb 1 (suc (length l))) (and_from (is_sign b) (is_word l) (letter_sign b two.0) (signs_word l two.1)) (le-leb 1 (suc (length l)) (omega arith))

member_word : (m : ℕ) → ltb m (2 ^ 64) ≡ true → (is_word (name_text m) && leb 1 (length (name_text m))) ≡ true
member_word m h = octets_word (spelled 8 m) (let l = length-spelled 8 m in omega (arith, l)) (spelled_bytes 8 m)

-- ---- zones

abbrev pub is_typed : Zone → Bool
is_typed z = list_all (λ m. ltb m (2 ^ 64)) z.members

last_all : {X : Type 0} (p : X → Bool) (l xs : List X) (x : X) → list_all p (l ++ x ∷ xs) ≡ true → p x ≡ true
last_all p l xs x h = (and_parts _ _ (and_parts _ _ (sym (list_all-append p l (x ∷ xs)) ∙ h)).1).0

abbrev pub ZonesFit : List Zone → Type 0
ZonesFit l = (are_zones l ≡ true) × (list_all is_typed l ≡ true)

zone_read : (d : Draft) (n : ℕ) (done more : List Zone) (z : Zone) (rest : List ℕ) → ZonesFit (done ++ z ∷ more)
    → lines_read n (record d { zones = done }) (lines_of (zone_line z ++ rest)) ≡ lines_read (n + 1) (record d { zones = done ++ z ∷ [] }) (lines_of rest)
unfolding keyword_of zones_with
zone_read d n done more z rest fit =
    let are = zones_of (done ++ z ∷ more) fit.0 in
    let own = zone_of z (last_all zone_check done more z are.checked) in
    let typed = last_all is_typed done more z fit.1 in
    let some : 0 < length z.members = ltb-true 0 (length z.members) own.some in
    line_step n (record d { zones = done }) (record d { zones = done ++ z ∷ [] }) (codes "zone") (z.name ∷ map name_text z.members) Zones rest refl (omega arith) refl refl
    (and_from (is_word z.name && leb 1 (length z.name)) (are_words (map name_text z.members)) (zone_name_word z.name own.is_name) (words_of name_text (λ m. ltb m (2 ^ 64)) member_word z.members typed))
    (ap (λ (r : Result (List Zone) ConfigWhy). changed r (λ x. record d { zones = x }))
    (with_list name (zone_names done) (zone_put done) (z.name ∷ map name_text z.members) z.name (map name_text z.members) refl z.members
    (no_place (λ (y : Zone). y.name) done more z are.differ) own.is_name
    (listed_back name name_text z.members (omega (arith, some)) (all_of_back name name_text (λ m. ltb m (2 ^ 64)) (λ m h. name_back m (ltb-true m (2 ^ 64) h)) z.members typed) own.differ)
    ∙ grown_back (λ (y : Zone). y.name) (λ (y : Zone). y.members) zone_check 1000 20000 done more z are))

pub zones_read : (n : ℕ) (d : Draft) (zs : List Zone) (rest : List ℕ) → ZonesFit zs
    → lines_read n (record d { zones = [] }) (lines_of (flat_map zone_line zs ++ rest)) ≡ lines_read (n + length zs) (record d { zones = zs }) (lines_of rest)
zones_read n d zs rest fit = items_read (λ (l : List Zone). record d { zones = l }) zone_line ZonesFit (zone_read d) n [] zs rest fit

-- ---- zone sets

-- the place of the name at a place
place_back : (k p : ℕ) (names : List (List ℕ)) → p < length names → all_differ same_bytes names ≡ true → place_from k (name_at names p) names ≡ Some (k + p)
place_back k p [] lt differ = absurd (omega arith)
place_back k zero (x ∷ names) lt differ = ap (λ t. cond t (Some k) (place_from (k + 1) x names)) (nat_list_eq_equiv.refl x) ∙ ap (λ (n : ℕ). Some n) (let e : k ≡ k + 0 = omega arith in e)
place_back k (suc p) (x ∷ names) lt differ =
    let both = and_parts _ _ differ in
    ap (λ t. cond t (Some k) (place_from (k + 1) (name_at names p) names)) (nat_list_eq_equiv.symm (name_at names p) x ∙ other names p (omega arith) both.0)
    ∙ place_back (k + 1) p names (omega arith) both.1 ∙ ap (λ (n : ℕ). Some n) (let e : k + 1 + p ≡ k + suc p = omega arith in e)
  where
    head : (a b : Bool) → not (a || b) ≡ true → (a ≡ false) × (not b ≡ true)
    head false b h = (refl, h)
    head true b h = absurd (cc)

    other : (l : List (List ℕ)) (q : ℕ) → q < length l → not (list_any (same_bytes x) l) ≡ true → same_bytes x (name_at l q) ≡ false
    other [] q lt h = absurd (omega arith)
    other (y ∷ l) zero lt h = (head (same_bytes x y) (list_any (same_bytes x) l) h).0
    other (y ∷ l) (suc q) lt h = other l q (omega arith) (head (same_bytes x y) (list_any (same_bytes x) l) h).1

-- names differ where zones do
names_differ : {X : Type 0} (named : X → List ℕ) (l : List X) → all_differ (λ (x : X) (y : X). same_bytes (named x) (named y)) l ≡ true → all_differ same_bytes (map named l) ≡ true
names_differ named [] h = refl
names_differ named (x ∷ l) h =
    let both = and_parts _ _ h in
    and_from (not (list_any (same_bytes (named x)) (map named l))) (all_differ same_bytes (map named l)) (ap not (any_map (same_bytes (named x)) named l) ∙ both.0) (names_differ named l both.1)

-- the name at a place is that of an item
pub name_at_ok : {X : Type 0} (named : X → List ℕ) (l : List X) (p : ℕ) → p < length l → list_all (λ x. is_zone_name (named x)) l ≡ true → is_zone_name (name_at (map named l) p) ≡ true
name_at_ok named [] p lt h = absurd (omega arith)
name_at_ok named (x ∷ l) zero lt h = (and_parts _ _ h).0
name_at_ok named (x ∷ l) (suc p) lt h = name_at_ok named l p (omega arith) (and_parts _ _ h).1

-- names that are read by their places
pub record AreNames (names : List (List ℕ)) : Type 0 where
  pub back : (p : ℕ) → p < length names → place (name_at names p) names ≡ Some p
  pub word : (p : ℕ) → p < length names → (is_word (name_at names p) && leb 1 (length (name_at names p))) ≡ true

pub are_names : {X : Type 0} (named : X → List ℕ) (l : List X) → all_differ (λ (x : X) (y : X). same_bytes (named x) (named y)) l ≡ true → list_all (λ x. is_zone_name (named x)) l ≡ true → AreNames (map named l)
are_names named l differ ok = record {
  back = λ p lt. place_back 0 p (map named l) lt (names_differ named l differ) ∙ ap (λ (n : ℕ). Some n) (let e : 0 + p ≡ p = omega arith in e);
  word = λ p lt. zone_name_word (name_at (map named l) p) (name_at_ok named l p (let n = length-map l named in omega (arith, n)) ok);
}

set_read : (d : Draft) → AreNames (zone_names d.zones) → (n : ℕ) (done more : List ZoneSet) (s : ZoneSet) (rest : List ℕ) → are_sets (length d.zones) (done ++ s ∷ more) ≡ true
    → lines_read n (record d { sets = done }) (lines_of (set_line d.zones s ++ rest)) ≡ lines_read (n + 1) (record d { sets = done ++ s ∷ [] }) (lines_of rest)
unfolding keyword_of sets_with
set_read d names n done more s rest fit =
    let k = length d.zones in
    let are = sets_of k (done ++ s ∷ more) fit in
    let own = set_of k s (last_all (set_check k) done more s are.checked) in
    let some : 0 < length s.places = ltb-true 0 (length s.places) own.some in
    let size = length-map d.zones (λ (y : Zone). y.name) in
    let word = name_at (zone_names d.zones) in
    line_step n (record d { sets = done }) (record d { sets = done ++ s ∷ [] }) (codes "zoneset") (s.name ∷ map word s.places) Sets rest refl (omega arith) refl refl
    (and_from (is_word s.name && leb 1 (length s.name)) (are_words (map word s.places)) (zone_name_word s.name own.is_name)
    (words_of word (λ p. ltb p k) (λ p h. names.word p (let lt : p < k = ltb-true p k h in omega (arith, lt, size))) s.places own.below))
    (ap (λ (r : Result (List ZoneSet) ConfigWhy). changed r (λ x. record d { sets = x }))
    (with_list (zone_place d.zones) (set_names done) (set_put done) (s.name ∷ map word s.places) s.name (map word s.places) refl s.places
    (no_place (λ (y : ZoneSet). y.name) done more s are.differ) own.is_name
    (listed_back (zone_place d.zones) word s.places (omega (arith, some))
    (all_of_back (zone_place d.zones) word (λ p. ltb p k) (λ p h. names.back p (let lt : p < k = ltb-true p k h in omega (arith, lt, size))) s.places own.below) own.differ)
    ∙ grown_back (λ (y : ZoneSet). y.name) (λ (y : ZoneSet). y.places) (set_check k) 64 4000 done more s are))

pub sets_read : (n : ℕ) (d : Draft) (ss : List ZoneSet) (rest : List ℕ) → AreNames (zone_names d.zones) → are_sets (length d.zones) ss ≡ true
    → lines_read n (record d { sets = [] }) (lines_of (flat_map (set_line d.zones) ss ++ rest)) ≡ lines_read (n + length ss) (record d { sets = ss }) (lines_of rest)
sets_read n d ss rest names fit = items_read (λ (l : List ZoneSet). record d { sets = l }) (set_line d.zones) (λ l. are_sets (length d.zones) l ≡ true) (set_read d names) n [] ss rest fit

-- ---- activations

rise_later : (l more : List Activation) (a : Activation) → do_rise (l ++ a ∷ more) ≡ true → is_later l a.moment ≡ true
rise_later [] more a h = refl
rise_later (x ∷ []) more a h = and_from (ltb x.moment a.moment) true (and_parts _ _ h).0 refl
rise_later (x ∷ y ∷ l) more a h =
    let both = and_parts _ _ h in
    let rest = rise_later (y ∷ l) more a both.1 in
    let low : x.moment < y.moment = ltb-true x.moment y.moment both.0 in
    let high : y.moment < a.moment = ltb-true y.moment a.moment (and_parts _ _ rest).0 in
    and_from (ltb x.moment a.moment) (is_later (y ∷ l) a.moment) (lt-ltb x.moment a.moment (omega (arith, low, high))) rest

activation_read : (d : Draft) → AreNames (set_names d.sets) → (n : ℕ) (done more : List Activation) (a : Activation) (rest : List ℕ) → are_activations (length d.sets) (done ++ a ∷ more) ≡ true
    → lines_read n (record d { activations = done }) (lines_of (activation_line d.sets a ++ rest)) ≡ lines_read (n + 1) (record d { activations = done ++ a ∷ [] }) (lines_of rest)
unfolding keyword_of activations_with
activation_read d names n done more a rest fit =
    let all = done ++ a ∷ more in
    let check : Activation → Bool = λ (z : Activation). ltb z.set (length d.sets) && leb z.moment 4294967295999 in
    let one = and_parts _ _ fit in
    let two = and_parts _ _ one.0 in
    let own = and_parts _ _ (last_all check done more a two.0) in
    let low : a.set < length d.sets = ltb-true a.set (length d.sets) own.0 in
    let most : a.moment ≤ 4294967295999 = leb-true a.moment 4294967295999 own.1 in
    let size = length-map d.sets (λ (y : ZoneSet). y.name) in
    let few : length all ≤ 64 = leb-true (length all) 64 one.1 in
    let l1 = length-append done (a ∷ more) in
    let n_at = name_at (set_names d.sets) a.set in
    line_step n (record d { activations = done }) (record d { activations = done ++ a ∷ [] }) (codes "activate") (n_at ∷ decimal a.moment ∷ []) Activations rest refl (omega arith) refl refl
    (and_from (is_word n_at && leb 1 (length n_at)) (are_words (decimal a.moment ∷ [])) (names.word a.set (omega (arith, low, size))) (and_from (is_word (decimal a.moment) && leb 1 (length (decimal a.moment))) true (decimal_word a.moment (omega (arith, most))) refl))
    (ap (λ (r : Result (List Activation) ConfigWhy). changed r (λ x. record d { activations = x }))
    (ap (λ (o : Option ℕ). activation_put done (option_and_then (λ (p : ℕ). activated done p (number_between 0 4294967295999 (decimal a.moment))) o)) (names.back a.set (omega (arith, low, size)))
    ∙ ap (λ (o : Option ℕ). activation_put done (activated done a.set o)) (between_back 0 4294967295999 a.moment (omega (arith, most)) (and_from (leb 0 a.moment) (leb a.moment 4294967295999) (le-leb 0 a.moment (omega arith)) own.1))
    ∙ ap (λ t. activation_put done (cond t (Some (record { set = a.set; moment = a.moment })) None)) (rise_later done more a two.1)
    ∙ ap (λ t. cond t (Err why.Limit) (Ok (done ++ a ∷ []))) (le-ltb 64 (length done + 1) (omega (arith, few, l1)))))

pub activations_read : (n : ℕ) (d : Draft) (l : List Activation) (rest : List ℕ) → AreNames (set_names d.sets) → are_activations (length d.sets) l ≡ true
    → lines_read n (record d { activations = [] }) (lines_of (flat_map (activation_line d.sets) l ++ rest)) ≡ lines_read (n + length l) (record d { activations = l }) (lines_of rest)
activations_read n d l rest names fit = items_read (λ (k : List Activation). record d { activations = k }) (activation_line d.sets) (λ k. are_activations (length d.sets) k ≡ true) (activation_read d names) n [] l rest fit
