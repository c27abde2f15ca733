-- How long a written configuration is at most.
use Rattle.std.proofs.Common.{◌≡◌, ℕ, suc, ◌+◌, ◌*◌, ◌^◌, ◌<◌, ◌≤◌, List, [], ◌∷◌, ◌++◌, length, map, Bool, true, ltb, leb, ◌&&◌, codes, refl, ◌∙◌, ap, arith}
use Rattle.std.specs.List.{list_all, flat_map, sum_by}
use Rattle.std.specs.Fmt.{decimal}
use Rattle.std.proofs.lemmas.Fmt.{length-decimal-le}
use Rattle.std.proofs.lemmas.List.{length-append}
use Rattle.std.proofs.lemmas.List.Sums.{sum_by-cons}
use Rattle.std.proofs.lemmas.Bool.{ltb-true, and_parts}
use Rattle.fab_base.specs.Texts.{hex}
use Rattle.fab_config.specs.Settings.{is_zone_name}
use Rattle.fab_config.specs.Names.{zone_names, set_names}
use Rattle.fab_config.specs.Written.{spaced, line_text, number_line, name_text, octets_text, name_at, zone_line, set_line, activation_line}
use Rattle.fab_config.specs.declared.Zone.{Zone}
use Rattle.fab_config.specs.declared.ZoneSet.{ZoneSet}
use Rattle.fab_config.specs.declared.Activation.{Activation}

pub name_short : (n : List ℕ) → is_zone_name n ≡ true → length n ≤ 64
name_short [] h = omega arith
name_short (b ∷ l) h = let lt : length l < 64 = ltb-true (length l) 64 (and_parts _ _ h).1 in omega (arith, lt)

line_length : (key : List ℕ) (ws : List (List ℕ)) → length (line_text key ws) ≡ length key + length (flat_map spaced ws) + 1
line_length key ws = length-append (key ++ flat_map spaced ws) (10 ∷ []) ∙ ap (λ (n : ℕ). n + 1) (length-append key (flat_map spaced ws))

-- words of bounded length
words_length : (f : ℕ → List ℕ) (test : ℕ → Bool) (most : ℕ) → ((x : ℕ) → test x ≡ true → length (f x) + 1 ≤ most) → (l : List ℕ) → list_all test l ≡ true → length (flat_map spaced (map f l)) ≤ most * length l
words_length f test most short [] h = omega arith
words_length f test most short (x ∷ l) h =
    let two = and_parts _ _ h in
    let rest = words_length f test most short l two.1 in
    let here = short x two.0 in
    let e = length-append (spaced (f x)) (flat_map spaced (map f l)) in
    let m : most * suc (length l) ≡ most * length l + most = grind arith in
    omega (arith, rest, here, e, m)

any : (l : List ℕ) → list_all (λ _. true) l ≡ true
any [] = refl
any (x ∷ l) = any l

colons_length : (l : List ℕ) → length (flat_map (λ c. 58 ∷ hex 2 c) l) ≡ 3 * length l
colons_length [] = refl
colons_length (b ∷ l) = let h = colons_length l in omega (arith, h)

pub octets_length : (l : List ℕ) → length (octets_text l) ≤ 3 * length l
octets_length [] = omega arith
octets_length (b ∷ l) = let h = colons_length l in omega (arith, h)

name_length : (m : ℕ) → length (name_text m) + 1 ≤ 24
name_length m = let e : length (name_text m) ≡ 23 = refl in omega (arith, e)

zone_length : (z : Zone) → is_zone_name z.name ≡ true → length (zone_line z) ≤ 70 + 24 * length z.members
zone_length z h =
    let n = name_short z.name h in
    let e = line_length (codes "zone") (z.name ∷ map name_text z.members) in
    let a = length-append (spaced z.name) (flat_map spaced (map name_text z.members)) in
    let w = words_length name_text (λ _. true) 24 (λ m _. name_length m) z.members (any z.members) in
    omega (arith, n, e, a, w)

pub zones_length : (l : List Zone) → list_all (λ (z : Zone). is_zone_name z.name) l ≡ true → length (flat_map zone_line l) ≤ 70 * length l + 24 * sum_by (λ (z : Zone). length z.members) l
zones_length [] h = omega arith
zones_length (z ∷ l) h =
    let two = and_parts _ _ h in
    let here = zone_length z two.0 in
    let rest = zones_length l two.1 in
    let a = length-append (zone_line z) (flat_map zone_line l) in
    let s = sum_by-cons (λ (z : Zone). length z.members) z l in
    omega (arith, here, rest, a, s)

module _ (zones : List Zone) (count : ℕ) (short : (p : ℕ) → p < count → length (name_at (zone_names zones) p) ≤ 64) where
  set_length : (s : ZoneSet) → is_zone_name s.name ≡ true → list_all (λ p. ltb p count) s.places ≡ true → length (set_line zones s) ≤ 73 + 65 * length s.places
  set_length s h below =
      let n = name_short s.name h in
      let e = line_length (codes "zoneset") (s.name ∷ map (name_at (zone_names zones)) s.places) in
      let a = length-append (spaced s.name) (flat_map spaced (map (name_at (zone_names zones)) s.places)) in
      let w = words_length (name_at (zone_names zones)) (λ p. ltb p count) 65 (λ p t. let k = short p (ltb-true p count t) in omega (arith, k)) s.places below in
      omega (arith, n, e, a, w)

  pub sets_length : (l : List ZoneSet) → list_all (λ (s : ZoneSet). is_zone_name s.name && list_all (λ p. ltb p count) s.places) l ≡ true → length (flat_map (set_line zones) l) ≤ 73 * length l + 65 * sum_by (λ (s : ZoneSet). length s.places) l
  sets_length [] h = omega arith
  sets_length (s ∷ l) h =
      let two = and_parts _ _ h in
      let own = and_parts _ _ two.0 in
      let here = set_length s own.0 own.1 in
      let rest = sets_length l two.1 in
      let a = length-append (set_line zones s) (flat_map (set_line zones) l) in
      let t = sum_by-cons (λ (s : ZoneSet). length s.places) s l in
      omega (arith, here, rest, a, t)

module _ (sets : List ZoneSet) (count : ℕ) (short : (p : ℕ) → p < count → length (name_at (set_names sets) p) ≤ 64) where
  activation_length : (a : Activation) → a.set < count → a.moment ≤ 4294967295999 → length (activation_line sets a) ≤ 88
  activation_length a lt le =
      let n = short a.set lt in
      let d = length-decimal-le 13 a.moment (omega arith) (omega (arith, le)) (omega (arith, le)) in
      let e = line_length (codes "activate") (name_at (set_names sets) a.set ∷ decimal a.moment ∷ []) in
      let b = length-append (spaced (name_at (set_names sets) a.set)) (flat_map spaced (decimal a.moment ∷ [])) in
      let f = length-append (spaced (decimal a.moment)) [] in
      omega (arith, n, d, e, b, f)

  pub activations_length : (l : List Activation) → list_all (λ (a : Activation). ltb a.set count && leb a.moment 4294967295999) l ≡ true → length (flat_map (activation_line sets) l) ≤ 88 * length l
  activations_length [] h = omega arith
  activations_length (a ∷ l) h =
      let two = and_parts _ _ h in
      let own = and_parts _ _ two.0 in
      let here = activation_length a (ltb-true a.set count own.0) (Rattle.std.proofs.lemmas.Bool.leb-true a.moment 4294967295999 own.1) in
      let rest = activations_length l two.1 in
      let b = length-append (activation_line sets a) (flat_map (activation_line sets) l) in
      omega (arith, here, rest, b)

-- the line of one word
pub word_length : (key w : List ℕ) → length (line_text key (w ∷ [])) ≡ length key + length w + 2
word_length key w = line_length key (w ∷ []) ∙ (let e = length-append (spaced w) [] in let f : length key + length (spaced w ++ []) + 1 ≡ length key + length w + 2 = omega (arith, e) in f)

pub number_length : (key : List ℕ) (n : ℕ) → n < 10 ^ 5 → length (number_line key n) ≤ length key + 7
number_length key n lt = let d = length-decimal-le 5 n (omega arith) lt (omega (arith, lt)) in let e = word_length key (decimal n) in omega (arith, d, e)
