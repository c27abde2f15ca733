-- What a text says is in its range, and typed.
use Rattle.std.proofs.Common.{◌≡◌, ℕ, zero, suc, ◌+◌, ◌-◌, ◌*◌, ◌%◌, ◌^◌, ◌<◌, List, [], ◌∷◌, ◌++◌, length, get_or, Bool, true, false, cond, eqb, ltb, ◌||◌, Option, Some, None, Result, Ok, Err, refl, sym, ◌∙◌, ap, subst, arith}
use Rattle.std.specs.Prelude.{IsTrue}
use Rattle.std.specs.List.{list_all, sum_by}
use Rattle.std.specs.Option.{option_map, option_and_then, unwrap_or}
use Rattle.std.proofs.lemmas.Bool.{ltb-true, lt-ltb, eqb-true, and_parts, and_from}
use Rattle.fab_base.specs.Layout.{big_endian}
use Rattle.fab_base.proofs.LayoutLemmas.{AreBytes, big_endian-fits}
use Rattle.fab_config.specs.Settings.{Settings, is_between, is_station, is_in_range}
use Rattle.fab_config.specs.Lines.{lines_of}
use Rattle.fab_config.specs.Names.{zone_names}
use Rattle.fab_config.specs.Values.{is_digit, hex_value, octet, with_octet, octets, octets_of, name, station, fc_map, only}
use Rattle.fab_config.specs.Fitting.{Fits, passes}
use Rattle.fab_config.specs.Typed.{IsTyped}
use Rattle.fab_config.specs.Written.{written}
use Rattle.fab_config.specs.Text.{NOTHING, zone_put, zones_with, sets_with, activations_with, set_once, with_number, with_keyword, line_read, switch_of, with_defaults, finished, lines_read, decoded}
use Rattle.fab_config.specs.declared.Zone.{Zone}
use Rattle.fab_config.specs.declared.ConfigWhy.{ConfigWhy}
use Rattle.fab_config.specs.declared.ConfigWhy.TheVariants as why
use Rattle.fab_config.specs.declared.ConfigFault.{ConfigFault}
use Rattle.fab_config.specs.declared.draft.Draft.{Draft}
use Rattle.fab_config.specs.declared.keyword.Keyword.{Keyword}
use Rattle.fab_config.specs.declared.keyword.Keyword.TheVariants.{FcfMac, Switch, FcMap, Number, Zones, Sets, Activations}
use Rattle.fab_config.specs.declared.keyword.NumberKey.{NumberKey}
use Rattle.fab_config.specs.declared.keyword.NumberKey.TheVariants.{Vlan, Domain, Pool, Priority, Period, Window, Logins}
use Rattle.fab_config.proofs.RangeLemmas.{between}
use Rattle.fab_config.proofs.ValueLemmas.{are_bytes}
use Rattle.fab_config.proofs.ListBack.{is_typed}
use Rattle.fab_config.proofs.ListedLemmas.{all_push}
use Rattle.fab_config.proofs.FitLemmas.{IsPut, put_of, listed_below, only_passes, once_passes, changes_of, line_keeps, line_fits}
use Rattle.fab_config.proofs.ReadLemmas.{fits_in_range}
use Rattle.fab_config.proofs.RoundLemmas.{decoded_back}

-- ---- pairs of digits are bytes

digit_below : (b x : ℕ) → hex_value b ≡ Some x → x < 16
digit_below b x e = by (is_between 0x41 0x46 b) (is_between 0x61 0x66 b) (is_digit b) refl refl refl e
  where
    by : (s t u : Bool) → is_between 0x41 0x46 b ≡ s → is_between 0x61 0x66 b ≡ t → is_digit b ≡ u → cond s (Some (b - 55)) (cond t (Some (b - 87)) (cond u (Some (b - 48)) None)) ≡ Some x → x < 16
    by true t u f g h k = let is : b - 55 ≡ x = cc in let r = between 0x41 0x46 b f in let m = r.1 in omega (arith, is, m)
    by false true u f g h k = let is : b - 87 ≡ x = cc in let r = between 0x61 0x66 b g in let m = r.1 in omega (arith, is, m)
    by false false true f g h k = let is : b - 48 ≡ x = cc in let r = between 48 57 b h in let m = r.1 in omega (arith, is, m)
    by false false false f g h k = absurd (cc)

octet_below : (h l b : ℕ) → octet h l ≡ Some b → b < 256
octet_below h l b e = by (hex_value h) (hex_value l) refl refl e
  where
    by : (o p : Option ℕ) → hex_value h ≡ o → hex_value l ≡ p → option_and_then (λ (x : ℕ). option_map (λ (y : ℕ). x * 16 + y) p) o ≡ Some b → b < 256
    by None p f g k = absurd (cc)
    by (Some x) None f g k = absurd (cc)
    by (Some x) (Some y) f g k = let is : x * 16 + y ≡ b = cc in let m = digit_below h x f in let n = digit_below l y g in omega (arith, is, m, n)

octets_bytes : (w l : List ℕ) → octets w ≡ Some l → are_bytes l ≡ true
octets_bytes [] l e = absurd (cc)
octets_bytes (h ∷ []) l e = absurd (cc)
octets_bytes (h ∷ k ∷ []) l e = by (octet h k) refl e
  where
    by : (o : Option ℕ) → octet h k ≡ o → with_octet o (Some []) ≡ Some l → are_bytes l ≡ true
    by None f g = absurd (cc)
    by (Some b) f g = let is : b ∷ [] ≡ l = cc in ap are_bytes (sym is) ∙ and_from (ltb b 256) true (lt-ltb b 256 (octet_below h k b f)) refl
octets_bytes (h ∷ k ∷ c ∷ r) l e = by (eqb c 58) (octet h k) (octets r) refl (octets_bytes r) e
  where
    by : (t : Bool) (o : Option ℕ) (p : Option (List ℕ)) → octet h k ≡ o → ((m : List ℕ) → p ≡ Some m → are_bytes m ≡ true) → cond t (with_octet o p) None ≡ Some l → are_bytes l ≡ true
    by false o p f ih g = absurd (cc)
    by true None p f ih g = absurd (cc)
    by true (Some b) None f ih g = absurd (cc)
    by true (Some b) (Some m) f ih g = let is : b ∷ m ≡ l = cc in ap are_bytes (sym is) ∙ and_from (ltb b 256) (are_bytes m) (lt-ltb b 256 (octet_below h k b f)) (ih m refl)

octets_of_bytes : (count : ℕ) (w l : List ℕ) → octets_of count w ≡ Some l → (length l ≡ count) × (are_bytes l ≡ true)
octets_of_bytes count w l e = by (octets w) refl e
  where
    test : (m : List ℕ) (t : Bool) → octets w ≡ Some m → eqb (length m) count ≡ t → cond t (Some m) None ≡ Some l → (length l ≡ count) × (are_bytes l ≡ true)
    test m false f g h = absurd (cc)
    test m true f g h = let is : m ≡ l = cc in (ap length (sym is) ∙ eqb-true (length m) count g, ap are_bytes (sym is) ∙ octets_bytes w m f)

    by : (o : Option (List ℕ)) → octets w ≡ o → option_and_then (λ (m : List ℕ). cond (eqb (length m) count) (Some m) None) o ≡ Some l → (length l ≡ count) × (are_bytes l ≡ true)
    by None f h = absurd (cc)
    by (Some m) f h = test m (eqb (length m) count) f refl h

bytes_of : (l : List ℕ) → are_bytes l ≡ true → AreBytes l
bytes_of [] h i = omega arith
bytes_of (b ∷ l) h zero = ltb-true b 256 (and_parts _ _ h).0
bytes_of (b ∷ l) h (suc i) = bytes_of l (and_parts _ _ h).1 i

name_below : (w : List ℕ) (n : ℕ) → name w ≡ Some n → n < 2 ^ 64
name_below w n e = by (octets_of 8 w) refl e
  where
    by : (o : Option (List ℕ)) → octets_of 8 w ≡ o → option_map big_endian o ≡ Some n → n < 2 ^ 64
    by None f h = absurd (cc)
    by (Some l) f h =
        let is : big_endian l ≡ n = cc in
        let t = octets_of_bytes 8 w l f in
        let b = big_endian-fits l (bytes_of l t.1) in
        let m : 256 ^ length l ≡ 2 ^ 64 = ap (λ (k : ℕ). 256 ^ k) t.0 in
        omega (arith, is, b, m)

-- ---- the values of keys

name_small : (w : List ℕ) → passes (λ n. ltb n (2 ^ 64)) (name w) ≡ true
name_small w = by (name w) refl
  where
    by : (o : Option ℕ) → name w ≡ o → passes (λ n. ltb n (2 ^ 64)) o ≡ true
    by None e = refl
    by (Some n) e = lt-ltb n (2 ^ 64) (name_below w n e)

station_bytes : (w : List ℕ) → passes are_bytes (station w) ≡ true
station_bytes w = by (octets_of 6 w) refl
  where
    test : (mac : List ℕ) (t : Bool) → are_bytes mac ≡ true → passes are_bytes (cond t (Some mac) None) ≡ true
    test mac true e = e
    test mac false e = refl

    by : (o : Option (List ℕ)) → octets_of 6 w ≡ o → passes are_bytes (option_and_then (λ (mac : List ℕ). cond (is_station mac) (Some mac) None) o) ≡ true
    by None e = refl
    by (Some mac) e = test mac (is_station mac) (octets_of_bytes 6 w mac e).1

zones_typed : (zones more : List Zone) (ws : List (List ℕ)) → zones_with zones ws ≡ Ok more → list_all is_typed zones ≡ true → list_all is_typed more ≡ true
unfolding zones_with
zones_typed zones more ws e typed =
    let p : IsPut (zone_names zones) name (zone_put zones) more = put_of (zone_names zones) name (zone_put zones) more ws e in
    let z : Zone = record { name = p.n; members = p.list } in
    let is = grown (ltb 1000 (length (zones ++ z ∷ [])) || ltb 20000 (sum_by (λ (x : Zone). length x.members) (zones ++ z ∷ []))) (zones ++ z ∷ []) p.is in
    ap (list_all is_typed) (sym is) ∙ all_push is_typed zones z typed (listed_below name (2 ^ 64) name_below p.ws p.list p.says_list)
  where
    grown : (t : Bool) (l : List Zone) → cond t (Err why.Limit) (Ok l) ≡ Ok more → l ≡ more
    grown true l h = absurd (cc)
    grown false l h = let is : l ≡ more = cc in is

-- ---- a line

-- the switch, the bytes and the members of a draft are typed
abbrev pub Typing : Draft → Type 0
Typing d = (passes (λ n. ltb n (2 ^ 64)) d.switch ≡ true) × (passes are_bytes d.fcf_mac ≡ true) × (list_all is_typed d.zones ≡ true)

number_types : (d e : Draft) (k : NumberKey) (n : Option ℕ) → with_number d k n ≡ Ok e → Typing d → Typing e
number_types d e Vlan n h t = let c = changes_of (set_once d.vlan n) (λ x. record d { vlan = x }) e h in subst Typing c.is t
number_types d e Domain n h t = let c = changes_of (set_once d.domain n) (λ x. record d { domain = x }) e h in subst Typing c.is t
number_types d e Pool n h t = let c = changes_of (set_once d.pool n) (λ x. record d { pool = x }) e h in subst Typing c.is t
number_types d e Priority n h t = let c = changes_of (set_once d.priority n) (λ x. record d { priority = x }) e h in subst Typing c.is t
number_types d e Period n h t = let c = changes_of (set_once d.period n) (λ x. record d { period = x }) e h in subst Typing c.is t
number_types d e Window n h t = let c = changes_of (set_once d.window n) (λ x. record d { window = x }) e h in subst Typing c.is t
number_types d e Logins n h t = let c = changes_of (set_once d.limit n) (λ x. record d { limit = x }) e h in subst Typing c.is t

keyword_types : (d e : Draft) (k : Keyword) (ws : List (List ℕ)) → with_keyword d k ws ≡ Ok e → Typing d → Typing e
keyword_types d e FcfMac ws h t =
    let c = changes_of (set_once d.fcf_mac (only station ws)) (λ x. record d { fcf_mac = x }) e h in
    subst Typing c.is (t.0, once_passes are_bytes d.fcf_mac (only station ws) c.x c.read (only_passes station are_bytes station_bytes ws), t.2)
keyword_types d e Switch ws h t =
    let c = changes_of (set_once d.switch (only name ws)) (λ x. record d { switch = x }) e h in
    subst Typing c.is (once_passes (λ n. ltb n (2 ^ 64)) d.switch (only name ws) c.x c.read (only_passes name (λ n. ltb n (2 ^ 64)) name_small ws), t.1, t.2)
keyword_types d e FcMap ws h t = let c = changes_of (set_once d.map (only fc_map ws)) (λ x. record d { map = x }) e h in subst Typing c.is t
keyword_types d e (Number k) ws h t = number_types d e k _ h t
keyword_types d e Zones ws h t = let c = changes_of (zones_with d.zones ws) (λ x. record d { zones = x }) e h in subst Typing c.is (t.0, t.1, zones_typed d.zones c.x ws c.read t.2)
keyword_types d e Sets ws h t = let c = changes_of (sets_with d.zones d.sets ws) (λ x. record d { sets = x }) e h in subst Typing c.is t
keyword_types d e Activations ws h t = let c = changes_of (activations_with d.sets d.activations ws) (λ x. record d { activations = x }) e h in subst Typing c.is t

-- ---- the whole text

-- a value in its range, and typed
pub record Sound (c : Settings) : Type 0 where
  pub range : IsTrue (is_in_range c)
  pub typed : IsTyped c

abbrev made : Draft → List ℕ → ℕ → Settings
made d mac vlan = with_defaults d mac vlan (unwrap_or d.switch (switch_of mac))

switch_small : (o : Option ℕ) (mac : List ℕ) → passes (λ n. ltb n (2 ^ 64)) o ≡ true → is_station mac ≡ true → are_bytes mac ≡ true → unwrap_or o (switch_of mac) < 2 ^ 64
switch_small (Some n) mac h s b = ltb-true n (2 ^ 64) h
switch_small None mac h s b =
    let even = eqb (get_or mac 0 0 % 2) 0 in
    let six = eqb-true (length mac) 6 (and_parts _ _ (and_parts _ _ s).0).0 in
    let fits = big_endian-fits mac (bytes_of mac b) in
    let m : 256 ^ length mac ≡ 2 ^ 48 = ap (λ (k : ℕ). 256 ^ k) six in
    omega (arith, fits, m)

finished_sound : (d : Draft) (c : Settings) → finished d ≡ Some c → Fits d → Typing d → Sound c
unfolding finished
finished_sound d c e fit t = by d.fcf_mac d.vlan refl refl e
  where
    by : (o : Option (List ℕ)) (p : Option ℕ) → d.fcf_mac ≡ o → d.vlan ≡ p → option_and_then (λ (mac : List ℕ). option_map (λ (vlan : ℕ). made d mac vlan) p) o ≡ Some c → Sound c
    by None p f g h = absurd (cc)
    by (Some mac) None f g h = absurd (cc)
    by (Some mac) (Some vlan) f g h =
        let is : made d mac vlan ≡ c = cc in
        let station : is_station mac ≡ true = sym (ap (passes is_station) f) ∙ fit.fcf_mac in
        let bytes : are_bytes mac ≡ true = sym (ap (passes are_bytes) f) ∙ t.1 in
        subst Sound is (record {
          range = fits_in_range d mac vlan (unwrap_or d.switch (switch_of mac)) fit f g (switch_small d.switch mac t.0 station bytes);
          typed = record { bytes = bytes; members = t.2 };
        })

lines_sound : (n : ℕ) (d : Draft) (lines : List (List ℕ)) (c : Settings) → lines_read n d lines ≡ Ok c → Fits d → Typing d → Sound c
lines_sound n d [] c e fit t = by (finished d) refl e
  where
    by : (o : Option Settings) → finished d ≡ o → elim o as (λ _. Result Settings ConfigFault) [ Some c ↦ Ok c | None ↦ Err (record { line = n; why = why.Missing }) ] ≡ Ok c → Sound c
    by None f h = absurd (cc)
    by (Some x) f h = let is : x ≡ c = cc in subst Sound is (finished_sound d x f fit t)
lines_sound n d (line ∷ lines) c e fit t = by (line_read d line) refl (λ next. lines_sound (n + 1) next lines c) e
  where
    by : (r : Result Draft ConfigWhy) → line_read d line ≡ r → ((next : Draft) → lines_read (n + 1) next lines ≡ Ok c → Fits next → Typing next → Sound c)
        → elim r as (λ _. Result Settings ConfigFault) [ Ok next ↦ lines_read (n + 1) next lines | Err w ↦ Err (record { line = n; why = w }) ] ≡ Ok c → Sound c
    by (Err w) f ih h = absurd (cc)
    by (Ok next) f ih h = ih next h (line_fits d next line f fit) (line_keeps Typing keyword_types d next line f t)

nothing_fits : Fits NOTHING
nothing_fits = record { fcf_mac = refl; vlan = refl; map = refl; domain = refl; pool = refl; priority = refl; period = refl; window = refl; limit = refl; zones = refl; sets = refl; activations = refl }

-- what a text says is in its range, and typed
pub decoded_sound : (text : List ℕ) (c : Settings) → decoded text ≡ Ok c → Sound c
unfolding decoded
decoded_sound text c e = by (ltb 1048576 (length text)) e
  where
    by : (t : Bool) → elim t as (λ _. Result Settings ConfigFault) [ true ↦ Err (record { line = 0; why = why.Long }) | false ↦ lines_read 1 NOTHING (lines_of text) ] ≡ Ok c → Sound c
    by true h = absurd (cc)
    by false h = lines_sound 1 NOTHING (lines_of text) c h nothing_fits (refl, refl, refl)

pub decoded_again : (text : List ℕ) (c : Settings) → decoded text ≡ Ok c → decoded (written c) ≡ Ok c
decoded_again text c e = let s = decoded_sound text c e in decoded_back c s.range s.typed
