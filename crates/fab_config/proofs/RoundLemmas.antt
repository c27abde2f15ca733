-- A written configuration is read back.
use Rattle.std.proofs.Common.{◌≡◌, ℕ, ◌+◌, ◌*◌, ◌^◌, ◌<◌, ◌≤◌, List, [], ◌∷◌, ◌++◌, length, Bool, true, false, cond, ltb, leb, ◌&&◌, Option, Some, None, Result, Ok, Err, codes, refl, sym, ◌∙◌, ap, arith}
use Rattle.std.specs.Prelude.{IsTrue}
use Rattle.std.specs.List.{list_all, flat_map, sum_by}
use Rattle.std.specs.Option.{option_and_then}
use Rattle.std.specs.Fmt.{decimal}
use Rattle.std.proofs.lemmas.List.{append_assoc, append-nil, length-append}
use Rattle.std.proofs.lemmas.Bool.{leb-true, le-leb, ltb-true, eqb-true, and_parts, and_from}
use Rattle.fab_base.specs.Layout.{spelled, big_endian}
use Rattle.fab_base.proofs.LayoutLemmas.{length-spelled, big_endian-spelled}
use Rattle.fab_config.specs.Settings.{Settings, is_between, is_station, is_zone_name, are_zones, are_sets, are_activations, is_in_range}
use Rattle.fab_config.specs.Lines.{lines_of}
use Rattle.fab_config.specs.Names.{zone_names, set_names}
use Rattle.fab_config.specs.Values.{station, fc_map, number_between}
use Rattle.fab_config.specs.Text.{NOTHING, keyword_of, lines_read, finished, set_once, changed}
use Rattle.fab_config.specs.Written.{written, addresses_text, numbers_text, octets_text, name_text, zone_line, set_line, activation_line, line_text, number_line, name_at}
use Rattle.fab_config.specs.declared.Zone.{Zone}
use Rattle.fab_config.specs.declared.ZoneSet.{ZoneSet}
use Rattle.fab_config.specs.declared.ConfigWhy.TheVariants as why
use Rattle.fab_config.specs.declared.ConfigFault.{ConfigFault}
use Rattle.fab_config.specs.declared.draft.Draft.{Draft}
use Rattle.fab_config.specs.declared.keyword.Keyword.TheVariants.{FcfMac, Switch, FcMap, Number}
use Rattle.fab_config.specs.declared.keyword.NumberKey.TheVariants.{Vlan, Domain, Pool, Priority, Period, Window, Logins}
use Rattle.fab_config.proofs.BackLemmas.{is_word, are_words}
use Rattle.fab_config.proofs.ValueLemmas.{are_bytes, name_back, octets_of_back, octets_word, spelled_bytes, between_back, decimal_word}
use Rattle.fab_config.proofs.FoldLemmas.{line_step}
use Rattle.fab_config.specs.Typed.{IsTyped}
use Rattle.fab_config.specs.Text.{decoded}
use Rattle.fab_config.proofs.LengthLemmas.{name_short, octets_length, zones_length, sets_length, activations_length, word_length, number_length}
use Rattle.fab_config.proofs.RangeLemmas.{between}
use Rattle.fab_config.proofs.ListBack.{AreNames, are_names, name_at_ok, zones_read, sets_read, activations_read}
use Rattle.fab_config.proofs.ListLemmas.{all_more}
use Rattle.fab_config.proofs.ListedLemmas.{zone_check, zone_of, zones_of, set_check, set_of, sets_of}

regroup : (a b c d e f g h i j r : List ℕ) → (a ++ b ++ c ++ d) ++ ((e ++ f ++ g ++ h ++ i ++ j) ++ r) ≡ a ++ (b ++ (c ++ (d ++ (e ++ (f ++ (g ++ (h ++ (i ++ (j ++ r)))))))))
regroup a b c d e f g h i j r = simp append_assoc

one_word : (w : List ℕ) → (is_word w && leb 1 (length w)) ≡ true → are_words (w ∷ []) ≡ true
one_word w h = and_from (is_word w && leb 1 (length w)) true h refl

-- each value of a configuration is in its range
pub record HasRanges (c : Settings) : Type 0 where
  pub mac : is_station c.fcf_mac ≡ true
  pub bytes : are_bytes c.fcf_mac ≡ true
  pub six : length c.fcf_mac ≡ 6
  pub switch : c.switch < 2 ^ 64
  pub map : is_between 0x0efc00 0x0efcff c.fc_map ≡ true
  pub vlan : is_between 1 4094 c.vlan ≡ true
  pub domain : is_between 1 239 c.domain ≡ true
  pub pool : is_between 1 60000 c.pool ≡ true
  pub priority : is_between 0 255 c.priority ≡ true
  pub period : is_between 250 90000 c.period ≡ true
  pub window : is_between 10 1000 c.window ≡ true
  pub limit : is_between 1 1000 c.limit ≡ true
  pub zones : are_zones c.zones ≡ true
  pub sets : are_sets (length c.zones) c.sets ≡ true
  pub activations : are_activations (length c.sets) c.activations ≡ true

pub ranges_of : (c : Settings) → IsTrue (is_in_range c) → IsTyped c → HasRanges c
ranges_of c h typed =
    let activations = and_parts _ _ h in
    let sets = and_parts _ _ activations.0 in
    let zones = and_parts _ _ sets.0 in
    let limit = and_parts _ _ zones.0 in
    let window = and_parts _ _ limit.0 in
    let period = and_parts _ _ window.0 in
    let priority = and_parts _ _ period.0 in
    let pool = and_parts _ _ priority.0 in
    let domain = and_parts _ _ pool.0 in
    let vlan = and_parts _ _ domain.0 in
    let map = and_parts _ _ vlan.0 in
    let mac = and_parts _ _ map.0 in
    record {
      mac = mac.1;
      bytes = typed.bytes;
      six = eqb-true (length c.fcf_mac) 6 (and_parts _ _ (and_parts _ _ mac.1).0).0;
      switch = ltb-true c.switch (2 ^ 64) mac.0;
      map = map.1;
      vlan = vlan.1;
      domain = domain.1;
      pool = pool.1;
      priority = and_from (leb 0 c.priority) (leb c.priority 255) (le-leb 0 c.priority (omega arith)) priority.1;
      period = period.1;
      window = window.1;
      limit = limit.1;
      zones = zones.1;
      sets = sets.1;
      activations = activations.1;
    }

small : (least most n : ℕ) → most < 2 ^ 64 → is_between least most n ≡ true → n < 2 ^ 64
small least most n lt h = omega (arith, (between least most n h).1, lt)

abbrev pub keys_draft : Settings → Draft
keys_draft c = record {
  fcf_mac = Some c.fcf_mac;
  vlan = Some c.vlan;
  switch = Some c.switch;
  map = Some c.fc_map;
  domain = Some c.domain;
  pool = Some c.pool;
  priority = Some c.priority;
  period = Some c.period;
  window = Some c.window;
  limit = Some c.limit;
  zones = [];
  sets = [];
  activations = [];
}

station_back : (c : Settings) → HasRanges c → station (octets_text c.fcf_mac) ≡ Some c.fcf_mac
station_back c h =
    ap (λ (o : Option (List ℕ)). option_and_then (λ (mac : List ℕ). cond (is_station mac) (Some mac) None) o) (octets_of_back 6 c.fcf_mac (omega arith) h.six h.bytes)
    ∙ ap (λ t. cond t (Some c.fcf_mac) None) h.mac

map_back : (n : ℕ) → is_between 0x0efc00 0x0efcff n ≡ true → fc_map (octets_text (spelled 3 n)) ≡ Some n
map_back n h =
    let fits : n < 256 ^ 3 = omega (arith, (between 0x0efc00 0x0efcff n h).1) in
    ap (λ (o : Option (List ℕ)). option_and_then (λ (l : List ℕ). cond (is_between 0x0efc00 0x0efcff (big_endian l)) (Some (big_endian l)) None) o) (octets_of_back 3 (spelled 3 n) (omega arith) (length-spelled 3 n) (spelled_bytes 3 n))
    ∙ ap (λ (m : ℕ). cond (is_between 0x0efc00 0x0efcff m) (Some m) None) (big_endian-spelled 3 n fits) ∙ ap (λ t. cond t (Some n) None) h

pub keys_read : (c : Settings) (rest : List ℕ) → HasRanges c → lines_read 1 NOTHING (lines_of (addresses_text c ++ (numbers_text c ++ rest))) ≡ lines_read 11 (keys_draft c) (lines_of rest)
unfolding keyword_of
keys_read c rest h =
    let b : (least most n : ℕ) → most < 2 ^ 64 → is_between least most n ≡ true → number_between least most (decimal n) ≡ Some n = λ least most n lt k. between_back least most n (small least most n lt k) k in
    let w : (least most n : ℕ) → most < 2 ^ 64 → is_between least most n ≡ true → are_words (decimal n ∷ []) ≡ true = λ least most n lt k. one_word (decimal n) (decimal_word n (small least most n lt k)) in
    let l10 = number_line (codes "limit") c.limit in
    let l9 = number_line (codes "window") c.window in
    let l8 = number_line (codes "period") c.period in
    let l7 = number_line (codes "priority") c.priority in
    let l6 = number_line (codes "pool") c.pool in
    let l5 = number_line (codes "domain") c.domain in
    let l4 = line_text (codes "fc-map") (octets_text (spelled 3 c.fc_map) ∷ []) in
    let l3 = line_text (codes "switch") (name_text c.switch ∷ []) in
    let l2 = number_line (codes "vlan") c.vlan in
    let l1 = line_text (codes "fcf-mac") (octets_text c.fcf_mac ∷ []) in
    let d1 : Draft = record NOTHING { fcf_mac = Some c.fcf_mac } in
    let d2 : Draft = record d1 { vlan = Some c.vlan } in
    let d3 : Draft = record d2 { switch = Some c.switch } in
    let d4 : Draft = record d3 { map = Some c.fc_map } in
    let d5 : Draft = record d4 { domain = Some c.domain } in
    let d6 : Draft = record d5 { pool = Some c.pool } in
    let d7 : Draft = record d6 { priority = Some c.priority } in
    let d8 : Draft = record d7 { period = Some c.period } in
    let d9 : Draft = record d8 { window = Some c.window } in
    let d10 : Draft = record d9 { limit = Some c.limit } in
    ap (λ l. lines_read 1 NOTHING (lines_of l)) (regroup l1 l2 l3 l4 l5 l6 l7 l8 l9 l10 rest)
    ∙ line_step 1 NOTHING d1 (codes "fcf-mac") (octets_text c.fcf_mac ∷ []) FcfMac (l2 ++ (l3 ++ (l4 ++ (l5 ++ (l6 ++ (l7 ++ (l8 ++ (l9 ++ (l10 ++ rest))))))))) refl (omega arith) refl refl
    (one_word (octets_text c.fcf_mac) (octets_word c.fcf_mac (let s = h.six in omega (arith, s)) h.bytes)) (ap (λ (o : Option (List ℕ)). changed (set_once None o) (λ x. record NOTHING { fcf_mac = x })) (station_back c h))
    ∙ line_step 2 d1 d2 (codes "vlan") (decimal c.vlan ∷ []) (Number Vlan) (l3 ++ (l4 ++ (l5 ++ (l6 ++ (l7 ++ (l8 ++ (l9 ++ (l10 ++ rest)))))))) refl (omega arith) refl refl
    (w 1 4094 c.vlan (omega arith) h.vlan) (ap (λ (o : Option ℕ). changed (set_once None o) (λ x. record d1 { vlan = x })) (b 1 4094 c.vlan (omega arith) h.vlan))
    ∙ line_step 3 d2 d3 (codes "switch") (name_text c.switch ∷ []) Switch (l4 ++ (l5 ++ (l6 ++ (l7 ++ (l8 ++ (l9 ++ (l10 ++ rest))))))) refl (omega arith) refl refl
    (one_word (name_text c.switch) (octets_word (spelled 8 c.switch) (let s = length-spelled 8 c.switch in omega (arith, s)) (spelled_bytes 8 c.switch))) (ap (λ (o : Option ℕ). changed (set_once None o) (λ x. record d2 { switch = x })) (name_back c.switch h.switch))
    ∙ line_step 4 d3 d4 (codes "fc-map") (octets_text (spelled 3 c.fc_map) ∷ []) FcMap (l5 ++ (l6 ++ (l7 ++ (l8 ++ (l9 ++ (l10 ++ rest)))))) refl (omega arith) refl refl
    (one_word (octets_text (spelled 3 c.fc_map)) (octets_word (spelled 3 c.fc_map) (let s = length-spelled 3 c.fc_map in omega (arith, s)) (spelled_bytes 3 c.fc_map))) (ap (λ (o : Option ℕ). changed (set_once None o) (λ x. record d3 { map = x })) (map_back c.fc_map h.map))
    ∙ line_step 5 d4 d5 (codes "domain") (decimal c.domain ∷ []) (Number Domain) (l6 ++ (l7 ++ (l8 ++ (l9 ++ (l10 ++ rest))))) refl (omega arith) refl refl
    (w 1 239 c.domain (omega arith) h.domain) (ap (λ (o : Option ℕ). changed (set_once None o) (λ x. record d4 { domain = x })) (b 1 239 c.domain (omega arith) h.domain))
    ∙ line_step 6 d5 d6 (codes "pool") (decimal c.pool ∷ []) (Number Pool) (l7 ++ (l8 ++ (l9 ++ (l10 ++ rest)))) refl (omega arith) refl refl
    (w 1 60000 c.pool (omega arith) h.pool) (ap (λ (o : Option ℕ). changed (set_once None o) (λ x. record d5 { pool = x })) (b 1 60000 c.pool (omega arith) h.pool))
    ∙ line_step 7 d6 d7 (codes "priority") (decimal c.priority ∷ []) (Number Priority) (l8 ++ (l9 ++ (l10 ++ rest))) refl (omega arith) refl refl
    (w 0 255 c.priority (omega arith) h.priority) (ap (λ (o : Option ℕ). changed (set_once None o) (λ x. record d6 { priority = x })) (b 0 255 c.priority (omega arith) h.priority))
    ∙ line_step 8 d7 d8 (codes "period") (decimal c.period ∷ []) (Number Period) (l9 ++ (l10 ++ rest)) refl (omega arith) refl refl
    (w 250 90000 c.period (omega arith) h.period) (ap (λ (o : Option ℕ). changed (set_once None o) (λ x. record d7 { period = x })) (b 250 90000 c.period (omega arith) h.period))
    ∙ line_step 9 d8 d9 (codes "window") (decimal c.window ∷ []) (Number Window) (l10 ++ rest) refl (omega arith) refl refl
    (w 10 1000 c.window (omega arith) h.window) (ap (λ (o : Option ℕ). changed (set_once None o) (λ x. record d8 { window = x })) (b 10 1000 c.window (omega arith) h.window))
    ∙ line_step 10 d9 d10 (codes "limit") (decimal c.limit ∷ []) (Number Logins) rest refl (omega arith) refl refl
    (w 1 1000 c.limit (omega arith) h.limit) (ap (λ (o : Option ℕ). changed (set_once None o) (λ x. record d9 { limit = x })) (b 1 1000 c.limit (omega arith) h.limit))

zone_names_are : (l : List Zone) → are_zones l ≡ true → list_all (λ (z : Zone). is_zone_name z.name) l ≡ true
zone_names_are l h = all_more zone_check (λ (z : Zone). is_zone_name z.name) (λ z k. (zone_of z k).is_name) l (zones_of l h).checked

zone_names_ok : (l : List Zone) → are_zones l ≡ true → AreNames (zone_names l)
zone_names_ok l h = are_names (λ (z : Zone). z.name) l (zones_of l h).differ (zone_names_are l h)

set_names_ok : (n : ℕ) (l : List ZoneSet) → are_sets n l ≡ true → AreNames (set_names l)
set_names_ok n l h =
    let are = sets_of n l h in
    are_names (λ (s : ZoneSet). s.name) l are.differ (all_more (set_check n) (λ (s : ZoneSet). is_zone_name s.name) (λ s k. (set_of n s k).is_name) l are.checked)

-- all lines of a written configuration
pub lines_back : (c : Settings) → HasRanges c → IsTyped c → lines_read 1 NOTHING (lines_of (written c)) ≡ Ok c
unfolding written finished
lines_back c h typed =
    let z = flat_map zone_line c.zones in
    let s = flat_map (set_line c.zones) c.sets in
    let a = flat_map (activation_line c.sets) c.activations in
    let d1 : Draft = record (keys_draft c) { zones = c.zones } in
    let d2 : Draft = record d1 { sets = c.sets } in
    let d3 : Draft = record d2 { activations = c.activations } in
    ap (λ l. lines_read 1 NOTHING (lines_of l)) (order (addresses_text c) (numbers_text c) z s a)
    ∙ keys_read c (z ++ (s ++ (a ++ []))) h
    ∙ zones_read 11 (keys_draft c) c.zones (s ++ (a ++ [])) (h.zones, typed.members)
    ∙ sets_read (11 + length c.zones) d1 c.sets (a ++ []) (zone_names_ok c.zones h.zones) h.sets
    ∙ activations_read (11 + length c.zones + length c.sets) d2 c.activations [] (set_names_ok (length c.zones) c.sets h.sets) h.activations
  where
    order : (k n z s a : List ℕ) → k ++ n ++ z ++ s ++ a ≡ k ++ (n ++ (z ++ (s ++ (a ++ []))))
    order k n z s a = flat k n z s a ∙ ap (λ l. k ++ (n ++ (z ++ (s ++ l)))) (sym (append-nil a))
      where
        flat : (k n z s a : List ℕ) → k ++ n ++ z ++ s ++ a ≡ k ++ (n ++ (z ++ (s ++ a)))
        flat k n z s a = simp append_assoc

keys_length : (c : Settings) → HasRanges c → length (addresses_text c) + length (numbers_text c) ≤ 300
keys_length c h =
    let l1 = line_text (codes "fcf-mac") (octets_text c.fcf_mac ∷ []) in
    let l2 = number_line (codes "vlan") c.vlan in
    let l3 = line_text (codes "switch") (name_text c.switch ∷ []) in
    let l4 = line_text (codes "fc-map") (octets_text (spelled 3 c.fc_map) ∷ []) in
    let l5 = number_line (codes "domain") c.domain in
    let l6 = number_line (codes "pool") c.pool in
    let l7 = number_line (codes "priority") c.priority in
    let l8 = number_line (codes "period") c.period in
    let l9 = number_line (codes "window") c.window in
    let l10 = number_line (codes "limit") c.limit in
    let a1 : length l1 ≤ 30 = (let w = word_length (codes "fcf-mac") (octets_text c.fcf_mac) in let o = octets_length c.fcf_mac in let s = h.six in omega (arith, w, o, s)) in
    let a2 : length l2 ≤ 30 = (let t = (between 1 4094 c.vlan h.vlan).1 in let n = number_length (codes "vlan") c.vlan (omega (arith, t)) in omega (arith, n)) in
    let a3 : length l3 ≤ 40 = (let w = word_length (codes "switch") (name_text c.switch) in let o = octets_length (spelled 8 c.switch) in let s = length-spelled 8 c.switch in omega (arith, w, o, s)) in
    let a4 : length l4 ≤ 30 = (let w = word_length (codes "fc-map") (octets_text (spelled 3 c.fc_map)) in let o = octets_length (spelled 3 c.fc_map) in let s = length-spelled 3 c.fc_map in omega (arith, w, o, s)) in
    let a5 : length l5 ≤ 20 = (let t = (between 1 239 c.domain h.domain).1 in let n = number_length (codes "domain") c.domain (omega (arith, t)) in omega (arith, n)) in
    let a6 : length l6 ≤ 20 = (let t = (between 1 60000 c.pool h.pool).1 in let n = number_length (codes "pool") c.pool (omega (arith, t)) in omega (arith, n)) in
    let a7 : length l7 ≤ 20 = (let t = (between 0 255 c.priority h.priority).1 in let n = number_length (codes "priority") c.priority (omega (arith, t)) in omega (arith, n)) in
    let a8 : length l8 ≤ 20 = (let t = (between 250 90000 c.period h.period).1 in let n = number_length (codes "period") c.period (omega (arith, t)) in omega (arith, n)) in
    let a9 : length l9 ≤ 20 = (let t = (between 10 1000 c.window h.window).1 in let n = number_length (codes "window") c.window (omega (arith, t)) in omega (arith, n)) in
    let a10 : length l10 ≤ 20 = (let t = (between 1 1000 c.limit h.limit).1 in let n = number_length (codes "limit") c.limit (omega (arith, t)) in omega (arith, n)) in
    four l1 l2 l3 l4 l5 l6 l7 l8 l9 l10 a1 a2 a3 a4 a5 a6 a7 a8 a9 a10
  where
    four : (l1 l2 l3 l4 l5 l6 l7 l8 l9 l10 : List ℕ) → length l1 ≤ 30 → length l2 ≤ 30 → length l3 ≤ 40 → length l4 ≤ 30 → length l5 ≤ 20 → length l6 ≤ 20 → length l7 ≤ 20 → length l8 ≤ 20 → length l9 ≤ 20 → length l10 ≤ 20
        → length (l1 ++ l2 ++ l3 ++ l4) + length (l5 ++ l6 ++ l7 ++ l8 ++ l9 ++ l10) ≤ 300
    four l1 l2 l3 l4 l5 l6 l7 l8 l9 l10 a1 a2 a3 a4 a5 a6 a7 a8 a9 a10 =
        let e4 = length-append (l1 ++ l2 ++ l3) l4 in
        let e3 = length-append (l1 ++ l2) l3 in
        let e2 = length-append l1 l2 in
        let e10 = length-append (l5 ++ l6 ++ l7 ++ l8 ++ l9) l10 in
        let e9 = length-append (l5 ++ l6 ++ l7 ++ l8) l9 in
        let e8 = length-append (l5 ++ l6 ++ l7) l8 in
        let e7 = length-append (l5 ++ l6) l7 in
        let e6 = length-append l5 l6 in
        omega (arith, e4, e3, e2, e10, e9, e8, e7, e6)

written_length : (c : Settings) → HasRanges c → length (written c) ≤ 1048576
unfolding written
written_length c h =
    let keys = keys_length c h in
    let z = flat_map zone_line c.zones in
    let s = flat_map (set_line c.zones) c.sets in
    let a = flat_map (activation_line c.sets) c.activations in
    let n = length c.zones in
    let zones = zones_of c.zones h.zones in
    let sets = sets_of n c.sets h.sets in
    let names = zone_names_are c.zones h.zones in
    let set_ok : list_all (λ (y : ZoneSet). is_zone_name y.name) c.sets ≡ true = all_more (set_check n) (λ (y : ZoneSet). is_zone_name y.name) (λ y k. (set_of n y k).is_name) c.sets sets.checked in
    let lz = zones_length c.zones names in
    let ls = sets_length c.zones (length c.zones) (λ q lt. name_short (name_at (zone_names c.zones) q) (name_at_ok (λ (y : Zone). y.name) c.zones q lt names)) c.sets
    (all_more (set_check n) (λ (y : ZoneSet). is_zone_name y.name && list_all (λ p. ltb p n) y.places) (λ y k. let q = set_of n y k in and_from (is_zone_name y.name) (list_all (λ p. ltb p n) y.places) q.is_name q.below) c.sets sets.checked) in
    let acts = and_parts _ _ h.activations in
    let la = activations_length c.sets (length c.sets) (λ q lt. name_short (name_at (set_names c.sets) q) (name_at_ok (λ (y : ZoneSet). y.name) c.sets q lt set_ok)) c.activations
    (and_parts _ _ acts.0).0 in
    let few_a : length c.activations ≤ 64 = leb-true (length c.activations) 64 acts.1 in
    let f4 = length-append (addresses_text c ++ numbers_text c ++ z ++ s) a in
    let f3 = length-append (addresses_text c ++ numbers_text c ++ z) s in
    let f2 = length-append (addresses_text c ++ numbers_text c) z in
    let f1 = length-append (addresses_text c) (numbers_text c) in
    total (length (addresses_text c)) (length (numbers_text c)) (length z) (length s) (length a) (length c.zones) (sum_by (λ (y : Zone). length y.members) c.zones) (length c.sets) (sum_by (λ (y : ZoneSet). length y.places) c.sets) (length c.activations)
    (length (written_parts c)) (f4 ∙ ap (λ (n : ℕ). n + length a) (f3 ∙ ap (λ (n : ℕ). n + length s) (f2 ∙ ap (λ (n : ℕ). n + length z) f1))) keys lz ls la (leb-true (length c.zones) 1000 zones.few)
    (leb-true (sum_by (λ (y : Zone). length y.members) c.zones) 20000 zones.few_numbers) (leb-true (length c.sets) 64 sets.few) (leb-true (sum_by (λ (y : ZoneSet). length y.places) c.sets) 4000 sets.few_numbers) few_a
  where
    written_parts : Settings → List ℕ
    written_parts c = addresses_text c ++ numbers_text c ++ flat_map zone_line c.zones ++ flat_map (set_line c.zones) c.sets ++ flat_map (activation_line c.sets) c.activations

    total : (k n z s a zs ms ss ps acts w : ℕ) → w ≡ k + n + z + s + a → k + n ≤ 300 → z ≤ 70 * zs + 24 * ms → s ≤ 73 * ss + 65 * ps → a ≤ 88 * acts → zs ≤ 1000 → ms ≤ 20000 → ss ≤ 64 → ps ≤ 4000 → acts ≤ 64 → w ≤ 1048576
    total k n z s a zs ms ss ps acts w e b1 b2 b3 b4 b5 b6 b7 b8 b9 = omega arith

-- a written configuration is decoded as itself
pub decoded_back : (c : Settings) → IsTrue (is_in_range c) → IsTyped c → decoded (written c) ≡ Ok c
unfolding decoded
decoded_back c h typed =
    ap (λ t. elim t as (λ _. Result Settings ConfigFault) [ true ↦ Err (record { line = 0; why = why.Long }) | false ↦ lines_read 1 NOTHING (lines_of (written c)) ]) (fits (length (written c)) (written_length c (ranges_of c h typed)))
    ∙ lines_back c (ranges_of c h typed) typed
  where
    fits : (n : ℕ) → n ≤ 1048576 → ltb 1048576 n ≡ false
    fits n le = by (ltb 1048576 n) refl
      where
        by : (t : Bool) → ltb 1048576 n ≡ t → t ≡ false
        by true e = absurd (let h : 1048576 < n = ltb-true 1048576 n e in omega (arith, h))
        by false e = refl
