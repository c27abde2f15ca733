-- The configuration text: its value line by line, or the first fault; and the one text that is written for a value.
use Rattle.std.specs.Prelude.{ℕ, ◌+◌, ◌*◌, ◌^◌, Bool, true, false, nat_lt, ◌||◌, if◌then◌else◌, List, [], ◌∷◌, ◌++◌, length, find, Option, Some, None, is_some, option_map, option_and_then, unwrap_or, Result, Ok, Err, codes, sum_by}
use Rattle.std.specs.List.{list_all}
use Rattle.std.specs.Option.{ok_or}
use Rattle.fab_base.specs.Layout.{big_endian}
use Rattle.fab_config.specs.Settings.{Settings, same_bytes}
use Rattle.fab_config.specs.Lines.{lines_of, words, is_skipped, is_ascii}
use Rattle.fab_config.specs.Names.{zone_names, set_names, place}
use Rattle.fab_config.specs.Values.{number_between, name, station, fc_map, zone_name, all_of, only, once}
pub use Rattle.fab_config.specs.Written.{written}
use Rattle.fab_config.specs.declared.Zone.{Zone}
use Rattle.fab_config.specs.declared.ZoneSet.{ZoneSet}
use Rattle.fab_config.specs.declared.Activation.{Activation}
use Rattle.fab_config.specs.declared.ConfigWhy.{ConfigWhy}
use Rattle.fab_config.specs.declared.ConfigWhy.TheVariants.{Long, Ascii, Key, Twice, Value, Limit, Missing}
use Rattle.fab_config.specs.declared.ConfigFault.{ConfigFault}
use Rattle.fab_config.specs.declared.draft.Draft.{Draft}
use Rattle.fab_config.specs.declared.keyword.Keyword.{Keyword}
use Rattle.fab_config.specs.declared.keyword.Keyword.TheVariants.{FcfMac, Switch, FcMap, Number, Zones, Sets, Activations}
use Rattle.fab_config.specs.declared.keyword.NumberKey.{NumberKey}
use Rattle.fab_config.specs.declared.keyword.NumberKey.TheVariants.{Vlan, Domain, Pool, Priority, Period, Window, Logins}

-- ---- the keys

-- how each key is spelled, one a row
abbrev pub number_text : NumberKey → List ℕ
number_text Vlan = codes "vlan"
number_text Domain = codes "domain"
number_text Pool = codes "pool"
number_text Priority = codes "priority"
number_text Period = codes "period"
number_text Window = codes "window"
number_text Logins = codes "limit"

abbrev pub keyword_text : Keyword → List ℕ
keyword_text FcfMac = codes "fcf-mac"
keyword_text Switch = codes "switch"
keyword_text FcMap = codes "fc-map"
keyword_text (Number k) = number_text k
keyword_text Zones = codes "zone"
keyword_text Sets = codes "zoneset"
keyword_text Activations = codes "activate"

-- the least and the most value of each key that takes a number, one a row
abbrev pub range_of : NumberKey → ℕ × ℕ
range_of Vlan = (1, 4094)
range_of Domain = (1, 239)
range_of Pool = (1, 60000)
range_of Priority = (0, 255)
range_of Period = (250, 90000)
range_of Window = (10, 1000)
range_of Logins = (1, 1000)

-- the keys in the order of the table
abbrev pub KEYWORDS_LIST : List Keyword
KEYWORDS_LIST =
    FcfMac ∷ Number Vlan ∷ Switch ∷ FcMap ∷ Number Domain ∷ Number Pool ∷ Number Priority ∷ Number Period ∷ Number Window ∷ Number Logins ∷ Zones ∷ Sets
    ∷ Activations ∷ []

abbrev pub keyword_in : List Keyword → List ℕ → Option Keyword
keyword_in keywords word = find (λ k. same_bytes word (keyword_text k)) keywords

unfoldable pub keyword_of : List ℕ → Option Keyword
keyword_of word = keyword_in KEYWORDS_LIST word

-- ---- what the lines so far say

abbrev pub NOTHING : Draft
NOTHING = record {
  fcf_mac = None;
  vlan = None;
  switch = None;
  map = None;
  domain = None;
  pool = None;
  priority = None;
  period = None;
  window = None;
  limit = None;
  zones = [];
  sets = [];
  activations = [];
}

-- a key that stands once: its value is new, and is one
abbrev pub set_once : {X : Type 0} → Option X → Option X → Result (Option X) ConfigWhy
set_once (Some old) value = Err Twice
set_once None None = Err Value
set_once None (Some x) = Ok (Some x)

-- the first of a line's values is a name that stood already
abbrev pub is_again : List (List ℕ) → List (List ℕ) → Bool
is_again names [] = false
is_again names (w ∷ ws) = is_some (place w names)

-- what one or more words say, each of which counts once
abbrev pub listed : (List ℕ → Option ℕ) → List (List ℕ) → Option (List ℕ)
listed says [] = None
listed says (w ∷ ws) = option_map once (all_of says (w ∷ ws))

-- a list that was read, which has one item at least
abbrev pub one_at_least : {X : Type 0} → List X → Result (List X) ConfigWhy
one_at_least [] = Err Value
one_at_least (x ∷ xs) = Ok (x ∷ xs)

-- what each of some words says, each of which counts once, or that one says nothing
abbrev pub each_once : (List ℕ → Option ℕ) → List (List ℕ) → Result (List ℕ) ConfigWhy
each_once says ws = ok_or (option_map once (all_of says ws)) Value

-- what words list, or that the line has no value
abbrev pub listed_or_fault : (List ℕ → Option ℕ) → List (List ℕ) → Result (List ℕ) ConfigWhy
listed_or_fault says ws = ok_or (listed says ws) Value

abbrev pub with_name : Option (List ℕ) → Option (List ℕ) → Option (List ℕ × List ℕ)
with_name (Some n) (Some xs) = Some (n, xs)
with_name (Some n) None = None
with_name None xs = None

-- a name, and what the words behind it say
abbrev pub named_list : (List ℕ → Option ℕ) → List (List ℕ) → Option (List ℕ × List ℕ)
named_list says [] = None
named_list says (n ∷ ws) = with_name (zone_name n) (listed says ws)

-- the place of the zone of a name
abbrev pub zone_place : List Zone → List ℕ → Option ℕ
zone_place zones word = place word (zone_names zones)

-- what is put under a name, whatever the values are
abbrev pub named_put : {X : Type 0} → (List ℕ → List ℕ → Result X ConfigWhy) → Option (List ℕ × List ℕ) → Result X ConfigWhy
named_put put None = Err Value
named_put put (Some z) = put z.0 z.1

-- the same, where the name is new
abbrev pub with_named : {X : Type 0} → List (List ℕ) → (List ℕ → Option ℕ) → (List ℕ → List ℕ → Result X ConfigWhy) → List (List ℕ) → Result X ConfigWhy
with_named names says put values = if is_again names values then Err Twice else named_put put (named_list says values)

-- a list that has grown by an item, within the most items and the most numbers under all of them
abbrev pub grown : {X : Type 0} → (X → List ℕ) → ℕ → ℕ → List X → Result (List X) ConfigWhy
grown numbers most most_numbers l = if nat_lt most (length l) || nat_lt most_numbers (sum_by (λ x. length (numbers x)) l) then Err Limit else Ok l

abbrev pub zone_put : List Zone → List ℕ → List ℕ → Result (List Zone) ConfigWhy
zone_put zones n members = grown (λ (z : Zone). z.members) 1000 20000 (zones ++ record { name = n; members = members } ∷ [])

unfoldable pub zones_with : List Zone → List (List ℕ) → Result (List Zone) ConfigWhy
zones_with zones values = with_named (zone_names zones) name (zone_put zones) values

abbrev pub set_put : List ZoneSet → List ℕ → List ℕ → Result (List ZoneSet) ConfigWhy
set_put sets n places = grown (λ (s : ZoneSet). s.places) 64 4000 (sets ++ record { name = n; places = places } ∷ [])

unfoldable pub sets_with : List Zone → List ZoneSet → List (List ℕ) → Result (List ZoneSet) ConfigWhy
sets_with zones sets values = with_named (set_names sets) (zone_place zones) (set_put sets) values

-- a moment is above that of the last activation
abbrev pub is_later : List Activation → ℕ → Bool
is_later activations m = list_all (λ a. nat_lt a.moment m) activations

abbrev pub activated : List Activation → ℕ → Option ℕ → Option Activation
activated activations p None = None
activated activations p (Some m) = if is_later activations m then Some (record { set = p; moment = m }) else None

abbrev pub activation : List ZoneSet → List Activation → List (List ℕ) → Option Activation
activation sets activations (n ∷ w ∷ []) = option_and_then (λ p. activated activations p (number_between 0 4294967295999 w)) (place n (set_names sets))
activation sets activations _ = None

abbrev pub activation_put : List Activation → Option Activation → Result (List Activation) ConfigWhy
activation_put activations None = Err Value
activation_put activations (Some a) = if nat_lt 64 (length activations + 1) then Err Limit else Ok (activations ++ a ∷ [])

unfoldable pub activations_with : List ZoneSet → List Activation → List (List ℕ) → Result (List Activation) ConfigWhy
activations_with sets activations values = activation_put activations (activation sets activations values)

-- a draft with what was read
abbrev pub changed : {X : Type 0} → Result X ConfigWhy → (X → Draft) → Result Draft ConfigWhy
changed (Ok x) with_value = Ok (with_value x)
changed (Err why) with_value = Err why

-- a draft with a number under its key, one a row
abbrev pub with_number : Draft → NumberKey → Option ℕ → Result Draft ConfigWhy
with_number d Vlan n = changed (set_once d.vlan n) (λ x. record d { vlan = x })
with_number d Domain n = changed (set_once d.domain n) (λ x. record d { domain = x })
with_number d Pool n = changed (set_once d.pool n) (λ x. record d { pool = x })
with_number d Priority n = changed (set_once d.priority n) (λ x. record d { priority = x })
with_number d Period n = changed (set_once d.period n) (λ x. record d { period = x })
with_number d Window n = changed (set_once d.window n) (λ x. record d { window = x })
with_number d Logins n = changed (set_once d.limit n) (λ x. record d { limit = x })

-- whether a key names no zones
abbrev pub takes_value : Keyword → Bool
takes_value Zones = false
takes_value Sets = false
takes_value k = true

-- what one more line says, by its key, one a row
abbrev pub with_keyword : Draft → Keyword → List (List ℕ) → Result Draft ConfigWhy
with_keyword d FcfMac values = changed (set_once d.fcf_mac (only station values)) (λ x. record d { fcf_mac = x })
with_keyword d Switch values = changed (set_once d.switch (only name values)) (λ x. record d { switch = x })
with_keyword d FcMap values = changed (set_once d.map (only fc_map values)) (λ x. record d { map = x })
with_keyword d (Number k) values = with_number d k (only (number_between (range_of k).0 (range_of k).1) values)
with_keyword d Zones values = changed (zones_with d.zones values) (λ x. record d { zones = x })
with_keyword d Sets values = changed (sets_with d.zones d.sets values) (λ x. record d { sets = x })
with_keyword d Activations values = changed (activations_with d.sets d.activations values) (λ x. record d { activations = x })

abbrev pub with_key : Draft → Option Keyword → List (List ℕ) → Result Draft ConfigWhy
with_key d None values = Err Key
with_key d (Some k) values = with_keyword d k values

abbrev pub with_words : Draft → List (List ℕ) → Result Draft ConfigWhy
with_words d [] = Err Key
with_words d (key ∷ values) = with_key d (keyword_of key) values

unfoldable pub line_read : Draft → List ℕ → Result Draft ConfigWhy
line_read d line =
    elim (is_skipped line) [
      | true ↦ Ok d
      | false ↦ elim (is_ascii line) [ false ↦ Err Ascii | true ↦ with_words d (words line) ]
    ]

-- ---- the whole text

-- the name of the switch where no line says it: 10:00 and the MAC
abbrev pub switch_of : List ℕ → ℕ
switch_of mac = 0x1000 * 2 ^ 48 + big_endian mac

-- these values, and the defaults for what else no line says
abbrev pub with_defaults : Draft → List ℕ → ℕ → ℕ → Settings
with_defaults d mac vlan switch = record {
  switch = switch;
  fcf_mac = mac;
  fc_map = unwrap_or d.map 0x0efc00;
  vlan = vlan;
  domain = unwrap_or d.domain 1;
  pool = unwrap_or d.pool 256;
  priority = unwrap_or d.priority 128;
  period = unwrap_or d.period 8000;
  window = unwrap_or d.window 100;
  limit = unwrap_or d.limit 240;
  zones = d.zones;
  sets = d.sets;
  activations = d.activations;
}

-- the value with the defaults for what no line says
unfoldable pub finished : Draft → Option Settings
finished d = option_and_then (λ mac. option_map (λ vlan. with_defaults d mac vlan (unwrap_or d.switch (switch_of mac))) d.vlan) d.fcf_mac

-- the value of lines that begin at this number, or the first fault
abbrev pub lines_read : ℕ → Draft → List (List ℕ) → Result Settings ConfigFault
lines_read n d [] = elim (finished d) [ Some c ↦ Ok c | None ↦ Err (record { line = n; why = Missing }) ]
lines_read n d (line ∷ lines) = elim (line_read d line) [ Ok next ↦ lines_read (n + 1) next lines | Err why ↦ Err (record { line = n; why = why }) ]

abbrev pub MOST_TEXT : ℕ
MOST_TEXT = 1048576

-- The value of a configuration text, or its first fault.
unfoldable pub decoded : List ℕ → Result Settings ConfigFault
decoded text = elim (nat_lt MOST_TEXT (length text)) [ true ↦ Err (record { line = 0; why = Long }) | false ↦ lines_read 1 NOTHING (lines_of text) ]
