-- The ranges of a configuration and of a journal's numbers, at their edges.
use Rattle.std.specs.Prelude.{◌≡◌, ℕ, zero, suc, nat_lt, true, false, List, [], ◌∷◌, refl, map, replicate, None, Some}
use Rattle.std.proofs.Common.{lit≤, lit<, arith}
use Rattle.std.specs.List.{All, AllPass}
use Rattle.fab_base.specs.declared.values.Caught.{Caught}
use Rattle.fab_config.specs.Settings.{Settings, is_in_range}
use Rattle.fab_config.specs.declared.Zone.{Zone}
use Rattle.fab_config.specs.declared.Activation.{Activation}
use Rattle.fab_policy.specs.Ranged as ranged
use Rattle.fab_policy.specs.declared.event.Event.TheVariants.{Tick, Frame}
use Rattle.fab_policy.specs.declared.verdict.Verdict.TheVariants.{Granted, Logout, Rejected, Refused, Watching, Forwarded, Dropped}
use Rattle.fab_policy.specs.declared.verdict.Rule.TheVariants as rule
use Rattle.fab_base.specs.Counting.{counting}
use Rattle.examples.specs.Given.{K}

-- ---- a configuration

pub defaults : is_in_range K ≡ true
defaults = refl

-- the least values, and ones below them
abbrev pub least : Settings
least = record K { switch = 0; fc_map = 0x0efc00; vlan = 1; domain = 1; pool = 1; priority = 0; period = 250; window = 10; limit = 1 }

pub least_fits : is_in_range least ≡ true
least_fits = refl

pub below_least : map is_in_range (record least { fc_map = 0x0efbff } ∷ record least { vlan = 0 } ∷ record least { domain = 0 } ∷ record least { pool = 0 }
    ∷ record least { period = 249 } ∷ record least { window = 9 } ∷ record least { limit = 0 } ∷ []) ≡ replicate 7 false
below_least = refl

-- the greatest values, and ones above them
abbrev pub most : Settings
most = record K { switch = 0xffffffffffffffff; fc_map = 0x0efcff; vlan = 4094; domain = 239; pool = 60000; priority = 255; period = 90000; window = 1000; limit = 1000 }

pub most_fits : is_in_range most ≡ true
most_fits = refl

pub above_most : map is_in_range (record most { switch = 0x10000000000000000 } ∷ record most { fc_map = 0x0efd00 } ∷ record most { vlan = 4095 } ∷ record most { domain = 240 }
    ∷ record most { pool = 60001 } ∷ record most { priority = 256 } ∷ record most { period = 90001 } ∷ record most { window = 1001 } ∷ record most { limit = 1001 } ∷ []) ≡ replicate 9 false
above_most = refl

-- the forwarder's MAC is six bytes of one station
pub macs : map (λ mac. is_in_range (record K { fcf_mac = mac })) ((0 ∷ 0 ∷ 0 ∷ 0 ∷ 0 ∷ 1 ∷ []) ∷ (0xfe ∷ 0 ∷ 0 ∷ 0 ∷ 0 ∷ 0 ∷ []) ∷ (1 ∷ 0 ∷ 0 ∷ 0 ∷ 0 ∷ 1 ∷ [])
    ∷ (0 ∷ 0 ∷ 0 ∷ 0 ∷ 0 ∷ 0 ∷ []) ∷ (0 ∷ 5 ∷ 0x1e ∷ 0 ∷ 0 ∷ []) ∷ (0 ∷ 5 ∷ 0x1e ∷ 0 ∷ 0 ∷ 2 ∷ 2 ∷ []) ∷ []) ≡ true ∷ true ∷ false ∷ false ∷ false ∷ false ∷ []
macs = refl

-- ---- zones

abbrev pub with_zones : List Zone → Settings
with_zones zones = record K { zones = zones }

abbrev pub zone_of : List ℕ → List ℕ → Zone
zone_of name members = record { name = name; members = members }

-- a zone has a member or more, none twice, and no two zones have one name
pub zones : map (λ zones. is_in_range (with_zones zones)) ((zone_of (0x7a ∷ []) (1 ∷ 2 ∷ []) ∷ zone_of (0x79 ∷ []) (1 ∷ []) ∷ []) ∷ (zone_of (0x7a ∷ []) [] ∷ [])
    ∷ (zone_of (0x7a ∷ []) (1 ∷ 2 ∷ 1 ∷ []) ∷ []) ∷ (zone_of (0x7a ∷ []) (1 ∷ []) ∷ zone_of (0x7a ∷ []) (2 ∷ []) ∷ []) ∷ []) ≡ true ∷ false ∷ false ∷ false ∷ []
zones = refl

-- a letter first, and 64 signs at most
pub zone_names : map (λ name. is_in_range (with_zones (zone_of name (1 ∷ []) ∷ []))) ((0x41 ∷ 0x30 ∷ 0x24 ∷ 0x2d ∷ 0x5e ∷ 0x5f ∷ []) ∷ (0x30 ∷ []) ∷ (0x5f ∷ []) ∷ (0x61 ∷ 0x2e ∷ []) ∷ []
    ∷ replicate 64 0x61 ∷ replicate 65 0x61 ∷ []) ≡ true ∷ false ∷ false ∷ false ∷ false ∷ true ∷ false ∷ []
zone_names = refl

-- places of sets are those of zones, and moments of activations rise
abbrev pub with_sets : List ℕ → List Activation → Settings
with_sets places activations = record (with_zones (zone_of (0x7a ∷ []) (1 ∷ []) ∷ zone_of (0x79 ∷ []) (1 ∷ []) ∷ [])) { sets = record { name = 0x73 ∷ []; places = places } ∷ []; activations = activations }

abbrev pub at : ℕ → ℕ → Activation
at set moment = record { set = set; moment = moment }

pub sets : map (λ places. is_in_range (with_sets places [])) ((0 ∷ 1 ∷ []) ∷ (1 ∷ []) ∷ (0 ∷ 2 ∷ []) ∷ (1 ∷ 1 ∷ []) ∷ [] ∷ []) ≡ true ∷ true ∷ false ∷ false ∷ false ∷ []
sets = refl

pub activations : map (λ activations. is_in_range (with_sets (1 ∷ []) activations)) ((at 0 0 ∷ at 0 1 ∷ at 0 4294967295999 ∷ []) ∷ (at 1 0 ∷ []) ∷ (at 0 5 ∷ at 0 5 ∷ []) ∷ (at 0 6 ∷ at 0 5 ∷ [])
    ∷ (at 0 4294967296000 ∷ []) ∷ map (at 0) (counting 0 64) ∷ map (at 0) (counting 0 65) ∷ []) ≡ true ∷ false ∷ false ∷ false ∷ false ∷ true ∷ false ∷ []
activations = refl

-- ---- a journal

abbrev pub some_frame : Caught
some_frame = record { bytes = 0 ∷ 255 ∷ []; whole = true }

are_bytes : AllPass (λ b. nat_lt b 256) some_frame.bytes
are_bytes zero d lt = refl
are_bytes (suc zero) d lt = refl
are_bytes (suc (suc k)) d lt = absurd (omega arith)

are_addresses : All ranged.IsAddress (0 ∷ 1 ∷ 0xffffff ∷ [])
are_addresses zero d lt = lit< tt
are_addresses (suc zero) d lt = lit< tt
are_addresses (suc (suc zero)) d lt = lit< tt
are_addresses (suc (suc (suc k))) d lt = absurd (omega arith)

-- numbers at the ends of their ranges
pub greatest : ranged.IsRanged (Frame 64 0xffffffffffffffff some_frame (Granted 0xffffff) ∷ Frame 1 0 some_frame (Forwarded 64) ∷ Frame 1 0 some_frame (Watching 255)
    ∷ Frame 1 0 some_frame (Rejected 255 255) ∷ Frame 1 0 some_frame (Dropped (record { rule = rule.FipLength; number = Some 0xffffffff }))
    ∷ Frame 1 0 some_frame (Dropped (record { rule = rule.Vlan; number = None })) ∷ Tick 0xffffffffffffffff (0 ∷ 1 ∷ 0xffffff ∷ []) ∷ [])
greatest = (
  (
    (
      (
        (
          ((tt, (lit< tt, ((lit≤ tt, (lit≤ tt, (lit≤ tt, tt))), are_addresses))), (lit≤ tt, lit≤ tt, lit< tt, are_bytes, (refl, tt))),
          (lit≤ tt, lit≤ tt, lit< tt, are_bytes, (refl, lit< tt)),
        ),
        (lit≤ tt, lit≤ tt, lit< tt, are_bytes, (lit< tt, lit< tt)),
      ),
      (lit≤ tt, lit≤ tt, lit< tt, are_bytes, lit< tt),
    ),
    (lit≤ tt, lit≤ tt, lit< tt, are_bytes, (lit≤ tt, lit≤ tt)),
  ),
  (lit≤ tt, lit≤ tt, lit< tt, are_bytes, lit< tt),
)

-- and behind these
pub no_port : (h : ranged.IsRangedVerdict (Forwarded 65)) → ⊥
no_port h = omega (arith, h.1)

pub no_address : (h : ranged.IsRangedVerdict (Logout 0x1000000)) → ⊥
no_address h = omega (arith, h)

pub no_code : (h : ranged.IsRangedVerdict (Refused 9 256)) → ⊥
no_code h = omega (arith, h.1)

pub no_function : (h : ranged.IsRangedVerdict (Watching 256)) → ⊥
no_function h = omega (arith, h)

-- a rule with a number that has none, and one without a number that has one
pub no_number : (h : ranged.IsRangedVerdict (Dropped (record { rule = rule.FipLength; number = None }))) → ⊥
no_number h = cc

pub number_too_much : (h : ranged.IsRangedVerdict (Dropped (record { rule = rule.Vlan; number = Some 0 }))) → ⊥
number_too_much h = cc

-- an address that stands twice doesn't ascend
pub twice : (h : ranged.IsRangedEvent (Tick 0 (5 ∷ 5 ∷ []))) → ⊥
twice h = omega (arith, h.1.0.1.0)
