-- Payloads and frames at the edges of their layouts, and numbers that are counted round.
use Rattle.std.specs.Prelude.{◌≡◌, ℕ, ◌+◌, ◌*◌, true, false, List, [], ◌∷◌, ◌++◌, refl, None, Some, Result, Ok, Err, map, length, replicate, codes}
use Rattle.fab_base.specs.Layout.{field, zeros, spelled}
use Rattle.fab_config.specs.Text as config
use Rattle.fab_config.specs.declared.Zone.{Zone}
use Rattle.fab_config.specs.declared.ZoneSet.{ZoneSet}
use Rattle.fab_config.specs.declared.Activation.{Activation}
use Rattle.fab_config.specs.declared.ConfigWhy.{ConfigWhy}
use Rattle.fab_config.specs.declared.ConfigWhy.TheVariants.{Limit}
use Rattle.fc_check.specs.Crc as crc
use Rattle.fc_frames.specs.Frame as fc
use Rattle.fc_frames.specs.declared.FcFault.TheVariants as fault
use Rattle.fcoe_codec.specs.Fcoe as capsule
use Rattle.els_messages.specs.Els as els
use Rattle.els_messages.specs.declared.ElsFault.TheVariants.{Short, Page}
use Rattle.ct_messages.specs.Answer as answer
use Rattle.ct_messages.specs.declared.CtTell.TheVariants.{Next}
use Rattle.fip_codec.specs.Message.{Advertise, Clear, VlanTell, Solicit}
use Rattle.fip_codec.specs.Reading as reading
use Rattle.zone_rules.specs.Joined as zones
use Rattle.fab_base.specs.Counting.{counting}
use Rattle.fab_policy.specs.State as state
use Rattle.ct_messages.specs.Server as server
use Rattle.fab_policy.specs.Queries as queries
use Rattle.fab_policy.specs.Outputs as outs
use Rattle.fab_policy.specs.Legal as legal
use Rattle.examples.specs.Given.{K, MAC_A, NAME_A, NAME_B, FORWARDER}

-- ---- FC frames

-- every field of a header has its place
pub header : fc.decoded (0x22 ∷ 1 ∷ 2 ∷ 3 ∷ 4 ∷ 5 ∷ 6 ∷ 7 ∷ 8 ∷ 9 ∷ 10 ∷ 11 ∷ 12 ∷ 13 ∷ 14 ∷ 15 ∷ 16 ∷ 17 ∷ 18 ∷ 19 ∷ 20 ∷ 21 ∷ 22 ∷ 23 ∷ []) ≡ Ok (record {
  head = record { r_ctl = 0x22; d_id = 0x010203; cs_ctl = 4; s_id = 0x050607; kind = 8; f_ctl = 0x090a0b; seq_id = 12; df_ctl = 13; seq_cnt = 0x0e0f; ox_id = 0x1011; rx_id = 0x1213; parameter = 0x14151617 };
  payload = [];
})
unfolding fc.decoded
header = refl

-- too short stands before not a multiple of 4, and that before too long
pub frame_short : fc.decoded (zeros 23) ≡ Err fault.Short
unfolding fc.decoded
frame_short = refl

pub frame_odd : fc.decoded (zeros (24 + 2114)) ≡ Err fault.Odd
unfolding fc.decoded
frame_odd = refl

pub frame_long : fc.decoded (zeros (24 + 2116)) ≡ Err fault.Long
unfolding fc.decoded
frame_long = refl

-- ---- link services

pub logo_short : els.decoded (5 ∷ zeros 14) ≡ Err Short
unfolding els.decoded
logo_short = refl

pub logo : els.decoded (5 ∷ 0 ∷ 0 ∷ 0 ∷ 0xff ∷ 1 ∷ 2 ∷ 3 ∷ spelled 8 NAME_A ++ 9 ∷ []) ≡ Ok (els.Logo 0x010203 NAME_A)
unfolding els.decoded
logo = refl

pub scr_short : els.decoded (0x62 ∷ zeros 6) ≡ Err Short
unfolding els.decoded
scr_short = refl

pub reject : els.decoded (1 ∷ 0 ∷ 0 ∷ 0 ∷ 4 ∷ 5 ∷ 6 ∷ 7 ∷ []) ≡ Ok (els.Reject 5 6)
unfolding els.decoded
reject = refl

-- pages are at least one, and all of them there
pub no_page : els.decoded (0x61 ∷ 4 ∷ 0 ∷ 4 ∷ zeros 4) ≡ Err Page
unfolding els.decoded
no_page = refl

pub missing_page : els.decoded (0x61 ∷ 4 ∷ 0 ∷ 12 ∷ zeros 4) ≡ Err Page
unfolding els.decoded
missing_page = refl

-- pages of four bytes each
pub odd_pages : els.decoded (0x61 ∷ 4 ∷ 0 ∷ 10 ∷ zeros 8) ≡ Err Page
unfolding els.decoded
odd_pages = refl

pub other_page_length : els.decoded (0x61 ∷ 8 ∷ 0 ∷ 12 ∷ zeros 8) ≡ Err Page
unfolding els.decoded
other_page_length = refl

pub two_pages : els.decoded (0x61 ∷ 4 ∷ 0 ∷ 12 ∷ 0 ∷ 1 ∷ 1 ∷ 0 ∷ 0 ∷ 1 ∷ 1 ∷ 1 ∷ 7 ∷ 7 ∷ []) ≡ Ok (els.Rscn (0 ∷ 1 ∷ 1 ∷ 0 ∷ 0 ∷ 1 ∷ 1 ∷ 1 ∷ []))
unfolding els.decoded
two_pages = refl

-- an accept of less than a login's bytes is none of a login
pub accept : els.decoded (2 ∷ zeros 114) ≡ Ok els.Accept
unfolding els.decoded
accept = refl

pub login_accept : els.decoded (2 ∷ zeros 115) ≡ Ok (els.LoginAccept (els.parms_of (2 ∷ zeros 115)))
unfolding els.decoded
login_accept = refl

-- the size in a login's payload has twelve bits; for a service it is at most 2112 and a multiple of 4
abbrev pub of_size : ℕ → ℕ
of_size size = els.receive_size (els.parms_of (3 ∷ zeros 9 ++ spelled 2 size ++ zeros 104))

pub sizes : map of_size (0x0840 ∷ 0x0841 ∷ 0x0844 ∷ 0x0fff ∷ 0x8101 ∷ 0x0103 ∷ 0x0104 ∷ []) ≡ 2112 ∷ 2112 ∷ 2112 ∷ 2112 ∷ 256 ∷ 256 ∷ 260 ∷ []
sizes = refl

-- ---- the name server

-- a symbol of 255 bytes fills its place: 16 bytes and 620
abbrev pub next_of : List ℕ → List ℕ
next_of symbol = answer.written (Next (record { address = 0x010101; port_name = NAME_B; symbol = symbol; node_name = 7; node_symbol = []; types = record { 0 = replicate 8 0 }; fabric_port = 9 }))

pub full : map length (next_of [] ∷ next_of (replicate 255 0x61) ∷ []) ≡ 636 ∷ 636 ∷ []
unfolding answer.written
full = refl

pub full_symbol : field (next_of (replicate 255 0x61)) 28 2 ++ field (next_of (replicate 255 0x61)) 282 10 ≡ 255 ∷ 0x61 ∷ 0x61 ∷ 0x61 ∷ 0 ∷ 0 ∷ 0 ∷ 0 ∷ 0 ∷ 0 ∷ 0 ∷ 7 ∷ []
unfolding answer.written
full_symbol = refl

-- type 33 is bit 1 of word 1, and type 255 the top bit of word 7
pub types : map (answer.has_type (record { 0 = 0 ∷ 2 ∷ 0 ∷ 0 ∷ 0 ∷ 0 ∷ 0 ∷ 0x80000000 ∷ [] })) (1 ∷ 32 ∷ 33 ∷ 34 ∷ 254 ∷ 255 ∷ []) ≡ false ∷ false ∷ true ∷ false ∷ false ∷ true ∷ []
types = refl

-- the feature 5 of type 9 is 5 in the second half byte of word 1
pub features : server.feature_words (zeros 9 ++ 5 ∷ zeros 246) ≡ record { 0 = 0 ∷ 0x50 ∷ zeros 30 }
unfolding server.feature_word server.feature_words
features = refl

-- a port name of the forwarder
pub port_name : queries.fport K 64 ≡ 0x204000051e000002
port_name = refl

-- ---- FIP

pub vlans : reading.decoded (0x10 ∷ 0 ∷ 0 ∷ 4 ∷ 0 ∷ 2 ∷ 0 ∷ 4 ∷ 0 ∷ 0 ∷ 14 ∷ 1 ∷ 0x30 ∷ 0x64 ∷ 2 ∷ 2 ∷ MAC_A ++ 14 ∷ 1 ∷ 0xf0 ∷ 1 ∷ []) ≡ Ok (VlanTell MAC_A (100 ∷ 1 ∷ []))
unfolding reading.decoded
vlans = refl

pub clear : reading.decoded (0x10 ∷ 0 ∷ 0 ∷ 3 ∷ 0 ∷ 2 ∷ 0 ∷ 10 ∷ 0 ∷ 0 ∷ 2 ∷ 2 ∷ FORWARDER ++ 4 ∷ 3 ∷ 9 ∷ 9 ∷ spelled 8 0x1234 ++ 11 ∷ 5 ∷ MAC_A ++ 9 ∷ 1 ∷ 2 ∷ 3 ∷ spelled 8 NAME_A) ≡
    Ok (Clear FORWARDER 0x1234 (record { mac = MAC_A; address = 0x010203; name = NAME_A } ∷ []))
unfolding reading.decoded
clear = refl

pub advertisement : reading.decoded (0x10 ∷ 0 ∷ 0 ∷ 1 ∷ 0 ∷ 2 ∷ 0 ∷ 12 ∷ 0x80 ∷ 4 ∷ 12 ∷ 2 ∷ 9 ∷ 1 ∷ 0 ∷ 0 ∷ 1 ∷ 0xf4 ∷ 5 ∷ 4 ∷ 9 ∷ 9 ∷ 9 ∷ 0x0e ∷ 0xfc ∷ 1 ∷ spelled 8 0x5678 ++
    4 ∷ 3 ∷ 9 ∷ 9 ∷ spelled 8 0x1234 ++ 2 ∷ 2 ∷ FORWARDER ++ 1 ∷ 1 ∷ 9 ∷ 0x7f ∷ []) ≡ Ok (Advertise false true false true 0x7f FORWARDER 0x1234 0x0efc01 0x5678 true 500)
unfolding reading.decoded
advertisement = refl

pub solicitation : reading.decoded (0x10 ∷ 0 ∷ 0 ∷ 1 ∷ 0 ∷ 1 ∷ 0 ∷ 6 ∷ 0x80 ∷ 2 ∷ 6 ∷ 1 ∷ 8 ∷ 0x6e ∷ 4 ∷ 3 ∷ 9 ∷ 9 ∷ spelled 8 0x1234 ++ 2 ∷ 2 ∷ MAC_A) ≡ Ok (Solicit false true MAC_A 0x1234 2158)
unfolding reading.decoded
solicitation = refl

-- ---- zones

pub not_itself : zones.joined (record { name = codes "z"; members = NAME_A ∷ NAME_B ∷ [] } ∷ []) [] [] 0 NAME_A NAME_A ≡ false
unfolding zones.joined
not_itself = refl

pub changes : map (zones.next_change (record { set = 0; moment = 5 } ∷ record { set = 1; moment = 9 } ∷ [])) (4 ∷ 5 ∷ 8 ∷ 9 ∷ []) ≡ Some 5 ∷ Some 9 ∷ Some 9 ∷ None ∷ []
changes = refl

-- an activation counts from above the clock up to the moment itself
pub activations : map (legal.has_activation (record { set = 0; moment = 5000 } ∷ []) 4900) (4999 ∷ 5000 ∷ 5100 ∷ []) ++ map (λ after. legal.has_activation (record { set = 0; moment = 5000 } ∷ []) after 6000) (4999 ∷ 5000 ∷ []) ≡
    false ∷ true ∷ true ∷ true ∷ false ∷ []
activations = refl

-- ---- limits of a configuration

pub longest : config.MOST_TEXT ≡ 1024 * 1024
longest = refl

abbrev pub count_of : {X : Type 0} → Result (List X) ConfigWhy → ℕ
count_of (Ok l) = length l
count_of (Err why) = 0

abbrev pub some_zones : ℕ → ℕ → List Zone
some_zones count members = replicate count (record { name = codes "z"; members = counting 1 members })

abbrev pub one_name : List ℕ
one_name = codes "20:00:00:1b:21:00:00:0a"

pub zone_too_many : config.zones_with (some_zones 1000 1) (codes "y" ∷ one_name ∷ []) ≡ Err Limit
unfolding config.zones_with
zone_too_many = refl

pub last_zone : count_of (config.zones_with (some_zones 999 1) (codes "y" ∷ one_name ∷ [])) ≡ 1000
unfolding config.zones_with
last_zone = refl

pub member_too_many : config.zones_with (some_zones 10 2000) (codes "y" ∷ one_name ∷ one_name ∷ []) ≡ Err Limit
unfolding config.zones_with
member_too_many = refl

pub last_member : count_of (config.zones_with (some_zones 9 2222) (codes "y" ∷ one_name ∷ one_name ∷ codes "20:00:00:1b:21:00:00:0b" ∷ [])) ≡ 10
unfolding config.zones_with
last_member = refl

abbrev pub some_sets : ℕ → ℕ → List ZoneSet
some_sets count places = replicate count (record { name = codes "s"; places = zeros places })

pub set_too_many : config.sets_with (some_zones 1 1) (some_sets 64 1) (codes "t" ∷ codes "z" ∷ []) ≡ Err Limit
unfolding config.sets_with
set_too_many = refl

pub last_set : count_of (config.sets_with (some_zones 1 1) (some_sets 63 1) (codes "t" ∷ codes "z" ∷ codes "z" ∷ [])) ≡ 64
unfolding config.sets_with
last_set = refl

pub named_too_many : config.sets_with (some_zones 1 1) (some_sets 40 100) (codes "t" ∷ codes "z" ∷ []) ≡ Err Limit
unfolding config.sets_with
named_too_many = refl

abbrev pub some_activations : ℕ → List Activation
some_activations count = map (λ m. record { set = 0; moment = m }) (counting 0 count)

pub activation_too_many : config.activations_with (some_sets 1 1) (some_activations 64) (codes "s" ∷ codes "64" ∷ []) ≡ Err Limit
unfolding config.activations_with
activation_too_many = refl

pub last_activation : count_of (config.activations_with (some_sets 1 1) (some_activations 63) (codes "s" ∷ codes "63" ∷ [])) ≡ 64
unfolding config.activations_with
last_activation = refl

-- ---- counting

-- OX_IDs begin again after 65534
abbrev pub watcher : state.LivePort
watcher = record { address = 0x010101; name = NAME_B; node = 1; enode = record { port = 2; mac = MAC_A }; server = None; node_heard = 0; port_heard = 0; watch = 3; values = record { node_name = 1; types = record { 0 = zeros 8 }; features = zeros 256; symbol = []; node_symbol = [] } }

pub round : map {B = List ℕ} (λ x. field x.1 48 2) (outs.rscn_frames K 65533 (replicate 3 (outs.told watcher 0x010100))) ≡ (0xff ∷ 0xfd ∷ []) ∷ (0xff ∷ 0xfe ∷ []) ∷ (0 ∷ 0 ∷ []) ∷ []
unfolding capsule.written crc.crc crc.remainder els.written
round = refl

-- one clear link message for each hundred addresses
pub groups : map (λ l. length l) (outs.hundreds 201 (counting 0 201)) ++ map (λ l. length l) (outs.hundreds 100 (counting 0 100)) ≡ 100 ∷ 100 ∷ 1 ∷ 100 ∷ []
groups = refl
