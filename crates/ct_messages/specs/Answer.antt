-- Answers of the name server in FC-CT (FC-GS-6, "Name Server").
use Rattle.std.specs.Prelude.{ℕ, ◌+◌, ◌*◌, ◌/◌, ◌%◌, ◌^◌, Bool, ◌==◌, List, [], ◌∷◌, ◌++◌, length, slice_index}
use Rattle.std.specs.List.{list_all}
use Rattle.fab_base.specs.Layout.{spelled, zeros, padded}
use Rattle.ct_messages.specs.Ct.{preamble, address_word, word_bytes}
use Rattle.ct_messages.specs.declared.TypeMap.{TypeMap}
use Rattle.ct_messages.specs.declared.FeatureMap.{FeatureMap}
use Rattle.ct_messages.specs.declared.Named.{Named}
use Rattle.ct_messages.specs.declared.NextPort.{NextPort}
use Rattle.ct_messages.specs.declared.CtTell.{CtTell}
use Rattle.ct_messages.specs.declared.CtTell.TheVariants.{Done, Port, Name, Types, Features, Addresses, Names, Next, Reject}

-- ---- maps

-- a type is in a map: bit t mod 32 of word t / 32
abbrev pub has_type : TypeMap → ℕ → Bool
has_type types t = slice_index types.0 (t / 32) / 2 ^ (t % 32) % 2 == 1

-- no type is in it
abbrev pub has_no_type : TypeMap → Bool
has_no_type types = list_all (λ word. word == 0) types.0

-- the feature of a type: the four bits from bit 4 * (t mod 8) on of word t / 8
abbrev pub feature_of : FeatureMap → ℕ → ℕ
feature_of features t = slice_index features.0 (t / 8) / 2 ^ (4 * (t % 8)) % 16

-- ---- bytes

-- the control byte of an entry before these others: 80 on the last
abbrev pub control : {X : Type 0} → List X → ℕ
control [] = 0x80
control (_ ∷ _) = 0

-- the entries of a list, each with its control byte
abbrev pub entries_bytes : {X : Type 0} → (ℕ → X → List ℕ) → List X → List ℕ
entries_bytes entry [] = []
entries_bytes entry (x ∷ more) = entry (control more) x ++ entries_bytes entry more

-- an entry without a name: control and address
abbrev pub address_entry : ℕ → ℕ → List ℕ
address_entry mark address = mark ∷ spelled 3 address

-- an entry with a name: control, address, four reserved bytes, name
abbrev pub named_entry : ℕ → Named → List ℕ
named_entry mark n = mark ∷ spelled 3 n.address ++ zeros 4 ++ spelled 8 n.name

abbrev pub addresses_bytes : List ℕ → List ℕ
addresses_bytes list = entries_bytes address_entry list

abbrev pub named_bytes : List Named → List ℕ
named_bytes list = entries_bytes named_entry list

-- a symbol with its length, in 256 bytes
abbrev pub symbol_bytes : List ℕ → List ℕ
symbol_bytes text = padded 256 (length text ∷ text)

-- The first 532 of the 620 bytes of the next port: port type 01, address 3, port name 8, symbolic port name 256, node name 8,
-- symbolic node name 256.
abbrev pub port_bytes : NextPort → List ℕ
port_bytes p =
    1 ∷ spelled 3 p.address ++ spelled 8 p.port_name ++ symbol_bytes p.symbol ++ spelled 8 p.node_name ++ symbol_bytes p.node_symbol

-- The other 88: process associator 8, node IP 16, class 4, types 32, port IP 16, fabric port name 8, reserved 1, hard address 3.
abbrev pub service_bytes : NextPort → List ℕ
service_bytes p = zeros 24 ++ spelled 4 8 ++ word_bytes p.types.0 ++ zeros 16 ++ spelled 8 p.fabric_port ++ zeros 4

abbrev pub next_bytes : NextPort → List ℕ
next_bytes p = port_bytes p ++ service_bytes p

abbrev pub ACCEPT : ℕ
ACCEPT = 0x8002

abbrev pub REJECT : ℕ
REJECT = 0x8001

-- an accept, or a reject with its reason and explanation
abbrev pub head_bytes : CtTell → List ℕ
head_bytes (Reject reason explanation) = preamble REJECT reason explanation
head_bytes _ = preamble ACCEPT 0 0

-- the bytes after the preamble
abbrev pub answer_bytes : CtTell → List ℕ
answer_bytes Done = []
answer_bytes (Port address) = address_word address
answer_bytes (Name name) = spelled 8 name
answer_bytes (Types types) = word_bytes types.0
answer_bytes (Features features) = word_bytes features.0
answer_bytes (Addresses list) = addresses_bytes list
answer_bytes (Names list) = named_bytes list
answer_bytes (Next port) = next_bytes port
answer_bytes (Reject _ _) = []

-- reserved and free bytes are 0
unfoldable pub written : CtTell → List ℕ
written tell = head_bytes tell ++ answer_bytes tell

-- how many bytes that is
abbrev pub size_of : CtTell → ℕ
size_of Done = 16
size_of (Port address) = 20
size_of (Name name) = 24
size_of (Types types) = 48
size_of (Features features) = 144
size_of (Addresses list) = 16 + 4 * length list
size_of (Names list) = 16 + 16 * length list
size_of (Next port) = 636
size_of (Reject reason explanation) = 16
