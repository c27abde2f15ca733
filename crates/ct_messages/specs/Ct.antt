-- Requests to the name server in FC-CT (FC-GS-6, "Common Transport" and "Name Server"): how they are read, where
-- their fields stand, and how they are written.
use Rattle.std.specs.Prelude.{◌≡◌, ℕ, ◌+◌, ◌-◌, ◌%◌, ◌≤◌, Bool, ◌==◌, nat_lt, ◌&&◌, not, if◌then◌else◌, List, [], ◌∷◌, ◌++◌, length, flat_map, Option, Some, None, Result, Ok, Err}
use Rattle.fab_base.specs.Layout.{field, byte, number, spelled, zeros}
use Rattle.ct_messages.specs.declared.command.Command.{Command}
use Rattle.ct_messages.specs.declared.command.Command.TheVariants.{GaNxt, GpnId, GnnId, GftId, GffId, GidPn, GidFt, GpnFt, GnnFt, GidPt, RnnId, RftId, RspnId, RffId, RsnnNn, DaId}
use Rattle.ct_messages.specs.declared.CtFault.{CtFault}
use Rattle.ct_messages.specs.declared.CtFault.TheVariants.{Short, NotNameServer, Size}
pub use Rattle.ct_messages.specs.Ask.{Ask, NextOf, PortNameOf, NodeNameOf, TypesOf, FeaturesOf, ByPortName, AddressesOfType, PortNamesOfType, NodeNamesOfType, AddressesOfPortType, SetNode, SetTypes, SetSymbol, SetFeature, SetNodeSymbol, Erase, Unknown, view}
pub use Rattle.ct_messages.specs.Table.{words_at}
use Rattle.ct_messages.specs.Table.{address_of, row_of, command_with}

-- ---- the preamble of 16 bytes

abbrev pub PREAMBLE : ℕ
PREAMBLE = 16

-- type FC is a directory service, and subtype 02 the name server
abbrev pub is_for_name_server : List ℕ → Bool
is_for_name_server l = byte l 4 == 0xfc && byte l 5 == 2

abbrev pub command_of : List ℕ → ℕ
command_of l = number l 8 2

-- revision 1, IN_ID 3, type, subtype, options 1, reserved 1, command 2, size 2, one free byte, reason, explanation, vendor 1
abbrev pub preamble : ℕ → ℕ → ℕ → List ℕ
preamble command reason explanation = 1 ∷ zeros 3 ++ 0xfc ∷ 2 ∷ zeros 2 ++ spelled 2 command ++ zeros 3 ++ reason ∷ explanation ∷ 0 ∷ []

-- ---- reading

-- how many bytes a request has after the preamble, by its row
abbrev pub needs : Option Command → List ℕ → ℕ
needs None l = 0
needs (Some command) l = (row_of command).needs l

-- what it asks, by its row
abbrev pub asks : Option Command → List ℕ → Ask
asks None l = Unknown (command_of l)
asks (Some command) l = (row_of command).asks l

-- the sentences of the tests, in their order
abbrev pub is_short : List ℕ → Bool
is_short l = nat_lt (length l) PREAMBLE

abbrev pub is_for_others : List ℕ → Bool
is_for_others l = not (is_for_name_server l)

abbrev pub is_cut : List ℕ → Bool
is_cut l = nat_lt (length l) (PREAMBLE + needs (command_with (command_of l)) l)

-- the fault of the first sentence that holds, and else the request
unfoldable pub decoded : List ℕ → Result Ask CtFault
unfolding command_with
decoded l =
    if is_short l then Err Short
    else if is_for_others l then Err NotNameServer
    else if is_cut l then Err Size
    else Ok (asks (command_with (command_of l)) l)

-- ---- where a request stands

-- the code of a request
abbrev pub code_of : Ask → ℕ
code_of (NextOf _) = (row_of GaNxt).code
code_of (PortNameOf _) = (row_of GpnId).code
code_of (NodeNameOf _) = (row_of GnnId).code
code_of (TypesOf _) = (row_of GftId).code
code_of (FeaturesOf _) = (row_of GffId).code
code_of (ByPortName _) = (row_of GidPn).code
code_of (AddressesOfType _) = (row_of GidFt).code
code_of (PortNamesOfType _) = (row_of GpnFt).code
code_of (NodeNamesOfType _) = (row_of GnnFt).code
code_of (AddressesOfPortType _) = (row_of GidPt).code
code_of (SetNode _ _) = (row_of RnnId).code
code_of (SetTypes _ _) = (row_of RftId).code
code_of (SetSymbol _ _) = (row_of RspnId).code
code_of (SetFeature _ _ _) = (row_of RffId).code
code_of (SetNodeSymbol _ _) = (row_of RsnnNn).code
code_of (Erase _) = (row_of DaId).code
code_of (Unknown command) = command

-- the fields after the preamble are there and say so; a code without a row has none
abbrev pub Stands : Ask → List ℕ → Type 0
Stands (NextOf address) l = (20 ≤ length l) × (address_of l ≡ address)
Stands (PortNameOf address) l = (20 ≤ length l) × (address_of l ≡ address)
Stands (NodeNameOf address) l = (20 ≤ length l) × (address_of l ≡ address)
Stands (TypesOf address) l = (20 ≤ length l) × (address_of l ≡ address)
Stands (FeaturesOf address) l = (20 ≤ length l) × (address_of l ≡ address)
Stands (ByPortName name) l = (24 ≤ length l) × (number l 16 8 ≡ name)
Stands (AddressesOfType kind) l = (20 ≤ length l) × (byte l 19 ≡ kind)
Stands (PortNamesOfType kind) l = (20 ≤ length l) × (byte l 19 ≡ kind)
Stands (NodeNamesOfType kind) l = (20 ≤ length l) × (byte l 19 ≡ kind)
Stands (AddressesOfPortType kind) l = (20 ≤ length l) × (byte l 16 ≡ kind)
Stands (SetNode address name) l = (28 ≤ length l) × (address_of l ≡ address) × (number l 20 8 ≡ name)
Stands (SetTypes address types) l = (52 ≤ length l) × (address_of l ≡ address) × (words_at 8 20 l ≡ types.0)
Stands (SetSymbol address symbol) l = (21 + length symbol ≤ length l) × (address_of l ≡ address) × (byte l 20 ≡ length symbol) × (field l 21 (length symbol) ≡ symbol)
Stands (SetFeature address feature kind) l = (24 ≤ length l) × (address_of l ≡ address) × (byte l 22 % 16 ≡ feature) × (byte l 23 ≡ kind)
Stands (SetNodeSymbol name symbol) l = (25 + length symbol ≤ length l) × (number l 16 8 ≡ name) × (byte l 24 ≡ length symbol) × (field l 25 (length symbol) ≡ symbol)
Stands (Erase address) l = (20 ≤ length l) × (address_of l ≡ address)
Stands (Unknown command) l = command_with command ≡ None

-- A request stands so in bytes; more bytes than it needs are free, and of the preamble only these fields count.
pub record IsCt (ask : Ask) (l : List ℕ) : Type 0 where
  pub long : PREAMBLE ≤ length l
  pub directory : byte l 4 ≡ 0xfc
  pub name_server : byte l 5 ≡ 2
  pub command : command_of l ≡ code_of ask
  pub fields : Stands ask l

-- ---- what is written

abbrev pub address_word : ℕ → List ℕ
address_word address = 0 ∷ spelled 3 address

abbrev pub word_bytes : List ℕ → List ℕ
word_bytes words = flat_map (spelled 4) words

-- the bytes of a text, its length before them
abbrev pub counted : List ℕ → List ℕ
counted text = length text ∷ text

-- zeros up to a multiple of 4
abbrev pub filled : List ℕ → List ℕ
filled l = l ++ zeros ((4 - length l % 4) % 4)

-- the bytes after the preamble
abbrev pub body_bytes : Ask → List ℕ
body_bytes (NextOf address) = address_word address
body_bytes (PortNameOf address) = address_word address
body_bytes (NodeNameOf address) = address_word address
body_bytes (TypesOf address) = address_word address
body_bytes (FeaturesOf address) = address_word address
body_bytes (ByPortName name) = spelled 8 name
body_bytes (AddressesOfType kind) = zeros 3 ++ kind ∷ []
body_bytes (PortNamesOfType kind) = zeros 3 ++ kind ∷ []
body_bytes (NodeNamesOfType kind) = zeros 3 ++ kind ∷ []
body_bytes (AddressesOfPortType kind) = kind ∷ zeros 3
body_bytes (SetNode address name) = address_word address ++ spelled 8 name
body_bytes (SetTypes address types) = address_word address ++ word_bytes types.0
body_bytes (SetSymbol address symbol) = address_word address ++ counted symbol
body_bytes (SetFeature address feature kind) = address_word address ++ zeros 2 ++ feature ∷ kind ∷ []
body_bytes (SetNodeSymbol name symbol) = spelled 8 name ++ counted symbol
body_bytes (Erase address) = address_word address
body_bytes (Unknown _) = []

-- reserved and free bytes are 0
unfoldable pub written : Ask → List ℕ
written ask = preamble (code_of ask) 0 0 ++ filled (body_bytes ask)
