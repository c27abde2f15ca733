-- The table of commands of the name server (FC-GS-6, "Name Server"), one row each.
use Rattle.std.specs.Prelude.{ℕ, zero, suc, ◌+◌, ◌%◌, List, [], ◌∷◌, Option}
use Rattle.fab_base.specs.Keyed.{item_at}
use Rattle.fab_base.specs.Layout.{field, byte, number}
use Rattle.ct_messages.specs.declared.command.Command.{Command}
use Rattle.ct_messages.specs.declared.command.Command.TheVariants.{GaNxt, GpnId, GnnId, GftId, GffId, GidPn, GidFt, GpnFt, GnnFt, GidPt, RnnId, RftId, RspnId, RffId, RsnnNn, DaId}
use Rattle.ct_messages.specs.Ask.{Ask, NextOf, PortNameOf, NodeNameOf, TypesOf, FeaturesOf, ByPortName, AddressesOfType, PortNamesOfType, NodeNamesOfType, AddressesOfPortType, SetNode, SetTypes, SetSymbol, SetFeature, SetNodeSymbol, Erase}

-- the address behind the preamble: an address word is a reserved byte and an address
abbrev pub address_of : List ℕ → ℕ
address_of l = number l 17 3

-- so many 32-bit words from that place on
abbrev pub words_at : ℕ → ℕ → List ℕ → List ℕ
words_at zero at l = []
words_at (suc count) at l = number l at 4 ∷ words_at count (at + 4) l

-- a length in one byte, and that many bytes
abbrev pub text_at : ℕ → List ℕ → List ℕ
text_at at l = field l (at + 1) (byte l at)

-- A row: the code, how many bytes a request has after the preamble of 16, and what it asks. More bytes are free.
pub record Row : Type 0 where
  pub code : ℕ
  pub needs : List ℕ → ℕ
  pub asks : List ℕ → Ask

abbrev pub row_of : Command → Row
-- GA_NXT: address word
row_of GaNxt = record { code = 0x0100; needs = λ l. 4; asks = λ l. NextOf (address_of l) }
-- GPN_ID: address word
row_of GpnId = record { code = 0x0112; needs = λ l. 4; asks = λ l. PortNameOf (address_of l) }
-- GNN_ID: address word
row_of GnnId = record { code = 0x0113; needs = λ l. 4; asks = λ l. NodeNameOf (address_of l) }
-- GFT_ID: address word
row_of GftId = record { code = 0x0117; needs = λ l. 4; asks = λ l. TypesOf (address_of l) }
-- GFF_ID: address word
row_of GffId = record { code = 0x011f; needs = λ l. 4; asks = λ l. FeaturesOf (address_of l) }
-- GID_PN: port name 8
row_of GidPn = record { code = 0x0121; needs = λ l. 8; asks = λ l. ByPortName (number l 16 8) }
-- GID_FT: reserved, domain, area, type
row_of GidFt = record { code = 0x0171; needs = λ l. 4; asks = λ l. AddressesOfType (byte l 19) }
-- GPN_FT: reserved, domain, area, type
row_of GpnFt = record { code = 0x0172; needs = λ l. 4; asks = λ l. PortNamesOfType (byte l 19) }
-- GNN_FT: reserved, domain, area, type
row_of GnnFt = record { code = 0x0173; needs = λ l. 4; asks = λ l. NodeNamesOfType (byte l 19) }
-- GID_PT: port type, domain, area, reserved
row_of GidPt = record { code = 0x01a1; needs = λ l. 4; asks = λ l. AddressesOfPortType (byte l 16) }
-- RNN_ID: address word, node name 8
row_of RnnId = record { code = 0x0213; needs = λ l. 12; asks = λ l. SetNode (address_of l) (number l 20 8) }
-- RFT_ID: address word, type map 32
row_of RftId = record { code = 0x0217; needs = λ l. 36; asks = λ l. SetTypes (address_of l) (record { 0 = words_at 8 20 l }) }
-- RSPN_ID: address word, length 1, symbolic port name
row_of RspnId = record { code = 0x0218; needs = λ l. 5 + byte l 20; asks = λ l. SetSymbol (address_of l) (text_at 20 l) }
-- RFF_ID: address word, reserved 2, feature 1 (its low four bits), type 1
row_of RffId = record { code = 0x021f; needs = λ l. 8; asks = λ l. SetFeature (address_of l) (byte l 22 % 16) (byte l 23) }
-- RSNN_NN: node name 8, length 1, symbolic node name
row_of RsnnNn = record { code = 0x0239; needs = λ l. 9 + byte l 24; asks = λ l. SetNodeSymbol (number l 16 8) (text_at 24 l) }
-- DA_ID: address word
row_of DaId = record { code = 0x0300; needs = λ l. 4; asks = λ l. Erase (address_of l) }

-- the rows in their order
abbrev pub commands : List Command
commands = GaNxt ∷ GpnId ∷ GnnId ∷ GftId ∷ GffId ∷ GidPn ∷ GidFt ∷ GpnFt ∷ GnnFt ∷ GidPt ∷ RnnId ∷ RftId ∷ RspnId ∷ RffId ∷ RsnnNn ∷ DaId ∷ []

-- the command of a code
unfoldable pub command_with : ℕ → Option Command
command_with code = item_at (λ c. (row_of c).code) code commands
