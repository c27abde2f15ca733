-- The lines that tell of a live N_Port.
use Rattle.std.specs.Prelude.{ℕ, List, [], ◌∷◌, ◌++◌, flat_map, if◌then◌else◌, codes, decimal}
use Rattle.ct_messages.specs.Answer.{has_no_type}
use Rattle.ct_messages.specs.declared.TypeMap.{TypeMap}
use Rattle.fab_base.specs.declared.values.Enode.{Enode}
use Rattle.fab_base.specs.Texts.{hex, hex_bytes}
use Rattle.fab_replay.specs.declared.rows.Row.{Row}

-- a word after a space
abbrev pub after_space : List ℕ → List ℕ
after_space w = 32 ∷ w

-- hexadecimal digits of an address, a worldwide name, a MAC, and a word of a map
unfoldable pub address_digits : ℕ → List ℕ
address_digits a = hex 6 a

unfoldable pub name_digits : ℕ → List ℕ
name_digits n = hex 16 n

unfoldable pub mac_digits : List ℕ → List ℕ
mac_digits mac = hex_bytes mac

unfoldable pub word_digits : ℕ → List ℕ
word_digits w = hex 8 w

-- those of a map, in the order of its words (FC-GS-6, "FC-4 TYPEs object")
abbrev pub map_digits : TypeMap → List ℕ
map_digits types = flat_map word_digits types.0

-- `010100 2000001b2100000a 1000001b2100000a`: the address, the port name and the registered node name
abbrev pub name_words : Row → List ℕ
name_words r = after_space (address_digits r.address) ++ after_space (name_digits r.name) ++ after_space (name_digits r.node_name)

-- `1 001b2100000a`: the port and the MAC of the ENode
abbrev pub enode_words : Enode → List ℕ
enode_words e = after_space (decimal e.port) ++ after_space (mac_digits e.mac)

-- `1000 1000 0 0`: when the ENode and the address were last heard, the receive size at the name server, and the function of
-- the state changes that were asked for
abbrev pub number_words : Row → List ℕ
number_words r = after_space (decimal r.node_heard) ++ after_space (decimal r.port_heard) ++ after_space (decimal r.size) ++ after_space (decimal r.watch)

-- the line of a login, as `login 010100 2000001b2100000a 1000001b2100000a 1 001b2100000a 1000 1000 0 0`
abbrev pub login_line : Row → List ℕ
login_line r = codes "login" ++ name_words r ++ enode_words r.enode ++ number_words r ++ codes "\n"

-- the line of the registered FC-4 types; none where there are none
abbrev pub types_line : Row → List ℕ
types_line r = if has_no_type r.types then [] else codes "types" ++ after_space (address_digits r.address) ++ after_space (map_digits r.types) ++ codes "\n"

abbrev pub row_lines : Row → List ℕ
row_lines r = login_line r ++ types_line r
