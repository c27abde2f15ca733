-- Which requests and answers may be written, and what the types of the code keep of a request by themselves.
use Rattle.std.specs.Prelude.{◌≡◌, ℕ, ◌^◌, ◌<◌, ◌≤◌, List, length}
use Rattle.std.specs.List.{All}
use Rattle.ct_messages.specs.Ask.{Ask, NextOf, PortNameOf, NodeNameOf, TypesOf, FeaturesOf, ByPortName, AddressesOfType, PortNamesOfType, NodeNamesOfType, AddressesOfPortType, SetNode, SetTypes, SetSymbol, SetFeature, SetNodeSymbol, Erase, Unknown}
use Rattle.ct_messages.specs.declared.CtTell.{CtTell}
use Rattle.ct_messages.specs.declared.CtTell.TheVariants.{Addresses, Names, Next}

-- a symbol has at most 255 bytes
abbrev pub IsSymbol : List ℕ → Type 0
IsSymbol symbol = length symbol ≤ 255

-- a feature has four bits, and a request has a row in the table
abbrev pub CanWrite : Ask → Type 0
CanWrite (SetSymbol _ symbol) = IsSymbol symbol
CanWrite (SetFeature _ feature _) = feature < 16
CanWrite (SetNodeSymbol _ symbol) = IsSymbol symbol
CanWrite (Unknown _) = ⊥
CanWrite _ = Unit {0}

-- a feature is registered for a type, which is a byte
abbrev pub HasByte : Ask → Type 0
HasByte (SetFeature a feature kind) = kind < 256
HasByte _ = Unit {0}

-- a list has an entry
abbrev pub CanTell : CtTell → Type 0
CanTell (Addresses list) = 0 < length list
CanTell (Names list) = 0 < length list
CanTell (Next port) = IsSymbol port.symbol × IsSymbol port.node_symbol
CanTell _ = Unit {0}

-- what the types keep: an address has 24 bits, a name 64, and a type map is eight words of 32
abbrev pub IsAddress : ℕ → Type 0
IsAddress address = address < 2 ^ 24

abbrev pub IsName : ℕ → Type 0
IsName name = name < 2 ^ 64

abbrev pub IsTyped : Ask → Type 0
IsTyped (NextOf address) = IsAddress address
IsTyped (PortNameOf address) = IsAddress address
IsTyped (NodeNameOf address) = IsAddress address
IsTyped (TypesOf address) = IsAddress address
IsTyped (FeaturesOf address) = IsAddress address
IsTyped (ByPortName name) = IsName name
IsTyped (AddressesOfType kind) = Unit {0}
IsTyped (PortNamesOfType kind) = Unit {0}
IsTyped (NodeNamesOfType kind) = Unit {0}
IsTyped (AddressesOfPortType kind) = Unit {0}
IsTyped (SetNode address name) = IsAddress address × IsName name
IsTyped (SetTypes address types) = IsAddress address × (length types.0 ≡ 8) × All (λ word. word < 2 ^ 32) types.0
IsTyped (SetSymbol address symbol) = IsAddress address
IsTyped (SetFeature address feature kind) = IsAddress address
IsTyped (SetNodeSymbol name symbol) = IsName name
IsTyped (Erase address) = IsAddress address
IsTyped (Unknown command) = Unit {0}
