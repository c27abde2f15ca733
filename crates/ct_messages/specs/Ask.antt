-- Requests to the name server as values (FC-GS-6, "Name Server").
use Rattle.std.specs.Prelude.{ℕ, List}
use Rattle.ct_messages.specs.declared.CtAsk.{CtAsk}
use Rattle.ct_messages.specs.declared.CtAsk.TheVariants as rust
use Rattle.ct_messages.specs.declared.TypeMap.{TypeMap}

-- A request: a type map is eight words, a symbol is bytes, and an unknown command is its code.
pub data Ask : Type 0 where
  NextOf : (address : ℕ) → Ask
  PortNameOf : (address : ℕ) → Ask
  NodeNameOf : (address : ℕ) → Ask
  TypesOf : (address : ℕ) → Ask
  FeaturesOf : (address : ℕ) → Ask
  ByPortName : (name : ℕ) → Ask
  AddressesOfType : (kind : ℕ) → Ask
  PortNamesOfType : (kind : ℕ) → Ask
  NodeNamesOfType : (kind : ℕ) → Ask
  AddressesOfPortType : (kind : ℕ) → Ask
  SetNode : (address name : ℕ) → Ask
  SetTypes : (address : ℕ) (types : TypeMap) → Ask
  SetSymbol : (address : ℕ) (symbol : List ℕ) → Ask
  SetFeature : (address feature kind : ℕ) → Ask
  SetNodeSymbol : (name : ℕ) (symbol : List ℕ) → Ask
  Erase : (address : ℕ) → Ask
  Unknown : (command : ℕ) → Ask

-- a request of the code, without where its symbol lies in memory
abbrev pub view : CtAsk → Ask
view (rust.NextOf address) = NextOf address
view (rust.PortNameOf address) = PortNameOf address
view (rust.NodeNameOf address) = NodeNameOf address
view (rust.TypesOf address) = TypesOf address
view (rust.FeaturesOf address) = FeaturesOf address
view (rust.ByPortName name) = ByPortName name
view (rust.AddressesOfType kind) = AddressesOfType kind
view (rust.PortNamesOfType kind) = PortNamesOfType kind
view (rust.NodeNamesOfType kind) = NodeNamesOfType kind
view (rust.AddressesOfPortType kind) = AddressesOfPortType kind
view (rust.SetNode address name) = SetNode address name
view (rust.SetTypes address types) = SetTypes address types
view (rust.SetSymbol address symbol) = SetSymbol address symbol.now
view (rust.SetFeature address feature kind) = SetFeature address feature kind
view (rust.SetNodeSymbol name symbol) = SetNodeSymbol name symbol.now
view (rust.Erase address) = Erase address
view (rust.Unknown command) = Unknown command
