-- What the name server keeps of the N_Ports and what it answers (FC-GS-6, "Name Server"), over plain lists.
use Rattle.std.specs.Prelude.{ℕ, ◌+◌, ◌*◌, ◌^◌, Bool, true, false, not, ◌==◌, nat_lt, ◌&&◌, ◌||◌, if◌then◌else◌, List, [], ◌∷◌, length, map, filter, find, sum_by, slice_index, set, replicate, Option, Some, None, is_none}
use Rattle.std.specs.List.{range_with_len}
use Rattle.std.specs.Option.{option_map_or}
use Rattle.std.specs.Str.{bytes_eq}
use Rattle.fab_base.specs.Keyed.{item_at}
use Rattle.ct_messages.specs.Ask.{Ask, NextOf, PortNameOf, NodeNameOf, TypesOf, FeaturesOf, ByPortName, AddressesOfType, PortNamesOfType, NodeNamesOfType, AddressesOfPortType, SetNode, SetTypes, SetSymbol, SetFeature, SetNodeSymbol, Erase, Unknown}
use Rattle.ct_messages.specs.Answer.{has_type, has_no_type}
use Rattle.ct_messages.specs.declared.TypeMap.{TypeMap}
use Rattle.ct_messages.specs.declared.FeatureMap.{FeatureMap}
use Rattle.ct_messages.specs.declared.Named.{Named}
use Rattle.ct_messages.specs.declared.NextPort.{NextPort}
use Rattle.ct_messages.specs.declared.CtTell.{CtTell}
use Rattle.ct_messages.specs.declared.CtTell.TheVariants as tell

-- ---- what is registered

-- What is registered of an N_Port: node name, FC-4 types, the features of the types 0 to 255, and two symbolic names.
pub record Values : Type 0 where
  pub node_name : ℕ
  pub types : TypeMap
  pub features : List ℕ
  pub symbol : List ℕ
  pub node_symbol : List ℕ

abbrev pub NO_TYPES : TypeMap
NO_TYPES = record { 0 = replicate 8 0 }

unfoldable pub NO_FEATURES : List ℕ
NO_FEATURES = replicate 256 0

-- what the login of an N_Port gave: its node name, and nothing else
abbrev pub first_values : ℕ → Values
first_values node = record { node_name = node; types = NO_TYPES; features = NO_FEATURES; symbol = []; node_symbol = [] }

-- the values after a registration, by the node name of the login
abbrev pub after : ℕ → Ask → Values → Values
after node (SetNode _ name) v = record v { node_name = name }
after node (SetTypes _ types) v = record v { types = types }
after node (SetSymbol _ symbol) v = record v { symbol = symbol }
after node (SetFeature _ feature kind) v = record v { features = set v.features kind feature }
after node (SetNodeSymbol _ symbol) v = record v { node_symbol = symbol }
after node (Erase _) v = first_values node
after node _ v = v

-- the types or the features differ
abbrev pub has_changed : Values → Values → Bool
has_changed old new = not (bytes_eq old.types.0 new.types.0 && bytes_eq old.features new.features)

-- a request that is no query
abbrev pub is_registration : Ask → Bool
is_registration (SetNode _ _) = true
is_registration (SetTypes _ _) = true
is_registration (SetSymbol _ _) = true
is_registration (SetFeature _ _ _) = true
is_registration (SetNodeSymbol _ _) = true
is_registration (Erase _) = true
is_registration _ = false

-- ---- what the asker may see

-- An N_Port: its address and port name, the name of the port of the forwarder that it is behind, and what is registered.
pub record Known : Type 0 where
  pub address : ℕ
  pub name : ℕ
  pub fabric_port : ℕ
  pub values : Values

abbrev pub known_at : ℕ → List Known → Option Known
known_at a ports = item_at (λ (p : Known). p.address) a ports

abbrev pub known_by_name : ℕ → List Known → Option Known
known_by_name name ports = item_at (λ (p : Known). p.name) name ports

-- those that have a type
abbrev pub of_type : ℕ → List Known → List Known
of_type t ports = filter (λ p. has_type p.values.types t) ports

-- GID_PT knows the N_Port, and all of them
abbrev pub is_port_type : ℕ → Bool
is_port_type t = t == 0x01 || t == 0x7f

-- ---- refusals: a reason and an explanation

abbrev pub Refusal : Type 0
Refusal = ℕ × ℕ

abbrev pub refused_if : Bool → ℕ → ℕ → Option Refusal
refused_if test reason explanation = if test then Some (reason, explanation) else None

-- why a registration is refused, by the asker's address and its registered node name
abbrev pub registration_refusal : ℕ → ℕ → Ask → Option Refusal
registration_refusal address node_name (SetNode a name) = refused_if (not (a == address)) 9 1
registration_refusal address node_name (SetTypes a types) = refused_if (not (a == address)) 9 1
registration_refusal address node_name (SetSymbol a symbol) = refused_if (not (a == address)) 9 1
registration_refusal address node_name (SetFeature a feature kind) = refused_if (not (a == address)) 9 1
registration_refusal address node_name (Erase a) = refused_if (not (a == address)) 9 1
registration_refusal address node_name (SetNodeSymbol name symbol) = refused_if (not (name == node_name)) 9 3
registration_refusal address node_name _ = None

-- why GFT_ID is refused, by the N_Port that it asks for
abbrev pub types_refusal : Option Known → Option Refusal
types_refusal None = Some (9, 1)
types_refusal (Some p) = refused_if (has_no_type p.values.types) 9 7

-- why another request is refused, by the N_Ports that the asker may see
abbrev pub query_refusal : List Known → Ask → Option Refusal
query_refusal ports (Unknown command) = Some (0x0b, 0)
query_refusal ports (PortNameOf a) = refused_if (is_none (known_at a ports)) 9 1
query_refusal ports (NodeNameOf a) = refused_if (is_none (known_at a ports)) 9 1
query_refusal ports (TypesOf a) = types_refusal (known_at a ports)
query_refusal ports (FeaturesOf a) = refused_if (is_none (known_at a ports)) 9 1
query_refusal ports (ByPortName name) = refused_if (is_none (known_by_name name ports)) 9 2
query_refusal ports (AddressesOfType t) = refused_if (length (of_type t ports) == 0) 9 7
query_refusal ports (PortNamesOfType t) = refused_if (length (of_type t ports) == 0) 9 7
query_refusal ports (NodeNamesOfType t) = refused_if (length (of_type t ports) == 0) 9 7
query_refusal ports (AddressesOfPortType t) = refused_if (not (is_port_type t)) 9 0
query_refusal ports _ = None

-- ---- answers

-- the first, and none of no N_Ports
abbrev pub first_of : List Known → Option Known
first_of [] = None
first_of (p ∷ _) = Some p

abbrev pub or_first : Option Known → List Known → Option Known
or_first None ports = first_of ports
or_first (Some p) ports = Some p

-- the first N_Port above the asked address, or else the first of all; as they ascend, it is the least
abbrev pub next_port : ℕ → List Known → Option Known
next_port a ports = or_first (find (λ p. nat_lt a p.address) ports) ports

abbrev pub next_answer : Known → NextPort
next_answer p = record {
  address = p.address;
  port_name = p.name;
  symbol = p.values.symbol;
  node_name = p.values.node_name;
  node_symbol = p.values.node_symbol;
  types = p.values.types;
  fabric_port = p.fabric_port;
}

abbrev pub addresses : List Known → List ℕ
addresses ports = map (λ p. p.address) ports

abbrev pub named : (Known → ℕ) → List Known → List Named
named name ports = map (λ p. record { address = p.address; name = name p }) ports

-- the features of the eight types from t on in a word, the first in the lowest four bits
unfoldable pub feature_word : List ℕ → ℕ → ℕ
feature_word features t = sum_by (λ i. slice_index features (t + i) * 16 ^ i) (range_with_len 0 8)

-- the features of all types, eight in a word
unfoldable pub feature_words : List ℕ → FeatureMap
feature_words features = record { 0 = map (λ w. feature_word features (8 * w)) (range_with_len 0 32) }

-- the answer to a query that isn't refused; one that sees itself sees an N_Port, so GA_NXT has one
unfoldable pub query : List Known → Ask → CtTell
query ports (NextOf a) = option_map_or (λ p. tell.Next (next_answer p)) (next_port a ports) tell.Done
query ports (PortNameOf a) = tell.Name (option_map_or (λ p. p.name) (known_at a ports) 0)
query ports (NodeNameOf a) = tell.Name (option_map_or (λ p. p.values.node_name) (known_at a ports) 0)
query ports (TypesOf a) = tell.Types (option_map_or (λ p. p.values.types) (known_at a ports) NO_TYPES)
query ports (FeaturesOf a) = tell.Features (feature_words (option_map_or (λ p. p.values.features) (known_at a ports) []))
query ports (ByPortName name) = tell.Port (option_map_or (λ p. p.address) (known_by_name name ports) 0)
query ports (AddressesOfType t) = tell.Addresses (addresses (of_type t ports))
query ports (PortNamesOfType t) = tell.Names (named (λ p. p.name) (of_type t ports))
query ports (NodeNamesOfType t) = tell.Names (named (λ p. p.values.node_name) (of_type t ports))
query ports (AddressesOfPortType t) = tell.Addresses (addresses ports)
query ports _ = tell.Done

-- a reject with the refusal, or else the answer
abbrev pub refused_or : Option Refusal → CtTell → CtTell
refused_or None answer = answer
refused_or (Some why) answer = tell.Reject why.0 why.1

-- the answer to a request that is no registration
abbrev pub answer : List Known → Ask → CtTell
answer ports ask = refused_or (query_refusal ports ask) (query ports ask)
