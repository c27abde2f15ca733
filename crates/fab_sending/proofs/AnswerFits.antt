-- The answer to a query: its size, and who asks.
use Rattle.std.proofs.Common.{ℕ, ◌+◌, ◌*◌, ◌≤◌, ◌^◌, ◌==◌, ◌||◌, not, Bool, List, length, filter, Option, Some, None, refl, arith}
use Rattle.std.proofs.lemmas.List.{length-map}
use Rattle.std.proofs.lemmas.List.Filters.{length-filter_both}
use Rattle.std.specs.Option.{option_map_or}
use Rattle.ct_messages.specs.Answer.{has_type, size_of}
use Rattle.ct_messages.specs.Ask.{Ask, NextOf, PortNameOf, NodeNameOf, TypesOf, FeaturesOf, ByPortName, AddressesOfType, PortNamesOfType, NodeNamesOfType, AddressesOfPortType, SetNode, SetTypes, SetSymbol, SetFeature, SetNodeSymbol, Erase, Unknown}
use Rattle.ct_messages.specs.Server as server
use Rattle.ct_messages.specs.Server.{Known, addresses, named, next_answer, next_port, of_type}
use Rattle.ct_messages.specs.declared.CtTell.TheVariants as tell
use Rattle.fab_config.specs.Settings.{Settings}
use Rattle.fab_policy.specs.Queries.{known, known_to, query, visible}
use Rattle.fab_policy.specs.Rules.{joined}
use Rattle.fab_policy.specs.State.{LivePort, Tables}
use Rattle.ct_messages.specs.declared.Named.{Named}

filter_fewer : {X : Type 0} (p : X → Bool) (xs : List X) → length (filter p xs) ≤ length xs
filter_fewer p xs = omega (arith, length-filter_both p (λ x. not (p x)) (λ x. refl) xs)

addresses_short : (ports : List Known) → length ports ≤ 65535 → 16 + 4 * length (addresses ports) ≤ 2 ^ 20
addresses_short ports few = omega (arith, few, length-map ports (λ (p : Known). p.address))

named_short : (name : Known → ℕ) (ports : List Known) → length ports ≤ 65535 → 16 + 16 * length (named name ports) ≤ 2 ^ 20
named_short name ports few = omega (arith, length-map ports (λ (p : Known). (let n : Named = record { address = p.address; name = name p } in n)))

typed_fewer : (t : ℕ) (ports : List Known) → length (of_type t ports) ≤ length ports
typed_fewer t ports = filter_fewer (λ p. has_type p.values.types t) ports

query_short : (ports : List Known) (ask : Ask) → length ports ≤ 65535 → size_of (server.query ports ask) ≤ 2 ^ 20
unfolding server.query
query_short ports (NextOf a) few = by_next (next_port a ports)
  where
    by_next : (o : Option Known) → size_of (option_map_or (λ p. tell.Next (next_answer p)) o tell.Done) ≤ 2 ^ 20
    by_next None = omega arith
    by_next (Some p) = omega arith
query_short ports (PortNameOf a) few = omega arith
query_short ports (NodeNameOf a) few = omega arith
query_short ports (TypesOf a) few = omega arith
query_short ports (FeaturesOf a) few = omega arith
query_short ports (ByPortName name) few = omega arith
query_short ports (AddressesOfType t) few = addresses_short (of_type t ports) (omega (arith, few, typed_fewer t ports))
query_short ports (PortNamesOfType t) few = named_short (λ p. p.name) (of_type t ports) (omega (arith, few, typed_fewer t ports))
query_short ports (NodeNamesOfType t) few = named_short (λ p. p.values.node_name) (of_type t ports) (omega (arith, few, typed_fewer t ports))
query_short ports (AddressesOfPortType t) few = addresses_short ports few
query_short ports (SetNode a name) few = omega arith
query_short ports (SetTypes a types) few = omega arith
query_short ports (SetSymbol a symbol) few = omega arith
query_short ports (SetFeature a feature kind) few = omega arith
query_short ports (SetNodeSymbol name symbol) few = omega arith
query_short ports (Erase a) few = omega arith
query_short ports (Unknown command) few = omega arith

known_fewer : (c : Settings) (T : Tables) (b : LivePort) → length (known_to c T b) ≤ length T.ports
known_fewer c T b = omega (arith, length-map (visible c T b) (known c), filter_fewer (λ p. p.address == b.address || joined c T p.name b.name) T.ports)

-- An answer over a pool of addresses can be cut into frames.
pub answer_short : (c : Settings) (T : Tables) (b : LivePort) (ask : Ask) → length T.ports ≤ 65535 → size_of (query c T b ask) ≤ 2 ^ 20
answer_short c T b ask few = query_short (known_to c T b) ask (omega (arith, few, known_fewer c T b))
