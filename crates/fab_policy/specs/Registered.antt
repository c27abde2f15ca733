-- What is registered with the name server (FC-GS-6, "Name Server"): the last registration that sets a value counts,
-- and one that erases puts back what the login gave.
use Rattle.std.specs.Prelude.{ℕ, ◌==◌, if◌then◌else◌, List, [], ◌∷◌, map, Option, Some, None, unwrap_or, filter_map}
use Rattle.ct_messages.specs.Ct.{Ask, SetNode, SetTypes, SetSymbol, SetFeature, SetNodeSymbol, Erase}
use Rattle.ct_messages.specs.Server.{Values, NO_TYPES}
use Rattle.ct_messages.specs.declared.TypeMap.{TypeMap}
use Rattle.fab_policy.specs.Journal.{Journal}
use Rattle.heard_frames.specs.Heard.{s_id, ask_of}
use Rattle.fab_base.specs.Counting.{counting}
use Rattle.fab_policy.specs.Logins.{since}
use Rattle.fab_policy.specs.declared.event.Event.{Event}
use Rattle.fab_policy.specs.declared.event.Event.TheVariants.{Frame}
use Rattle.fab_policy.specs.declared.verdict.Verdict.TheVariants.{Registered}

-- the registration that an entry is for the address
abbrev pub registration : ℕ → Event → Option Ask
registration a (Frame port index caught Registered) = if a == s_id caught then Some (ask_of caught) else None
registration a _ = None

-- the registrations of a live address, the newest first
abbrev pub registrations : ℕ → Journal → List Ask
registrations a J = filter_map (registration a) (since a J)

-- what the newest of them that says anything of a value says
abbrev pub newest : {X : Type 0} → (Ask → Option X) → List Ask → Option X
newest says [] = None
newest says (ask ∷ asks) = elim (says ask) [ Some x ↦ Some x | None ↦ newest says asks ]

-- ---- what a registration says of each value

abbrev pub says_node : ℕ → Ask → Option ℕ
says_node first (SetNode _ name) = Some name
says_node first (Erase _) = Some first
says_node first _ = None

abbrev pub says_types : Ask → Option TypeMap
says_types (SetTypes _ types) = Some types
says_types (Erase _) = Some NO_TYPES
says_types _ = None

abbrev pub says_feature : ℕ → Ask → Option ℕ
says_feature t (SetFeature _ feature kind) = if kind == t then Some feature else None
says_feature t (Erase _) = Some 0
says_feature t _ = None

abbrev pub says_symbol : Ask → Option (List ℕ)
says_symbol (SetSymbol _ symbol) = Some symbol
says_symbol (Erase _) = Some []
says_symbol _ = None

abbrev pub says_node_symbol : Ask → Option (List ℕ)
says_node_symbol (SetNodeSymbol _ symbol) = Some symbol
says_node_symbol (Erase _) = Some []
says_node_symbol _ = None

-- ---- the registered values of a live N_Port

abbrev pub node_name : ℕ → List Ask → ℕ
node_name first asks = unwrap_or (newest (says_node first) asks) first

abbrev pub types : List Ask → TypeMap
types asks = unwrap_or (newest says_types asks) NO_TYPES

-- the feature of one type
abbrev pub feature : ℕ → List Ask → ℕ
feature t asks = unwrap_or (newest (says_feature t) asks) 0

-- the features of the types 0 to 255 (FC-GS-6, "FC-4 Features")
abbrev pub features : List Ask → List ℕ
features asks = map (λ t. feature t asks) (counting 0 256)

abbrev pub symbol : List Ask → List ℕ
symbol asks = unwrap_or (newest says_symbol asks) []

abbrev pub node_symbol : List Ask → List ℕ
node_symbol asks = unwrap_or (newest says_node_symbol asks) []

-- all of them, where the login gave this node name
abbrev pub values : ℕ → List Ask → Values
values first asks = record {
  node_name = node_name first asks;
  types = types asks;
  features = features asks;
  symbol = symbol asks;
  node_symbol = node_symbol asks;
}
