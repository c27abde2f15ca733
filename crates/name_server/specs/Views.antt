-- How the code holds a seen N_Port with its entry. No public clause cites this module.
use Rattle.std.specs.Prelude.{ℕ, ◌==◌, if◌then◌else◌, Bool, false, List, Option, Some, None}
use Rattle.ct_messages.specs.Ask.{Ask, PortNamesOfType, NodeNamesOfType}
use Rattle.ct_messages.specs.Answer.{has_type}
use Rattle.ct_messages.specs.Server as server
use Rattle.name_server.specs.Registry.{Entry, entry_at, known_of, AreEntered, SeenAscend}
use Rattle.name_server.specs.Places.{is_of_type}
use Rattle.name_server.specs.declared.lists.NameOf.{NameOf}
use Rattle.name_server.specs.declared.lists.NameOf.TheVariants.{Port, Node}
use Rattle.name_server.specs.declared.ports.Known.{Known}
use Rattle.name_server.specs.declared.seen.SeenPort.{SeenPort}

abbrev pub as_known : Known → server.Known
as_known k = known_of k.port.now k.entry.now

-- the name that is listed
abbrev pub name_of : NameOf → server.Known → ℕ
name_of Port k = k.name
name_of Node k = k.values.node_name

-- an N_Port if it has a type
abbrev pub typed_if : ℕ → Option server.Known → Option server.Known
typed_if kind None = None
typed_if kind (Some k) = if has_type k.values.types kind then Some k else None

-- the request for the N_Ports of a type with that name
abbrev pub by_name_of : NameOf → ℕ → Ask
by_name_of Port kind = PortNamesOfType kind
by_name_of Node kind = NodeNamesOfType kind

-- What an asker may see: N_Ports that are entered, in ascending order.
pub record AreSeen (entries : List Entry) (seen : List SeenPort) : Type 0 where
  pub entered : AreEntered entries seen
  pub ascending : SeenAscend 0 seen

-- ---- seen N_Ports by their index

-- it has this address
abbrev pub is_at : ℕ → Option SeenPort → Bool
is_at a None = false
is_at a (Some s) = s.address == a

-- it has a type
abbrev pub seen_of_type : ℕ → List Entry → Option SeenPort → Bool
seen_of_type kind entries None = false
seen_of_type kind entries (Some s) = is_of_type kind (entry_at s.address entries)
