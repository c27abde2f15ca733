-- What a contract sees of a registry: how many N_Ports it may hold, and what is registered of each, in ascending order of
-- their addresses; and what the name server knows of the N_Ports that an asker may see.
use Rattle.std.specs.Prelude.{◌≡◌, ℕ, ◌<◌, ◌≤◌, Bool, false, List, length, filter_map, Option, Some, None, IsSome, option_map}
use Rattle.std.specs.List.{All}
use Rattle.fab_base.specs.Keyed as keyed
use Rattle.ct_messages.specs.Ask.{Ask}
use Rattle.ct_messages.specs.CanWrite.{IsSymbol}
use Rattle.ct_messages.specs.Server.{Values, first_values, after, has_changed, Known, Refusal, registration_refusal}
use Rattle.name_server.specs.declared.refusals.RegFault.{RegFault}
use Rattle.name_server.specs.declared.refusals.RegFault.TheVariants.{Refused}
use Rattle.name_server.specs.declared.seen.SeenPort.{SeenPort}

-- An N_Port: its address, the node name of its login, and what is registered of it.
pub record Entry : Type 0 where
  pub address : ℕ
  pub node : ℕ
  pub values : Values

pub record Registrations : Type 0 where
  pub room : ℕ
  pub entries : List Entry

-- the key of an entry
abbrev pub address_of : Entry → ℕ
address_of e = e.address

-- ---- questions

-- the entry of an address
abbrev pub entry_at : ℕ → List Entry → Option Entry
entry_at a entries = keyed.item_at address_of a entries

-- why a registration of this N_Port is refused
abbrev pub refusal : Ask → Option Entry → Option Refusal
refusal ask None = None
refusal ask (Some e) = registration_refusal e.address e.values.node_name ask

-- the codes of a refusal
abbrev pub codes : RegFault → Refusal
codes (Refused reason explanation) = (reason, explanation)

-- a registration changes the types or the features of this N_Port
abbrev pub is_noticed : Ask → Option Entry → Bool
is_noticed ask None = false
is_noticed ask (Some e) = has_changed e.values (after e.node ask e.values)

-- ---- changes

-- an N_Port that has just logged in
abbrev pub entered : ℕ → ℕ → Entry
entered address node = record { address = address; node = node; values = first_values node }

-- the entries with one more, between those below it and those above it
abbrev pub added : Entry → List Entry → List Entry
added entry entries = keyed.added address_of entry entries

-- the entries without that of this address
abbrev pub without : ℕ → List Entry → List Entry
without a entries = keyed.without address_of a entries

-- an entry after a registration
abbrev pub updated : Ask → Entry → Entry
updated ask e = record e { values = after e.node ask e.values }

-- an entry after a registration by this address
abbrev pub registered : ℕ → Ask → Entry → Entry
registered a ask e = keyed.changed_if address_of a (updated ask) e

-- the entry of this address has its values after the registration; the others stay
abbrev pub with_registration : ℕ → Ask → List Entry → List Entry
with_registration a ask entries = keyed.changed address_of a (updated ask) entries

-- an entry with other values
abbrev pub revalued : Values → Entry → Entry
revalued v e = record e { values = v }

-- the same, if its address is this one
abbrev pub valued : ℕ → Values → Entry → Entry
valued a v e = keyed.changed_if address_of a (revalued v) e

-- the entry of this address has other values; the others stay
abbrev pub with_values : ℕ → Values → List Entry → List Entry
with_values a v entries = keyed.changed address_of a (revalued v) entries

-- ---- the N_Ports that an asker may see

-- the key of a seen N_Port
abbrev pub seen_address : SeenPort → ℕ
seen_address s = s.address

abbrev pub seen_at : ℕ → List SeenPort → Option SeenPort
seen_at a seen = keyed.item_at seen_address a seen

-- every seen N_Port is entered
abbrev pub AreEntered : List Entry → List SeenPort → Type 0
AreEntered entries seen = All (λ (s : SeenPort). IsSome (entry_at s.address entries)) seen

-- a seen N_Port with what is registered of it
abbrev pub known_of : SeenPort → Entry → Known
known_of s e = record { address = s.address; name = s.name; fabric_port = s.fabric_port; values = e.values }

abbrev pub known_port : List Entry → SeenPort → Option Known
known_port entries s = option_map (known_of s) (entry_at s.address entries)

-- the seen N_Ports, each with what is registered of it
abbrev pub known : List Entry → List SeenPort → List Known
known entries seen = filter_map (known_port entries) seen

-- ---- what holds of every registry

-- strictly ascending addresses, none below the bound
abbrev pub AscendFrom : ℕ → List Entry → Type 0
AscendFrom from entries = keyed.AscendFrom address_of from entries

-- there is a feature of four bits for each of the 256 types, and symbols have at most 255 bytes
pub record IsKept (v : Values) : Type 0 where
  pub features : length v.features ≡ 256
  pub range : All (λ feature. feature < 16) v.features
  pub symbol : IsSymbol v.symbol
  pub node_symbol : IsSymbol v.node_symbol

-- The entries ascend, so no address comes twice; their values are kept; and there are at most `room`.
pub record IsSound (r : Registrations) : Type 0 where
  pub ascending : AscendFrom 0 r.entries
  pub kept : All (λ e. IsKept e.values) r.entries
  pub bound : length r.entries ≤ r.room

-- strictly ascending addresses of seen N_Ports, none below the bound
abbrev pub SeenAscend : ℕ → List SeenPort → Type 0
SeenAscend from seen = keyed.AscendFrom seen_address from seen
