-- Which frame of several captures is handled next.
use Rattle.std.specs.Prelude.{◌≡◌, ℕ, ◌+◌, ◌==◌, nat_le, nat_lt, if◌then◌else◌, List, [], ◌∷◌, drop, map, Option, Some, None}
use Rattle.std.specs.List.{filter}
use Rattle.pcap_file.specs.declared.Record.{Record}
use Rattle.pcap_file.specs.Records.{Ascends}
use Rattle.fip_snoop.specs.declared.queue.Head.{Head}
use Rattle.fip_snoop.specs.Bridge.{Arrival, arrival, arrivals_from, in_order, arrivals}

-- the one of two frames that comes first, the other being of a later port
abbrev pub sooner : Arrival → Option Arrival → Arrival
sooner a None = a
sooner a (Some b) = if nat_le a.moment b.moment then a else b

-- the first frame of the captures of the ports from this one on
abbrev pub least : ℕ → List (List Record) → Option Arrival
least port [] = None
least port ([] ∷ ins) = least (port + 1) ins
least port ((r ∷ records) ∷ ins) = Some (sooner (arrival port r) (least (port + 1) ins))

-- the captures of the ports from this one on, without the first frame of a port
abbrev pub without_first : ℕ → ℕ → List (List Record) → List (List Record)
without_first q port [] = []
without_first q port (records ∷ ins) = if port == q then drop 1 records ∷ ins else records ∷ without_first q (port + 1) ins

-- the moments of each capture don't go back
abbrev pub AllAscend : List (List Record) → Type 0
AllAscend [] = Unit {0}
AllAscend (records ∷ ins) = Ascends 0 records × AllAscend ins

-- ---- as the code sees it

-- what is left of captures of which so many frames were handled
abbrev pub left_in : List (List Record) → List ℕ → List (List Record)
left_in [] places = []
left_in (records ∷ ins) [] = []
left_in (records ∷ ins) (k ∷ places) = drop k records ∷ left_in ins places

-- a frame's port and moment
abbrev pub head_of : Arrival → Head
head_of a = record { port = a.port; moment = a.moment }

-- the moment of the first frame of the first capture
abbrev pub next_moment : List (List Record) → Option ℕ
next_moment [] = None
next_moment ([] ∷ ins) = None
next_moment ((r ∷ records) ∷ ins) = Some r.moment

-- the one that comes first of the port at a place, counted from 0, and of those behind it
abbrev pub sooner_head : ℕ → Option ℕ → Option Head → Option Head
sooner_head place None behind = behind
sooner_head place (Some m) None = Some (record { port = place + 1; moment = m })
sooner_head place (Some m) (Some h) = if nat_lt h.moment m then Some h else Some (record { port = place + 1; moment = m })

-- ---- laws

-- The first frame of the captures is handled next, and then the others in their order.
abbrev pub LeastIsNext : Type 0
LeastIsNext =
    (port : ℕ) (ins : List (List Record)) (a : Arrival) → AllAscend ins → least port ins ≡ Some a →
    in_order (arrivals_from port ins) ≡ a ∷ in_order (arrivals_from port (without_first a.port port ins))

-- where there is none, all were handled
abbrev pub NoneIsEnd : Type 0
NoneIsEnd = (port : ℕ) (ins : List (List Record)) → least port ins ≡ None → arrivals_from port ins ≡ []

-- the records of a port, of captures of the ports from this one on
abbrev pub records_of : ℕ → ℕ → List (List Record) → List Record
records_of q port [] = []
records_of q port (records ∷ ins) = if port == q then records else records_of q (port + 1) ins

-- The frames of each port are those of its capture in its order, where moments don't go back.
abbrev pub PortsKeepTheirOrder : Type 0
PortsKeepTheirOrder = (ins : List (List Record)) (q : ℕ) → AllAscend ins → filter (λ a. a.port == q) (arrivals ins) ≡ map (arrival q) (records_of q 1 ins)
