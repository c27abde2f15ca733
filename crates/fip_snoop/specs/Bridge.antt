-- What a bridge makes of the frames of several ports: the order in which they are handled, and to which ports each goes.
use Rattle.std.specs.Prelude.{◌≡◌, ◌⊎◌, ◌<◌, ◌≤◌, ℕ, ◌+◌, ◌-◌, Bool, true, false, not, ◌==◌, nat_lt, nat_le, if◌then◌else◌, List, [], ◌∷◌, ◌++◌, length, map}
use Rattle.std.specs.List.{count_by}
use Rattle.fab_base.specs.declared.values.Caught.{Caught}
use Rattle.pcap_file.specs.declared.Record.{Record}
use Rattle.fip_snoop.specs.History.{Handled, History}
use Rattle.fip_snoop.specs.Ways.{FORWARDER_PORT, way_of}
use Rattle.fip_snoop.specs.declared.forwarder.Forwarder.{Forwarder}
use Rattle.fip_snoop.specs.declared.way.Way.{Way}
use Rattle.fip_snoop.specs.declared.way.Way.TheVariants.{Up, Down, All, Dropped}

-- ---- the order

-- A frame that comes: its port, its moment, and the frame.
pub record Arrival : Type 0 where
  pub port : ℕ
  pub moment : ℕ
  pub caught : Caught

abbrev pub arrival : ℕ → Record → Arrival
arrival port r = record { port = port; moment = r.moment; caught = r.caught }

-- the frames of the ports from this one on, port by port, those of a port in the order of its capture
abbrev pub arrivals_from : ℕ → List (List Record) → List Arrival
arrivals_from port [] = []
arrivals_from port (records ∷ ins) = map (arrival port) records ++ arrivals_from (port + 1) ins

-- in order of moments, with one more, which comes before others of its moment
abbrev pub with_arrival : Arrival → List Arrival → List Arrival
with_arrival x [] = x ∷ []
with_arrival x (y ∷ ys) = if nat_le x.moment y.moment then x ∷ y ∷ ys else y ∷ with_arrival x ys

abbrev pub in_order : List Arrival → List Arrival
in_order [] = []
in_order (x ∷ xs) = with_arrival x (in_order xs)

-- The frames of all captures in the order in which they are handled: by moment, then by port, then by place in the capture.
abbrev pub arrivals : List (List Record) → List Arrival
arrivals ins = in_order (arrivals_from 1 ins)

-- the moment of the last of these frames
abbrev pub last_moment : ℕ → List Arrival → ℕ
last_moment m [] = m
last_moment m (a ∷ more) = last_moment a.moment more

-- From the first frame to the last it takes more than six hours (a limit of this project).
abbrev pub is_too_long : List Arrival → Bool
is_too_long [] = false
is_too_long (a ∷ more) = nat_lt 21600000 (last_moment a.moment more - a.moment)

-- ---- handling

-- a frame that comes behind others, as it is handled
abbrev pub handled : Forwarder → History → Arrival → Handled
handled w L a = record { port = a.port; caught = a.caught; way = way_of w L a.port a.caught }

-- a history with these frames handled, one after another
abbrev pub history : Forwarder → History → List Arrival → History
history w L [] = L
history w L (a ∷ more) = history w (handled w L a ∷ L) more

-- a way leads to a port
abbrev pub leads_to : ℕ → Way → Bool
leads_to q Up = q == FORWARDER_PORT
leads_to q (Down p) = q == p
leads_to q All = not (q == FORWARDER_PORT)
leads_to q (Dropped why) = false

-- ---- how many

abbrev pub is_dropped : Way → Bool
is_dropped (Dropped why) = true
is_dropped way = false

abbrev pub dropped : History → ℕ
dropped L = count_by (λ h. is_dropped h.way) L

abbrev pub passed : History → ℕ
passed L = count_by (λ h. not (is_dropped h.way)) L

-- ---- laws

-- frames that are handled later go on from the history of those before
abbrev pub HistoryGoesOn : Type 0
HistoryGoesOn = (w : Forwarder) (L : History) (xs ys : List Arrival) → history w L (xs ++ ys) ≡ history w (history w L xs) ys

-- no frame is lost: each passed or was dropped
abbrev pub AllAreCounted : Type 0
AllAreCounted = (L : History) → passed L + dropped L ≡ length L

-- a frame has a lower moment than another, or the same and no higher port
abbrev pub IsBefore : Arrival → Arrival → Type 0
IsBefore a b = (a.moment < b.moment) ⊎ ((a.moment ≡ b.moment) × (a.port ≤ b.port))

abbrev pub IsBeforeNext : Arrival → List Arrival → Type 0
IsBeforeNext a [] = Unit {0}
IsBeforeNext a (b ∷ more) = IsBefore a b

abbrev pub AreInOrder : List Arrival → Type 0
AreInOrder [] = Unit {0}
AreInOrder (a ∷ more) = IsBeforeNext a more × AreInOrder more

-- by moment, and then by port
abbrev pub ArrivalsAreInOrder : Type 0
ArrivalsAreInOrder = (ins : List (List Record)) → AreInOrder (arrivals ins)
