-- A run that goes on from a state and from the next index of each port, whatever led to them.
use Rattle.std.specs.Prelude.{◌≡◌, ℕ, ◌+◌, ◌-◌, IfSome, List, [], ◌∷◌, length, map, slice_get, Option, Some, unwrap_or}
use Rattle.fab_config.specs.Settings.{Settings}
use Rattle.pcap_file.specs.declared.Record.{Record}
use Rattle.fab_policy.specs.Journal.{Journal}
use Rattle.fab_policy.specs.Legal.{HasPorts, IsLeastOf, IsNextTickBy, numbered_from, of_port, record_of, window_start, windows_left}
use Rattle.fab_policy.specs.Outputs.{State}
use Rattle.fab_policy.specs.declared.event.Event.{Event}
use Rattle.fab_policy.specs.declared.event.Event.TheVariants.{Tick, Frame}
use Rattle.fab_states.specs.States.{LegalFrom, state_on}

-- how many frames each port had after these
abbrev pub counts_of : List (List Record) → List ℕ
counts_of ins = map length ins

-- no port had a frame yet
abbrev pub none_of : List (List Record) → List ℕ
none_of ins = map (λ records. 0) ins

-- how many frames each port had, with these records
abbrev pub counts_on : List ℕ → List (List Record) → List ℕ
counts_on [] ins = []
counts_on (first ∷ firsts) [] = first ∷ firsts
counts_on (first ∷ firsts) (records ∷ ins) = (first + length records) ∷ counts_on firsts ins

-- the index of the first frame of a port, counted from 1
abbrev pub first_of : List ℕ → ℕ → ℕ
first_of firsts port = unwrap_or (slice_get firsts (port - 1)) 0

-- The frames of each port from p on are these records, numbered from that port's next index.
abbrev pub HoldsFrom : Journal → ℕ → List ℕ → List (List Record) → Type 0
HoldsFrom K p [] [] = Unit {0}
HoldsFrom K p [] (records ∷ ins) = ⊥
HoldsFrom K p (first ∷ firsts) [] = ⊥
HoldsFrom K p (first ∷ firsts) (records ∷ ins) = (of_port p K ≡ numbered_from first records) × HoldsFrom K (p + 1) firsts ins

-- the record of an entry
abbrev pub record_from : List ℕ → List (List Record) → ℕ → ℕ → Option Record
record_from firsts ins port index = record_of ins port (index - first_of firsts port)

-- An entry comes at its time.
abbrev pub InTimeFrom : Settings → State → List ℕ → List (List Record) → Journal → Event → Type 0
InTimeFrom c S firsts ins K (Frame port index caught verdict) =
    IfSome (record_from firsts ins port index) (λ r. (state_on c S K).tables.clock ≡ Some (window_start c r.moment))
InTimeFrom c S firsts ins K (Tick m ended) = (w : ℕ) × IsLeastOf (windows_left c 1 ins K) w × IsNextTickBy c (state_on c S K) w m

abbrev pub TimedFrom : Settings → State → List ℕ → List (List Record) → Journal → Type 0
TimedFrom c S firsts ins [] = Unit {0}
TimedFrom c S firsts ins (e ∷ K) = TimedFrom c S firsts ins K × InTimeFrom c S firsts ins K e

-- Each port's frames once and in order, each entry legal and in time.
pub record RunFrom (c : Settings) (S : State) (firsts : List ℕ) (ins : List (List Record)) (K : Journal) : Type 0 where
  pub ports : HasPorts (length ins) K
  pub frames : HoldsFrom K 1 firsts ins
  pub legal : LegalFrom c S K
  pub timed : TimedFrom c S firsts ins K
