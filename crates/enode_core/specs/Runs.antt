-- The run of a node over the frames that its port receives.
use Rattle.std.specs.Prelude.{◌≡◌, ℕ, ◌+◌, ◌<◌, ◌≤◌, Bool, nat_le, nat_lt, List, [], ◌∷◌, ◌++◌, filter, map}
use Rattle.std.specs.List.{list_any}
use Rattle.pcap_file.specs.declared.Record.{Record}
use Rattle.enode_core.specs.declared.node.Identity.{Identity}
use Rattle.enode_core.specs.declared.node.State.{State}
use Rattle.enode_core.specs.Machine.{Turn, due, timer, frame, begun}

-- ---- what a node is given

-- its timer, which comes when it is due, or a frame at its moment
pub data Input : Type 0 where
  Timer : Input
  Heard : (caught : Record) → Input

abbrev pub turn : Identity → State → Input → Turn
turn own s Timer = timer own s
turn own s (Heard r) = frame own s r.moment r.caught

-- the moment of an input
abbrev pub moment_of : State → Input → ℕ
moment_of s Timer = due s.stage
moment_of s (Heard r) = r.moment

-- where a node stands after these inputs, which come in this order
abbrev pub after : Identity → State → List Input → State
after own s [] = s
after own s (i ∷ more) = after own (turn own s i).state more

-- a frame that is sent, and when
pub record Sending : Type 0 where
  pub moment : ℕ
  pub bytes : List ℕ

abbrev pub sendings : ℕ → List (List ℕ) → List Sending
sendings now frames = map (λ l. record { moment = now; bytes = l }) frames

-- the frames that it sends at these inputs
abbrev pub sent : Identity → State → List Input → List Sending
sent own s [] = []
sent own s (i ∷ more) = sendings (moment_of s i) (turn own s i).sent ++ sent own (turn own s i).state more

-- the records among inputs
abbrev pub heard : List Input → List Record
heard [] = []
heard (Timer ∷ more) = heard more
heard (Heard r ∷ more) = r ∷ heard more

-- ---- the order of inputs

-- A node that stands so and hears these records is given these inputs, after which other records are left: each record comes
-- after the timers whose moment isn't above its own.
abbrev pub Plays : Identity → State → List Record → List Input → List Record → Type 0
Plays own s records [] left = records ≡ left
Plays own s [] (i ∷ more) left = ⊥
Plays own s (r ∷ records) (Timer ∷ more) left = (due s.stage ≤ r.moment) × Plays own (timer own s).state (r ∷ records) more left
Plays own s (r ∷ records) (Heard q ∷ more) left = (q ≡ r) × (r.moment < due s.stage) × Plays own (frame own s r.moment r.caught).state records more left

-- ---- runs

-- the records of a capture from a moment on; those before it are skipped
abbrev pub from : ℕ → List Record → List Record
from start records = filter (λ r. nat_le start r.moment) records

-- how far the last record may lie behind the start, in milliseconds
abbrev pub MOST_SPAN : ℕ
MOST_SPAN = 21600000

-- a record lies further behind the start
abbrev pub is_too_far : ℕ → Record → Bool
is_too_far start r = nat_lt (start + MOST_SPAN) r.moment

-- one of them does; moments don't go back, so the last one does
abbrev pub is_too_long : ℕ → List Record → Bool
is_too_long start records = list_any (is_too_far start) records

-- a node is given these inputs from its start on, and these records are left
abbrev pub Begins : Identity → ℕ → List Record → List Input → List Record → Type 0
Begins own start records inputs left = Plays own (begun own start).state (from start records) inputs left

-- it is given all of them
abbrev pub IsRun : Identity → ℕ → List Record → List Input → Type 0
IsRun own start records inputs = Begins own start records inputs []

-- where it stands after some of them
abbrev pub stands : Identity → ℕ → List Input → State
stands own start inputs = after own (begun own start).state inputs

-- all that it sends, from its start on
abbrev pub all_sent : Identity → ℕ → List Input → List Sending
all_sent own start inputs = sendings start (begun own start).sent ++ sent own (begun own start).state inputs
