-- What the ticks and frames of a window make of a run that goes on from a state, whatever led to it.
use Rattle.std.specs.Prelude.{◌≡◌, ℕ, ◌+◌, ◌<◌, ◌≤◌, IfSome, List, [], ◌∷◌, length, map}
use Rattle.fab_base.specs.Seen.{Seen}
use Rattle.fab_config.specs.Settings.{Settings}
use Rattle.pcap_file.specs.declared.Record.{Record}
use Rattle.fab_policy.specs.Growing.{AllBelow, with_more}
use Rattle.fab_policy.specs.Journal.{Journal, followed, frame_count}
use Rattle.fab_policy.specs.Legal.{HasPorts}
use Rattle.fab_policy.specs.Outputs.{Sent, State, state_of}
use Rattle.fab_policy.specs.Ranged.{IsRanged}
use Rattle.fab_policy.specs.Standing.{AreFrames, Contents, Stands, drained}
use Rattle.fab_policy.specs.declared.event.Event.{Event}
use Rattle.fab_states.specs.Runs.{RunFrom, TimedFrom, counts_on, none_of}
use Rattle.fab_states.specs.States.{LegalFrom, state_on}
use Rattle.fab_states.specs.Went.{Grown}
use Rattle.forward_core.specs.Fabric.{AreRanged}
use Rattle.window_records.specs.Laws.{AllIn, HasSome}
use Rattle.window_records.specs.Looks.{Opened}
use Rattle.window_records.specs.Reads.{HaveRead, batches_of}
use Rattle.window_records.specs.declared.shelf.Input.{Input}
use Rattle.window_records.specs.declared.shelf.Shelf.{Shelf}
use Rattle.fab_windows.specs.Run.{IsRunOver}
use Rattle.fab_windows.specs.Window.{AreTicksBy, Handled, HoldBatches, Ticked, firsts_of}

-- A run from a state goes on.
abbrev pub RunsGoOn : Type 0
RunsGoOn =
    (c : Settings) (S : State) (firsts : List ℕ) (v w : ℕ) (taken batches : List (List Record)) (K : Journal) (ticks frames : List Event) → RunFrom c S firsts taken K
    → length batches ≡ length taken → AllBelow c v taken → v ≤ w + 1 → AllIn c w batches → HasSome batches
    → AreTicksBy c w (state_on c S K) ticks → AreFrames frames → HasPorts (length taken) (followed [] frames) → HoldBatches frames 1 (counts_on firsts taken) batches
    → LegalFrom c S (followed (followed K ticks) frames)
    → RunFrom c S firsts (with_more taken batches) (followed (followed K ticks) frames)

-- ---- windows

-- What stands before a window: the entries since a state, over the records of all earlier windows since then; the fabric keeps
-- what they make of the state, and nothing undrained. No journal led to the state that anybody knows.
pub record Sofar (c : Settings) (S : State) (firsts : List ℕ) (n w : ℕ) (taken : List (List Record)) (K : Journal) (F : Contents) : Type 0 where
  pub ranged : IsRanged K
  pub run : RunFrom c S firsts taken K
  pub width : length taken ≡ n
  pub below : AllBelow c w taken
  pub state : F.state ≡ state_on c S K
  pub settings : F.settings ≡ c
  pub count : F.count ≡ n
  pub events : F.events ≡ []
  pub outs : F.outs ≡ []

-- What stands before a window or in it stands after it, with records of the window, once the ticks up to it are made, their frames
-- are handled and the fabric is drained.
abbrev pub WindowIsRun : Type 0
WindowIsRun =
    (c : Settings) (S : State) (firsts : List ℕ) (n v w : ℕ) (taken batches : List (List Record)) (K : Journal) (F G H : Contents) → Sofar c S firsts n v taken K F → v ≤ w + 1
    → length batches ≡ n → AllIn c w batches → HasSome batches
    → Ticked w F G → Handled (counts_on firsts taken) batches G H → AreRanged H.events
    → Sofar c S firsts n (w + 1) (with_more taken batches) (followed K H.events) (drained H)

-- A run from a state has at most as many ticks as there are moments up to its clock.
abbrev pub EntriesAreFew : Type 0
EntriesAreFew = (c : Settings) (S : State) (firsts : List ℕ) (ins : List (List Record)) (K : Journal) (w : ℕ) → TimedFrom c S firsts ins K → IfSome (state_on c S K).tables.clock (λ t. t < w) → length K ≤ frame_count K + w

-- frames that are sent at a moment or before it
abbrev pub NotAfter : ℕ → List Sent → Type 0
NotAfter w [] = Unit {0}
NotAfter w (s ∷ sents) = (s.moment ≤ w) × NotAfter w sents

-- What a window sends, it sends at its start or before.
abbrev pub WindowsAreEarly : Type 0
WindowsAreEarly = (w : ℕ) (F G H : Contents) → F.outs ≡ [] → Ticked w F G → Grown G H → NotAfter w H.outs

-- What stands before a window from the state before anything happened stands there for the journal: so what is said of runs from
-- nothing follows.
abbrev pub NothingIsFirst : Type 0
NothingIsFirst = (c : Settings) (n w : ℕ) (taken : List (List Record)) (K : Journal) (F : Contents) → Sofar c (state_of c []) (none_of taken) n w taken K F → IsRunOver c taken K × Stands F K

-- ---- the numbers of records

-- The numbers of the first records on the shelves are how many were taken before.
abbrev pub FirstsAreTaken : Type 0
FirstsAreTaken =
    (c : Settings) (w : ℕ) (opened : List Opened) (taken : List (List Record)) (ins : List Input) (shelves : List Shelf) (d : Seen) → length taken ≡ length shelves
    → HaveRead c w opened (with_more taken (batches_of shelves)) ins shelves d → firsts_of shelves ≡ map (λ records. length records) taken
