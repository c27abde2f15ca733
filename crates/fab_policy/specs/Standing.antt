-- What a fabric stands for: the plain contents of its tables, and a journal that says the same.
use Rattle.std.specs.Prelude.{◌≡◌, ℕ, ◌+◌, ◌%◌, List, [], ◌∷◌, ◌++◌, length}
use Rattle.fab_config.specs.Settings.{Settings}
use Rattle.fab_policy.specs.Journal.{Journal, followed}
use Rattle.fab_policy.specs.Outputs.{State, state_of, outputs, outputs_by, notices, advertised_after, Sent}
use Rattle.fab_policy.specs.Steps.{after}
use Rattle.fab_policy.specs.Legal.{Legal, IsRightEntry, IsDue, IsDueBy}
use Rattle.fab_policy.specs.declared.event.Event.{Event}
use Rattle.fab_policy.specs.declared.event.Event.TheVariants.{Tick, Frame}

-- The plain contents of a fabric: its configuration and its number of ports, what its tables say, and what happened and was
-- sent since the last drain, in order.
pub record Contents : Type 0 where
  pub settings : Settings
  pub count : ℕ
  pub state : State
  pub events : List Event
  pub outs : List Sent

-- the frames that entries send one after another, which come after J
abbrev pub sent_after : Settings → ℕ → Journal → List Event → List Sent
sent_after c n J [] = []
sent_after c n J (e ∷ more) = outputs c n J e ++ sent_after c n (e ∷ J) more

-- A fabric stands for a journal: its tables say what the journal says, the journal ends with the events since the last
-- drain, and the outputs since then are those of these events.
pub record Stands (F : Contents) (J : Journal) : Type 0 where
  pub state : F.state ≡ state_of F.settings J
  pub older : Journal
  pub events : J ≡ followed older F.events
  pub outs : F.outs ≡ sent_after F.settings F.count older F.events

-- a fabric before anything happened
abbrev pub new_fabric : Settings → ℕ → Contents
new_fabric c n = record { settings = c; count = n; state = state_of c []; events = []; outs = [] }

-- It stands for the empty journal.
abbrev pub StandsNew : Type 0
StandsNew = (c : Settings) (n : ℕ) → Stands (new_fabric c n) []

-- The older journal is the one that the events since the last drain follow, and the outputs are those of these events after it.
abbrev pub StandsOlder : Type 0
StandsOlder = (F : Contents) (I J : Journal) → Stands F J → J ≡ followed I F.events → F.outs ≡ sent_after F.settings F.count I F.events

-- What is due by a fabric's own tables is due by each journal that it stands for.
abbrev pub DueAfter : Type 0
DueAfter = (F : Contents) (J : Journal) (m : ℕ) → Stands F J → IsDueBy F.settings F.state m → IsDue F.settings J m

-- ---- one more entry

-- what is kept after an entry
abbrev pub state_after : Settings → State → Event → State
state_after c S e =
    let U = after c S.tables e in
    record { tables = U; advertised = advertised_after c S.advertised e; rscns = (S.rscns + length (notices c S.tables U e)) % 65535 }

-- A fabric took an entry: its state is the one after it, and the entry and its outputs are added to those since the last drain.
pub record Takes (F : Contents) (e : Event) (G : Contents) : Type 0 where
  pub settings : G.settings ≡ F.settings
  pub count : G.count ≡ F.count
  pub state : G.state ≡ state_after F.settings F.state e
  pub events : G.events ≡ F.events ++ e ∷ []
  pub outs : G.outs ≡ F.outs ++ outputs_by F.settings F.count F.state (after F.settings F.state.tables e) e

-- A fabric that takes an entry stands for the journal with that entry, if it stood for the journal.
abbrev pub StandsAfter : Type 0
StandsAfter = (F G : Contents) (e : Event) (J : Journal) → Stands F J → Takes F e G → Stands G (e ∷ J)

-- the same fabric after a drain
abbrev pub drained : Contents → Contents
drained F = record { settings = F.settings; count = F.count; state = F.state; events = []; outs = [] }

-- A drained fabric stands for the same journal.
abbrev pub StandsDrained : Type 0
StandsDrained = (F : Contents) (J : Journal) → Stands F J → Stands (drained F) J

-- An entry that is right by the fabric's own tables is right after each journal that the fabric stands for.
abbrev pub LegalAfter : Type 0
LegalAfter = (F : Contents) (e : Event) (J : Journal) → Legal F.settings J → Stands F J → IsRightEntry F.settings F.state.tables e → Legal F.settings (e ∷ J)

-- ---- many more entries

-- entries that are frames
abbrev pub AreFrames : List Event → Type 0
AreFrames [] = Unit {0}
AreFrames (Frame port index caught verdict ∷ more) = AreFrames more
AreFrames (Tick m ended ∷ more) = ⊥
