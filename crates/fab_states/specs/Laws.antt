-- What is said by a state holds of each journal that says this state.
use Rattle.std.specs.Prelude.{◌≡◌, ℕ, ◌+◌, List, [], ◌++◌, length}
use Rattle.fab_base.specs.declared.values.Caught.{Caught}
use Rattle.fab_config.specs.Settings.{Settings}
use Rattle.pcap_file.specs.declared.Record.{Record}
use Rattle.fab_policy.specs.Growing.{AllBelow, AllFrom, lines_from, records_to, with_more}
use Rattle.fab_policy.specs.Journal.{Journal, followed}
use Rattle.fab_policy.specs.Legal.{Legal, HasPorts, IsNextTick, IsNextTickBy, IsRightEntry}
use Rattle.fab_policy.specs.Outputs.{State, state_of}
use Rattle.fab_policy.specs.Standing.{Contents, Stands, Takes, sent_after}
use Rattle.fab_policy.specs.declared.event.Event.{Event}
use Rattle.fab_policy.specs.declared.event.Event.TheVariants.{Frame}
use Rattle.fab_policy.specs.declared.verdict.Verdict.{Verdict}
use Rattle.fab_states.specs.Runs.{HoldsFrom, TimedFrom}
use Rattle.fab_states.specs.States.{LegalFrom, sent_on, state_on}
use Rattle.fab_states.specs.Written.{clock_on, piece_records, piece_text}
use Rattle.fab_states.specs.Went.{Grown, Went}

-- ---- journals

-- A journal followed by entries says what these make of what it said.
abbrev pub StatesGoOn : Type 0
StatesGoOn = (c : Settings) (J : Journal) (es : List Event) → state_of c (followed J es) ≡ state_on c (state_of c J) (followed [] es)

-- It is legal where the journal is and the entries are right by what it said.
abbrev pub LegalGoesOn : Type 0
LegalGoesOn = (c : Settings) (J : Journal) (es : List Event) → Legal c J → LegalFrom c (state_of c J) (followed [] es) → Legal c (followed J es)

-- They send what they send by what it said.
abbrev pub SentGoesOn : Type 0
SentGoesOn = (c : Settings) (n : ℕ) (J : Journal) (es : List Event) → sent_after c n J es ≡ sent_on c n (state_of c J) (followed [] es)

-- ---- ticks

-- The next tick by a fabric's own tables is the next tick of each journal that it stands for.
abbrev pub NextTicksStand : Type 0
NextTicksStand = (F : Contents) (J : Journal) (w m : ℕ) → Stands F J → IsNextTickBy F.settings F.state w m → IsNextTick F.settings J w m

-- ---- records

-- Records of the last window or of later ones change nothing of the time of what was run before them.
abbrev pub TimedGrowsFrom : Type 0
TimedGrowsFrom =
    (c : Settings) (S : State) (w : ℕ) (firsts : List ℕ) (ins more : List (List Record)) (K : Journal) → HasPorts (length ins) K → HoldsFrom K 1 firsts ins → TimedFrom c S firsts ins K
    → AllBelow c (w + 1) ins → AllFrom c w more → length more ≡ length ins → TimedFrom c S firsts (with_more ins more) K

-- ---- text and captures

-- Further entries add their lines to those of the entries before them.
abbrev pub TextGrowsFrom : Type 0
TextGrowsFrom = (t : ℕ) (K : Journal) (es : List Event) → piece_text t (followed K es) ≡ piece_text t K ++ lines_from (clock_on t K) es

-- They add the records of what they send on a port.
abbrev pub RecordsGrowFrom : Type 0
RecordsGrowFrom =
    (c : Settings) (n p : ℕ) (S : State) (K : Journal) (es : List Event) →
    piece_records c n p S (followed K es) ≡ piece_records c n p S K ++ records_to p (sent_on c n (state_on c S K) (followed [] es))

-- ---- fabrics

-- A fabric that took entries stands for each legal journal that it stood for with these entries, and this journal is legal.
abbrev pub WentStands : Type 0
WentStands =
    (F G : Contents) (es : List Event) → Went F es G → (J : Journal) → Legal F.settings J → Stands F J → Legal F.settings (followed J es) × Stands G (followed J es)

-- The same of one that grew by frames.
abbrev pub GrownStands : Type 0
GrownStands =
    (first F : Contents) (g : Grown first F) → (J : Journal) → Legal first.settings J → Stands first J → Legal first.settings (followed J g.later) × Stands F (followed J g.later)

-- A fabric grew out of itself, and one that grew grows by each frame that it takes with a right verdict.
abbrev pub GrowsByFrames : Type 0
GrowsByFrames =
    ((F : Contents) → Grown F F)
    × ((first F G : Contents) (port index : ℕ) (caught : Caught) (v : Verdict) → Grown first F →
    IsRightEntry F.settings F.state.tables (Frame port index caught v) → Takes F (Frame port index caught v) G → Grown first G)
