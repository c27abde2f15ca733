-- The entries that a text's lines name behind a state, whatever led to it, as far as they are right, and what is wrong with the line behind
-- them. From the state before anything happened they are those of Front.antt and Remains.antt.
use Rattle.std.specs.Prelude.{◌≡◌, ◌≢◌, ℕ, ◌+◌, ◌⊎◌, Bool, true, false, IfSome, IsTrue, List, [], ◌∷◌, ◌++◌, length, take, drop, Option, Some, slice_get, Result}
use Rattle.fab_config.specs.Settings.{Settings}
use Rattle.pcap_file.specs.Capture.{head_bytes}
use Rattle.pcap_file.specs.declared.Record.{Record}
use Rattle.fab_policy.specs.Journal.{Journal, followed}
use Rattle.fab_policy.specs.Legal.{HasPorts, IsLeastOf, IsNextTickBy, left_of, numbered_from, of_port, window_start, windows_left}
use Rattle.fab_policy.specs.Outputs.{State, state_of}
use Rattle.fab_policy.specs.Ranged.{IsRanged}
use Rattle.fab_policy.specs.Spelling.{Spells}
use Rattle.fab_policy.specs.Standing.{Contents}
use Rattle.fab_policy.specs.State.{addresses, now_of, overdue}
use Rattle.fab_policy.specs.Text.{head_line, text1}
use Rattle.fab_policy.specs.Verdicts.{IsRight}
use Rattle.fab_policy.specs.declared.event.Event.{Event}
use Rattle.fab_policy.specs.declared.line.Format.{Format}
use Rattle.fab_policy.specs.declared.line.Format.TheVariants.{One, Two}
use Rattle.fab_policy.specs.declared.line.Line.{Line}
use Rattle.fab_policy.specs.declared.line.Line.TheVariants.{Tick, Frame}
use Rattle.window_records.specs.Looks.{Stop}
use Rattle.fab_states.specs.Runs.{TimedFrom, first_of, none_of}
use Rattle.fab_states.specs.States.{LegalFrom, sent_on, state_on}
use Rattle.fab_states.specs.Written.{piece_records, piece_text}
use Rattle.fab_replay.specs.Front.{IsGatheredTo, expects_tick_at, has_left, is_tick}
use Rattle.fab_replay.specs.Lines.{first_line, format_of, number_behind}
use Rattle.fab_replay.specs.Remains.{HasTick, IsTaken}
use Rattle.fab_replay.specs.declared.fault.CheckFault.{CheckFault}
use Rattle.fab_replay.specs.declared.fault.LineWhy.{LineWhy}
use Rattle.fab_replay.specs.declared.fault.LineWhy.TheVariants as why
use Rattle.fab_replay.specs.declared.lines.Place.{Place}

-- ---- where a check goes on from

-- What the fabric kept, and how many frames each port had.
pub record Origin : Type 0 where
  pub state : State
  pub firsts : List ℕ

-- that of a check from nothing
abbrev pub nothing_of : Settings → List (List Record) → Origin
nothing_of c ins = record { state = state_of c []; firsts = none_of ins }

-- the clock behind entries, and the clock at the beginning as a number
abbrev pub clock_from : Settings → Origin → Journal → Option ℕ
clock_from c o K = (state_on c o.state K).tables.clock

abbrev pub now_from : Origin → ℕ
now_from o = now_of o.state.tables

-- A fabric stands for entries behind a state: it keeps what they make of that state, they end with the events since the last drain, and
-- the outputs since then are those of these events.
pub record StandsFrom (o : Origin) (F : Contents) (K : Journal) : Type 0 where
  pub state : F.state ≡ state_on F.settings o.state K
  pub older : Journal
  pub events : K ≡ followed older F.events
  pub outs : F.outs ≡ sent_on F.settings F.count (state_on F.settings o.state older) (followed [] F.events)

-- ---- texts and captures

-- The text of entries behind a clock, in a format: a file of its own, so that the second format has its line.
abbrev pub text_from : Format → ℕ → Journal → List ℕ
text_from One t K = text1 K
text_from Two t K = head_line ++ piece_text t K

-- the capture of what entries send on a port of a forwarder of n ports
abbrev pub capture_from : Settings → ℕ → Origin → ℕ → Journal → List ℕ
capture_from c n o p K = head_bytes ++ piece_records c n p o.state K

-- The lines before a place are those of entries.
pub record IsBehindFrom (t : ℕ) (bytes : List ℕ) (p : Place) (K : Journal) : Type 0 where
  pub format : p.format ≡ format_of bytes
  pub entries : p.entries ≡ length K
  pub lines : bytes ≡ text_from p.format t K ++ drop p.at bytes

-- ---- entries that are right

-- the frames of each port are the first of its records, numbered from its next index
abbrev pub HoldsFrontsFrom : List ℕ → Journal → List (List Record) → Type 0
HoldsFrontsFrom firsts K ins =
    (q : ℕ) (records : List Record) → slice_get ins q ≡ Some records → of_port (q + 1) K ≡ numbered_from (first_of firsts (q + 1)) (take (length (of_port (q + 1) K)) records)

-- Entries are the beginning of a run over the records of n ports: legal and in time, each port's frames once and in order.
pub record IsFrontFrom (c : Settings) (o : Origin) (ins : List (List Record)) (K : Journal) : Type 0 where
  pub ranged : IsRanged K
  pub ports : HasPorts (length ins) K
  pub frames : HoldsFrontsFrom o.firsts K ins
  pub legal : LegalFrom c o.state K
  pub timed : TimedFrom c o.state o.firsts ins K

-- The same of entries of which the numbers and the verdicts aren't told.
pub record IsBegunFrom (c : Settings) (o : Origin) (ins : List (List Record)) (K : Journal) : Type 0 where
  pub ports : HasPorts (length ins) K
  pub frames : HoldsFrontsFrom o.firsts K ins
  pub timed : TimedFrom c o.state o.firsts ins K

-- ---- what may come next

abbrev pub expects_tick_from : Settings → Origin → List (List Record) → Journal → Bool
expects_tick_from c o ins K = expects_tick_at (clock_from c o K) c ins K

-- The tick that comes next on the way to the window of the next frames, with the addresses that it ends.
pub record IsExpectedTickFrom (c : Settings) (o : Origin) (ins : List (List Record)) (K : Journal) (moment : ℕ) (ended : List ℕ) : Type 0 where
  pub window : ℕ
  pub least : IsLeastOf (windows_left c 1 ins K) window
  pub next : IsNextTickBy c (state_on c o.state K) window moment
  pub ends : ended ≡ addresses (overdue c (state_on c o.state K).tables moment)

-- The next frame of a port is that of this record, with this index, and of the clock's window; a line that tells the clock tells this one.
pub record IsNextFrameFrom (c : Settings) (o : Origin) (ins : List (List Record)) (K : Journal) (port index : ℕ) (told : Option ℕ) (r : Record) : Type 0 where
  pub place : ℕ
  pub is : port ≡ place + 1
  pub records : List Record
  pub later : List Record
  pub are : slice_get ins place ≡ Some records
  pub next : left_of port records K ≡ r ∷ later
  pub number : index ≡ first_of o.firsts port + length (of_port port K)
  pub time : clock_from c o K ≡ Some (window_start c r.moment)
  pub clock_ : IfSome told (λ t. clock_from c o K ≡ Some t)

-- ---- what is wrong

-- A tick is expected and the line isn't that tick, or it is a tick and none is expected.
abbrev pub IsWrongTickFrom : Settings → Origin → List (List Record) → Journal → Line → Type 0
IsWrongTickFrom c o ins K l =
    ((expects_tick_from c o ins K ≡ true) × (moment : ℕ) × (ended : List ℕ) × IsExpectedTickFrom c o ins K moment ended × (l ≢ Tick moment ended))
    ⊎ ((expects_tick_from c o ins K ≡ false) × (is_tick l ≡ true))

-- What is wrong with the line at the front of a text, behind those of entries.
abbrev pub IsWrongFrom : Settings → Origin → List (List Record) → Journal → Format → List ℕ → LineWhy → Type 0
IsWrongFrom c o ins K f rest why.Text = (rest ≢ []) × ((l : Line) → Spells f (first_line rest) l → ⊥)
IsWrongFrom c o ins K f rest why.Tick = (l : Line) × Spells f (first_line rest) l × IsWrongTickFrom c o ins K l
IsWrongFrom c o ins K f rest why.Frame =
    (port : ℕ) × (index : ℕ) × (told : Option ℕ) × ((verdict : _) × Spells f (first_line rest) (Frame port index verdict told))
    × (expects_tick_from c o ins K ≡ false) × ((r : Record) → IsNextFrameFrom c o ins K port index told r → ⊥)
IsWrongFrom c o ins K f rest (why.Verdict found made) =
    (port : ℕ) × (index : ℕ) × (told : Option ℕ) × (r : Record) × Spells f (first_line rest) (Frame port index found told)
    × (expects_tick_from c o ins K ≡ false) × IsNextFrameFrom c o ins K port index told r
    × (IsRight c (state_on c o.state K).tables port r.caught found → ⊥) × IsRight c (state_on c o.state K).tables port r.caught made
IsWrongFrom c o ins K f rest why.Rest = (rest ≡ []) × (has_left c ins K ≡ true)

-- The lines before some place of a text are right, and name these entries.
pub record AreRightLinesFrom (c : Settings) (o : Origin) (ins : List (List Record)) (text : List ℕ) (K : Journal) : Type 0 where
  pub rest : List ℕ
  pub lines : text ≡ text_from (format_of text) (now_from o) K ++ rest
  pub front : IsFrontFrom c o ins K

-- A line is wrong, it is the first, and no stop of the captures comes before it.
pub record IsFirstWrongFrom (c : Settings) (o : Origin) (ins : List (List Record)) (stop : Option Stop) (text : List ℕ) (line : ℕ) (why : LineWhy) : Type 0 where
  pub entry_list : Journal
  pub before : AreRightLinesFrom c o ins text entry_list
  pub gathered : IsGatheredTo c ins stop entry_list
  pub number : line ≡ number_behind (format_of text) (length entry_list)
  pub wrong : IsWrongFrom c o ins entry_list (format_of text) before.rest why

-- ---- what a fabric stands for

-- The fabric stands for legal entries: those of the text's lines before some place, and at most one behind them. Where the captures are
-- known, its frames are theirs, once and in order.
pub record RemainsFrom (c : Settings) (o : Origin) (ins : List (List Record)) (told : Bool) (text : List ℕ) (F : Contents) (result : Result ℕ CheckFault) : Type 0 where
  pub entry_list : Journal
  pub rest : List ℕ
  pub lines : text ≡ text_from (format_of text) (now_from o) entry_list ++ rest
  pub ranged : IsRanged entry_list
  pub more : List Event
  pub taken : IsTaken (format_of text) entry_list rest more result
  pub legal : LegalFrom c o.state (more ++ entry_list)
  pub stands : StandsFrom o F (more ++ entry_list)
  pub begun : IsTrue told → IsBegunFrom c o ins (more ++ entry_list)
  pub tick : IsTrue told → HasTick (expects_tick_from c o ins entry_list) more result
