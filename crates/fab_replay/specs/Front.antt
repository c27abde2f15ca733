-- The entries that a journal's lines name, as far as they are right, and what is wrong with the line behind them.
use Rattle.std.specs.Prelude.{◌≡◌, ◌≢◌, ℕ, ◌+◌, ◌⊎◌, Bool, true, false, not, ◌==◌, ◌&&◌, IfSome, List, [], ◌∷◌, ◌++◌, length, take, Option, Some, None, slice_get}
use Rattle.std.specs.List.{list_any}
use Rattle.fab_config.specs.Settings.{Settings}
use Rattle.pcap_file.specs.declared.Record.{Record}
use Rattle.fab_policy.specs.Journal.{Journal, clock}
use Rattle.window_records.specs.Keeping.{IsAhead}
use Rattle.fab_policy.specs.Legal.{HasPorts, IsLeastOf, IsNextTick, Legal, Timed, left_of, numbered_from, of_port, window_start, windows_left}
use Rattle.window_records.specs.Looks.{Stop}
use Rattle.fab_policy.specs.Ranged.{IsRanged}
use Rattle.fab_policy.specs.Spelling.{Spells}
use Rattle.fab_policy.specs.State.{addresses, overdue, tables_of}
use Rattle.fab_policy.specs.Verdicts.{IsRight}
use Rattle.fab_policy.specs.declared.line.Format.{Format}
use Rattle.fab_policy.specs.declared.line.Line.{Line}
use Rattle.fab_policy.specs.declared.line.Line.TheVariants.{Tick, Frame}
use Rattle.fab_replay.specs.Lines.{first_line, format_of, number_behind, text_in}
use Rattle.fab_replay.specs.declared.fault.LineWhy.{LineWhy}
use Rattle.fab_replay.specs.declared.fault.LineWhy.TheVariants as why

-- ---- entries that are right

-- the frames of each port are the first of its records
abbrev pub HoldsFronts : Journal → List (List Record) → Type 0
HoldsFronts J ins = (q : ℕ) (records : List Record) → slice_get ins q ≡ Some records → of_port (q + 1) J ≡ numbered_from 0 (take (length (of_port (q + 1) J)) records)

-- A journal is the beginning of a run over the records of n ports: legal and in time, each port's frames once and in order.
pub record IsFront (c : Settings) (ins : List (List Record)) (J : Journal) : Type 0 where
  pub ranged : IsRanged J
  pub ports : HasPorts (length ins) J
  pub frames : HoldsFronts J ins
  pub legal : Legal c J
  pub timed : Timed c ins J

-- ---- what may come next

-- frames are left
abbrev pub has_left : Settings → List (List Record) → Journal → Bool
has_left c ins J = list_any (λ w. true) (windows_left c 1 ins J)

-- a window is that of the clock
abbrev pub is_at : Option ℕ → ℕ → Bool
is_at None w = false
is_at (Some t) w = w == t

-- A tick is expected where frames are left, and none of them is of the clock's window, as where there is no clock yet.
abbrev pub expects_tick_at : Option ℕ → Settings → List (List Record) → Journal → Bool
expects_tick_at t c ins J = has_left c ins J && not (list_any (is_at t) (windows_left c 1 ins J))

abbrev pub expects_tick : Settings → List (List Record) → Journal → Bool
expects_tick c ins J = expects_tick_at (clock J) c ins J

-- The tick that comes next on the way to the window of the next frames, with the addresses that it ends.
pub record IsExpectedTick (c : Settings) (ins : List (List Record)) (J : Journal) (moment : ℕ) (ended : List ℕ) : Type 0 where
  pub window : ℕ
  pub least : IsLeastOf (windows_left c 1 ins J) window
  pub next : IsNextTick c J window moment
  pub ends : ended ≡ addresses (overdue c (tables_of c J) moment)

-- The next frame of a port is that of this record, with this index, and of the clock's window; a line that tells the clock
-- tells this one.
pub record IsNextFrame (c : Settings) (ins : List (List Record)) (J : Journal) (port index : ℕ) (told : Option ℕ) (r : Record) : Type 0 where
  pub place : ℕ
  pub is : port ≡ place + 1
  pub records : List Record
  pub later : List Record
  pub are : slice_get ins place ≡ Some records
  pub next : left_of port records J ≡ r ∷ later
  pub number : index ≡ length (of_port port J)
  pub time : clock J ≡ Some (window_start c r.moment)
  pub clock_ : IfSome told (λ t. clock J ≡ Some t)

-- ---- what is wrong

abbrev pub is_tick : Line → Bool
is_tick (Tick moment ended) = true
is_tick (Frame port index verdict told) = false

-- A tick is expected and the line isn't that tick, or it is a tick and none is expected.
abbrev pub IsWrongTick : Settings → List (List Record) → Journal → Line → Type 0
IsWrongTick c ins J l =
    ((expects_tick c ins J ≡ true) × (moment : ℕ) × (ended : List ℕ) × IsExpectedTick c ins J moment ended × (l ≢ Tick moment ended))
    ⊎ ((expects_tick c ins J ≡ false) × (is_tick l ≡ true))

-- What is wrong with the line at the front of a text, behind those of a journal.
abbrev pub IsWrong : Settings → List (List Record) → Journal → Format → List ℕ → LineWhy → Type 0
IsWrong c ins J f rest why.Text = (rest ≢ []) × ((l : Line) → Spells f (first_line rest) l → ⊥)
IsWrong c ins J f rest why.Tick = (l : Line) × Spells f (first_line rest) l × IsWrongTick c ins J l
IsWrong c ins J f rest why.Frame =
    (port : ℕ) × (index : ℕ) × (told : Option ℕ) × ((verdict : _) × Spells f (first_line rest) (Frame port index verdict told))
    × (expects_tick c ins J ≡ false) × ((r : Record) → IsNextFrame c ins J port index told r → ⊥)
IsWrong c ins J f rest (why.Verdict found made) =
    (port : ℕ) × (index : ℕ) × (told : Option ℕ) × (r : Record) × Spells f (first_line rest) (Frame port index found told)
    × (expects_tick c ins J ≡ false) × IsNextFrame c ins J port index told r
    × (IsRight c (tables_of c J) port r.caught found → ⊥) × IsRight c (tables_of c J) port r.caught made
IsWrong c ins J f rest why.Rest = (rest ≡ []) × (has_left c ins J ≡ true)

-- The lines before some place of a journal's text are right, and name these entries.
pub record AreRightLines (c : Settings) (ins : List (List Record)) (text : List ℕ) (J : Journal) : Type 0 where
  pub rest : List ℕ
  pub lines : text ≡ text_in (format_of text) J ++ rest
  pub front : IsFront c ins J

-- The window of the next frames, and each before it, was gathered: where the captures stop, they stop in a later one. Where no
-- frames are left, each window was gathered, and they stop nowhere.
abbrev pub IsGatheredTo : Settings → List (List Record) → Option Stop → Journal → Type 0
IsGatheredTo c ins None J = Unit {0}
IsGatheredTo c ins (Some s) J = (w : ℕ) × IsLeastOf (windows_left c 1 ins J) w × IsAhead (w + 1) (Some s)

-- A line is wrong, it is the first, and no stop of the captures comes before it.
pub record IsFirstWrong (c : Settings) (ins : List (List Record)) (stop : Option Stop) (text : List ℕ) (line : ℕ) (why : LineWhy) : Type 0 where
  pub entry_list : Journal
  pub before : AreRightLines c ins text entry_list
  pub gathered : IsGatheredTo c ins stop entry_list
  pub number : line ≡ number_behind (format_of text) (length entry_list)
  pub wrong : IsWrong c ins entry_list (format_of text) before.rest why
