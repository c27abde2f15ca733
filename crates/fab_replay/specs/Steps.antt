-- What stands between two lines of a journal, while a window of the captures is checked. No public clause cites this module.
use Rattle.std.specs.Prelude.{◌≡◌, ℕ, ◌+◌, ◌%◌, ◌^◌, ◌≤◌, ◌<◌, ◌⊎◌, Bool, true, IfErr, IfSome, IsTrue, List, [], ◌∷◌, ◌++◌, length, drop, MatchResult, Option, Some, slice_get, replicate, Result, Err, OnOk, Vec, unwrap_or}
use Rattle.std.specs.declared.alloc.Global.{Global}
use Rattle.fab_base.specs.declared.values.Caught.{Caught}
use Rattle.fab_config.specs.Settings.{Settings}
use Rattle.pcap_file.specs.declared.Record.{Record}
use Rattle.fab_policy.specs.Growing.{AreFrom}
use Rattle.fab_policy.specs.Journal.{Journal}
use Rattle.window_records.specs.Keeping.{IsAhead}
use Rattle.fab_policy.specs.Legal.{IsLeastOf, IsNextTickBy, left_of, of_port, windows_left}
use Rattle.window_records.specs.Looks.{Stop}
use Rattle.fab_policy.specs.Ranged.{IsRanged}
use Rattle.fab_policy.specs.Standing.{Contents}
use Rattle.fab_policy.specs.State.{Tables}
use Rattle.fab_policy.specs.Verdicts.{IsRight}
use Rattle.fab_policy.specs.declared.event.Event.TheVariants.{Frame}
use Rattle.fab_policy.specs.declared.line.Line.{Line}
use Rattle.fab_policy.specs.declared.line.Line.TheVariants.{Tick}
use Rattle.fab_policy.specs.declared.verdict.Verdict.{Verdict}
use Rattle.window_records.specs.Port.{AreIn}
use Rattle.window_records.specs.Reads.{first_index}
use Rattle.window_records.specs.declared.shelf.Shelf.{Shelf}
use Rattle.fab_pages.specs.Pages.{items_in}
use Rattle.fab_states.specs.Runs.{first_of}
use Rattle.fab_states.specs.States.{LegalFrom, state_on}
use Rattle.fab_replay.specs.FrontFrom.{IsBegunFrom, IsBehindFrom, IsFirstWrongFrom, IsFrontFrom, Origin, RemainsFrom, StandsFrom, clock_from, expects_tick_from, now_from}
use Rattle.fab_replay.specs.Lines.{IsInside, IsOfLine, number_behind}
use Rattle.fab_replay.specs.Owed.{PagesGrow}
use Rattle.fab_replay.specs.declared.fault.CheckFault.{CheckFault}
use Rattle.fab_replay.specs.declared.fault.CheckFault.TheVariants as fault
use Rattle.fab_replay.specs.declared.fault.LineWhy.TheVariants as why
use Rattle.fab_replay.specs.declared.frames.Gathered.{Gathered}
use Rattle.fab_replay.specs.declared.lines.Place.{Place}
use Rattle.fab_replay.specs.declared.verdicts.Misjudged.{Misjudged}
use Rattle.fab_replay.specs.declared.verdicts.Misjudged.TheVariants as misjudged

-- as many frames of each port were before the one as before the other
abbrev pub AreFirsts : List ℕ → List ℕ → Type 0
AreFirsts firsts others = (q : ℕ) → unwrap_or (slice_get firsts q) 0 ≡ unwrap_or (slice_get others q) 0

-- What entries behind a state are checked against, with where the reading of the captures stops, and their text.
pub record Scene : Type 0 where
  pub settings : Settings
  pub from : Origin
  pub records : List (List Record)
  pub stop : Option Stop
  pub bytes : List ℕ

-- The lines before a place are right, and a fabric stands for their entries.
pub record IsReached (x : Scene) (J : Journal) (F : Contents) (p : Place) : Type 0 where
  pub front : IsFrontFrom x.settings x.from x.records J
  pub behind : IsBehindFrom (now_from x.from) x.bytes p J
  pub stands : StandsFrom x.from F J
  pub settings : F.settings ≡ x.settings
  pub count : F.count ≡ length x.records

-- The lines before a place are those of legal entries for which a fabric stands; where the captures are known, its frames are
-- theirs.
pub record IsAlong (x : Scene) (told : Bool) (J : Journal) (F : Contents) (p : Place) : Type 0 where
  pub behind : IsBehindFrom (now_from x.from) x.bytes p J
  pub ranged : IsRanged J
  pub legal : LegalFrom x.settings x.from.state J
  pub stands : StandsFrom x.from F J
  pub settings : F.settings ≡ x.settings
  pub begun : IsTrue told → IsBegunFrom x.settings x.from x.records J

-- a fabric after a fault
abbrev pub Left : Scene → Bool → Contents → CheckFault → Type 0
Left x told F e = RemainsFrom x.settings x.from x.records told x.bytes F (Err e)

-- A fault of a line is the first; none of another kind comes here but one of reading and want of memory.
abbrev pub IsFound : Scene → CheckFault → Type 0
IsFound x (fault.Line line why) = IsFirstWrongFrom x.settings x.from x.records x.stop x.bytes line why
IsFound x fault.Read = Unit {0}
IsFound x fault.Memory = Unit {0}
IsFound x _ = ⊥

-- nothing happened and nothing was sent since the last drain
pub record IsIdle (F : Contents) : Type 0 where
  pub events : F.events ≡ []
  pub outs : F.outs ≡ []

-- What a step of a check leaves of a fabric: its configuration and its ports are the same; where it went well, the place in the text
-- is between two lines, the clock stands at this moment, and nothing is undrained.
pub record Advances (moment : ℕ) (F G : Contents) (text : List ℕ) (p : Place) (result : Result (Unit {0}) CheckFault) : Type 0 where
  pub settings : G.settings ≡ F.settings
  pub count : G.count ≡ F.count
  pub inside : OnOk result (IsInside text p)
  pub clock_ : OnOk result (G.state.tables.clock ≡ Some moment)
  pub idle : OnOk result (IsIdle G)

-- Where a check stands between two lines: its fabric, its place in the text, and the pages of the outputs.
pub record Spot : Type 0 where
  pub fabric : Contents
  pub place : Place
  pub pages : List (Vec ℕ Global)

abbrev pub spot_at : Contents → Place → List (Vec ℕ Global) → Spot
spot_at F p pages = record { fabric = F; place = p; pages = pages }

-- What a check of some lines comes to, from one place to another. Where the lines before are right and their journal is as it has to
-- be, the lines are right, the journal that they go on to is as promised, and the pages grew by what they send; or this is the first
-- fault. What the fabric stands for goes on likewise, whether or not the captures are known.
pub record ChecksLines (moment : ℕ) (from : Scene → Journal → Type 0) (to : Scene → Journal → Journal → Type 0) (text : List ℕ) (a b : Spot) (result : Result (Unit {0}) CheckFault) : Type 0 where
  pub checks : (x : Scene) (J : Journal) → x.bytes ≡ text → IsReached x J a.fabric a.place → from x J →
      MatchResult result (λ _. (K : Journal) × IsReached x K b.fabric b.place × to x J K × PagesGrow x.settings (length x.records) x.from J K (items_in a.pages) (items_in b.pages)) (λ e. IsFound x e)
  pub left : (x : Scene) (told : Bool) (J : Journal) → x.bytes ≡ text → IsAlong x told J a.fabric a.place → (IsTrue told → from x J) →
      MatchResult result (λ _. (K : Journal) × IsAlong x told K b.fabric b.place × (IsTrue told → to x J K)) (λ e. Left x told b.fabric e)
  pub advances : Advances moment a.fabric b.fabric text b.place result
  pub pages : length b.pages ≡ length a.pages
  pub only : IfErr result IsOfLine

-- the entries of each port are the same in two journals
abbrev pub HoldSame : Journal → Journal → Type 0
HoldSame J K = (port : ℕ) → of_port port K ≡ of_port port J

-- ---- ticks

-- a moment is the next tick, and one is expected
pub record IsTickNow (x : Scene) (J : Journal) (m : ℕ) : Type 0 where
  pub window : ℕ
  pub least : IsLeastOf (windows_left x.settings 1 x.records J) window
  pub next : IsNextTickBy x.settings (state_on x.settings x.from.state J) window m
  pub expected : expects_tick_from x.settings x.from x.records J ≡ true

-- ---- frames

-- So many records of a port's shelf have lines, and behind those that have none come only later windows.
pub record IsPortIn (x : Scene) (w : ℕ) (J : Journal) (q : ℕ) (s : Shelf) (done : ℕ) : Type 0 where
  pub records : List Record
  pub are : slice_get x.records q ≡ Some records
  pub own : AreIn x.settings w s.batch.items
  pub few : done ≤ length s.batch.items
  pub later : List Record
  pub left : left_of (q + 1) records J ≡ drop done s.batch.items ++ later
  pub from : AreFrom x.settings (w + 1) later
  pub count : length (of_port (q + 1) J) ≡ first_index s + done

-- a port's shelf and how many of its records have lines, by their place
pub record At (q : ℕ) (shelves : List Shelf) (done : List ℕ) (s : Shelf) (k : ℕ) : Type 0 where
  pub shelf : slice_get shelves q ≡ Some s
  pub done_ : slice_get done q ≡ Some k

-- the same of each port, in a window before any stop
pub record IsWindow (x : Scene) (w : ℕ) (J : Journal) (shelves : List Shelf) (done : List ℕ) : Type 0 where
  pub width : length shelves ≡ length x.records
  pub ahead : IsAhead (w + 1) x.stop
  pub ports : (q : ℕ) (s : Shelf) (k : ℕ) → At q shelves done s k → IsPortIn x w J q s k
  pub clock_ : clock_from x.settings x.from J ≡ Some w

-- the numbers of each port's frames begin so
abbrev pub Begin : Scene → List ℕ → Type 0
Begin x firsts = AreFirsts x.from.firsts firsts

-- So many records of each port's shelf have lines.
abbrev pub HasDone : Gathered → List ℕ → Scene → Journal → Type 0
HasDone g done x J = Begin x g.firsts.now × IsWindow x g.window J g.shelves.now done

-- none has yet
abbrev pub HasNone : Gathered → Scene → Journal → Type 0
HasNone g x J = HasDone g (replicate (length g.shelves.now) 0) x J

-- A check stands among the frames of a window: between two lines of the text, with nothing undrained, and at the window's moment.
pub record IsAmong (g : Gathered) (text : List ℕ) (F : Contents) (p : Place) : Type 0 where
  pub inside : IsInside text p
  pub clock_ : F.state.tables.clock ≡ Some g.window
  pub early : g.window < 2 ^ 53
  pub idle : IsIdle F
  pub few : length g.shelves.now ≤ 64
  pub count : F.count ≡ length g.shelves.now

-- The record of a port is the next one on its shelf, with this index behind those before the check; a line that tells the clock tells
-- this one.
pub record IsOnShelf (firsts : List ℕ) (shelves : List Shelf) (done : List ℕ) (w port index : ℕ) (told : Option ℕ) (r : Record) : Type 0 where
  pub place : ℕ
  pub is : port ≡ place + 1
  pub shelf : Shelf
  pub done_ : ℕ
  pub at : At place shelves done shelf done_
  pub record_ : slice_get shelf.batch.items done_ ≡ Some r
  pub number : index ≡ first_of firsts port + (first_index shelf + done_)
  pub clock_ : IfSome told (λ t. t ≡ w)

-- a line at a place is that of a tick, where none is expected, and this is its fault
pub record IsOfTick (p : Place) (l : Line) (e : CheckFault) : Type 0 where
  pub is : e ≡ fault.Line (number_behind p.format p.entries) why.Tick
  pub moment : ℕ
  pub ended : List ℕ
  pub tick : l ≡ Tick moment ended

-- a line at a place is that of a frame which no record has, and this is its fault
pub record IsOfNone (p : Place) (has : Record → Type 0) (e : CheckFault) : Type 0 where
  pub is : e ≡ fault.Line (number_behind p.format p.entries) why.Frame
  pub none : (r : Record) → has r → ⊥

-- a record of a port has no line yet
pub record HasLeftAt (shelves : List Shelf) (done : List ℕ) (q : ℕ) : Type 0 where
  pub shelf : Shelf
  pub done_ : ℕ
  pub at : At q shelves done shelf done_
  pub more : done_ < length shelf.batch.items

-- a record of some port has none
abbrev pub HasLeft : List Shelf → List ℕ → Type 0
HasLeft shelves done = (q : ℕ) × HasLeftAt shelves done q

-- each record of a port has a line
abbrev pub IsDone : List Shelf → List ℕ → ℕ → Type 0
IsDone shelves done q = (s : Shelf) (k : ℕ) → At q shelves done s k → length s.batch.items ≤ k

-- each record of every port has a line
abbrev pub AllDone : List Shelf → List ℕ → Type 0
AllDone shelves done = (q : ℕ) → IsDone shelves done q

-- ---- a frame as its line says

-- Why a frame isn't handled as its line says: its verdict isn't right over these tables, and another one is; or memory was
-- refused.
abbrev pub IsRefused : Settings → Tables → Place → ℕ → Caught → Verdict → CheckFault → Type 0
IsRefused c T p port caught verdict (fault.Line n (why.Verdict found made)) =
    (n ≡ number_behind p.format p.entries) × (found ≡ verdict) × (IsRight c T port caught found → ⊥) × IsRight c T port caught made
IsRefused c T p port caught verdict fault.Memory = Unit {0}
IsRefused c T p port caught verdict _ = ⊥

-- What a fabric stands for then: the frame is taken with the verdict that is right; where memory is refused, maybe with one.
abbrev pub HasTurned : Settings → Origin → Contents → Journal → ℕ → ℕ → Caught → CheckFault → Type 0
HasTurned c o G J port index caught (fault.Line n (why.Verdict found made)) = LegalFrom c o.state (Frame port index caught made ∷ J) × StandsFrom o G (Frame port index caught made ∷ J)
HasTurned c o G J port index caught fault.Memory = StandsFrom o G J ⊎ ((v : Verdict) × LegalFrom c o.state (Frame port index caught v ∷ J) × StandsFrom o G (Frame port index caught v ∷ J))
HasTurned c o G J port index caught _ = ⊥

-- what it is refused with
abbrev pub refusal : Place → Verdict → Misjudged → CheckFault
refusal p found (misjudged.Wrong made) = fault.Line (number_behind p.format p.entries) (why.Verdict found made)
refusal p found misjudged.Memory = fault.Memory

-- ---- a window

-- A check stands before the lines of a window: between two lines of the text, with nothing undrained, and not at a later moment.
pub record IsBefore (w : ℕ) (shelves : List Shelf) (text : List ℕ) (F : Contents) (p : Place) : Type 0 where
  pub inside : IsInside text p
  pub early : w < 2 ^ 53
  pub start : w % F.settings.window ≡ 0
  pub order : IfSome F.state.tables.clock (λ t. t ≤ w)
  pub idle : IsIdle F
  pub few : length shelves ≤ 64
  pub count : F.count ≡ length shelves

-- What is on the shelves when a window was gathered, of which no frame has a line yet: some record of the window is there.
pub record IsGathered (x : Scene) (w : ℕ) (J : Journal) (shelves : List Shelf) : Type 0 where
  pub width : length shelves ≡ length x.records
  pub ahead : IsAhead (w + 1) x.stop
  pub ports : (q : ℕ) (s : Shelf) → slice_get shelves q ≡ Some s → IsPortIn x w J q s 0
  pub some : (q : ℕ) × (s : Shelf) × (slice_get shelves q ≡ Some s) × (0 < length s.batch.items)

-- the same, with the numbers before them
abbrev pub IsNow : List ℕ → List Shelf → Scene → ℕ → Journal → Type 0
IsNow firsts shelves x w J = Begin x firsts × IsGathered x w J shelves

-- each frame on the shelves has a line
abbrev pub AreCounted : Journal → List Shelf → Type 0
AreCounted J shelves = (q : ℕ) (s : Shelf) → slice_get shelves q ≡ Some s → length (of_port (q + 1) J) ≡ first_index s + length s.batch.items
