-- What the check of a piece answers: how many entries it has, that it begins before the clock, or the first fault.
use Rattle.std.specs.Prelude.{◌≡◌, ℕ, ◌+◌, ◌<◌, ◌≤◌, IfSome, IsTrue, List, ◌∷◌, Option, Some, Result, Ok, Err, slice_get}
use Rattle.fab_base.specs.Seen.{Seen, Touches, Nothing}
use Rattle.fab_base.specs.Slots.{NameIn}
use Rattle.fab_config.specs.Settings.{Settings}
use Rattle.pcap_file.specs.declared.Record.{Record}
use Rattle.fab_policy.specs.Legal.{window_start}
use Rattle.fab_policy.specs.Standing.{Contents}
use Rattle.window_records.specs.Looks.{all_records}
use Rattle.window_records.specs.declared.shelf.Shelf.{Shelf}
use Rattle.fab_replay.specs.Check.{Task, captures_in, matter_of, slots_in}
use Rattle.fab_replay.specs.CheckFrom.{ChecksFrom, LeavesFrom}
use Rattle.fab_replay.specs.FrontFrom.{Origin}
use Rattle.fab_replay.specs.declared.fault.CheckFault.{CheckFault}
use Rattle.fab_replay.specs.declared.piece.Checked.{Checked}
use Rattle.fab_replay.specs.declared.piece.Checked.TheVariants.{Right, Early}

-- where a piece goes on from: what the fabric keeps, and how many frames each port had
abbrev pub origin_of : Contents → List ℕ → Origin
origin_of F firsts = record { state = F.state; firsts = firsts }

-- The first record of a port is in a window before the clock, and that of no port before it.
pub record IsEarly (c : Settings) (clock : Option ℕ) (ins : List (List Record)) (port : ℕ) : Type 0 where
  pub place : ℕ
  pub is : port ≡ place + 1
  pub time : ℕ
  pub clock_ : clock ≡ Some time
  pub first : Record
  pub later : List Record
  pub are : slice_get ins place ≡ Some (first ∷ later)
  pub before : window_start c first.moment < time
  pub others : (q : ℕ) (r : Record) (more : List Record) → q < place → slice_get ins q ≡ Some (r ∷ more) → time ≤ window_start c r.moment

-- A piece that begins before the clock: nothing of its journal was read, the fabric is as it was, and no file is changed.
pub record BeginsEarly (k : Task) (d : Seen) (F G : Contents) (port : ℕ) : Type 0 where
  pub touches : Touches Nothing (NameIn k.start.seen (slots_in k)) k.start.seen d
  pub early : IsTrue k.start.seen.told → IsEarly k.settings k.from.state.tables.clock (all_records (captures_in k)) port
  pub same : G ≡ F

-- The check of a task ended: what it answers, and what the fabric stands for.
pub record EndsPiece (k : Task) (d : Seen) (F : Contents) (result : Result ℕ CheckFault) : Type 0 where
  pub checks : ChecksFrom k d F result
  pub leaves : LeavesFrom k.settings k.from k.start.left (matter_of k) k.start.seen.told F result

-- What is answered of a piece.
abbrev pub ChecksPiece : Task → Seen → Contents → Contents → Result Checked CheckFault → Type 0
ChecksPiece k d F G (Ok (Right entries)) = EndsPiece k d G (Ok entries)
ChecksPiece k d F G (Ok (Early port)) = BeginsEarly k d F G port
ChecksPiece k d F G (Err e) = EndsPiece k d G (Err e)

-- ---- the records that were looked at

abbrev pub IsShelfEarly : Settings → ℕ → Shelf → Type 0
IsShelfEarly c time s = (r : Record) × (s.next ≡ Some r) × (window_start c r.moment < time)

abbrev pub IsShelfLater : Settings → ℕ → Shelf → Type 0
IsShelfLater c time s = IfSome s.next (λ r. time ≤ window_start c r.moment)

-- none of these is of a window before the clock
abbrev pub AreLater : Settings → ℕ → List Shelf → Type 0
AreLater c time shelves = (q : ℕ) (s : Shelf) → slice_get shelves q ≡ Some s → IsShelfLater c time s

-- the first one that is
pub record IsFirstEarly (c : Settings) (time : ℕ) (shelves : List Shelf) (q : ℕ) : Type 0 where
  pub shelf : Shelf
  pub at : slice_get shelves q ≡ Some shelf
  pub early : IsShelfEarly c time shelf
  pub others : (p : ℕ) → p < q → (s : Shelf) → slice_get shelves p ≡ Some s → IsShelfLater c time s
