-- The files of a forwarder that runs, and what writing to them keeps and leaves.
use Rattle.std.specs.Prelude.{◌≡◌, ◌≢◌, ℕ, ◌<◌, ◌⊎◌, IsTrue, List, ◌++◌, length, Some, Result, OnOk}
use Rattle.fab_base.specs.Ending as ending
use Rattle.fab_base.specs.Ending.{End, end_by, Either, Uses, HoldsSome}
use Rattle.fab_base.specs.Seen.{Seen, Nothing}
use Rattle.fab_base.specs.Slots.{name_of, NameIn}
use Rattle.run_files.specs.Outputs.{AreOutputs}
use Rattle.run_files.specs.Pages.{piece_at}
use Rattle.fab_windows.specs.Files.{AreFiles, Written, Hold, HoldFronts, Pending, file_bytes}
use Rattle.fab_live.specs.declared.files.LiveFiles.{LiveFiles}
use Rattle.fab_live.specs.declared.fault.LiveFault.{LiveFault}
use Rattle.fab_live.specs.declared.fault.LiveFault.TheVariants as fault

-- where it writes: the slot of the journal, and in port order those of what came and of what is sent
pub record LiveSlots : Type 0 where
  pub journal : ℕ
  pub ins : List ℕ
  pub outs : List ℕ

abbrev pub slots_of : LiveFiles → LiveSlots
slots_of f = record { journal = f.journal; ins = f.ins.now; outs = f.outs.now }

-- the names of all of them
abbrev pub LiveNames : Seen → LiveSlots → List ℕ → Type 0
LiveNames d f = Either (NameIn d f.ins) (Written d f.journal f.outs)

-- open outputs, all of different names
pub record AreLive (d : Seen) (f : LiveSlots) : Type 0 where
  pub files : AreFiles d f.journal f.outs
  pub ins_ : AreOutputs d f.ins
  pub apart : (m : List ℕ) → NameIn d f.ins m → ¬ Written d f.journal f.outs m

-- The captures of what came hold these bytes.
abbrev pub Came : Seen → List ℕ → (ℕ → List ℕ) → Type 0
Came d ins bytes = (q : ℕ) → q < length ins → d.file (name_of d ins q) ≡ Some (bytes q)

-- They hold beginnings of these.
abbrev pub CameSome : Seen → List ℕ → (ℕ → List ℕ) → Type 0
CameSome d ins bytes = (q : ℕ) → q < length ins → HoldsSome d (name_of d ins q) (bytes q)

-- Bytes of each port, of which one port's grew by a piece.
pub record GrowsAt (place : ℕ) (piece : List ℕ) (old new : ℕ → List ℕ) : Type 0 where
  pub here : new place ≡ old place ++ piece
  pub others : (q : ℕ) → q ≢ place → new q ≡ old q

-- what the answer of a forwarder that runs rests on, where it ends in a fault
abbrev pub live_end : LiveFault → End
live_end (fault.Block at why) = ending.Said
live_end (fault.Port face) = ending.Said
live_end (fault.Limit kind) = ending.Said
live_end fault.Read = ending.Read
live_end fault.Write = ending.Write
live_end fault.Memory = ending.Memory

-- Writing a packet: its record behind the capture of its port, and lines and pieces behind journal and outputs. Where it fails each file
-- holds a beginning of that, written in this order: what came is whole, or journal and outputs are as they were.
pub record WritesPacket (f : LiveSlots) (place : ℕ) (piece : List ℕ) (p : Pending) (old new : Seen) (result : Result (Unit {0}) LiveFault) : Type 0 where
  pub uses : Uses Nothing (LiveNames old f) (end_by live_end result) old new
  pub files : AreLive new f
  pub whole : IsTrue old.told → (l l' : List ℕ) (r r' b b' : ℕ → List ℕ) → Hold old f.journal f.outs l r → Came old f.ins b
      → l' ≡ l ++ p.lines → ((q : ℕ) → q < length f.outs → r' q ≡ r q ++ piece_at p.pieces q) → GrowsAt place piece b b'
      → OnOk result (Hold new f.journal f.outs l' r' × Came new f.ins b')
  pub front : IsTrue old.told → (l l' : List ℕ) (r r' b b' : ℕ → List ℕ) → Hold old f.journal f.outs l r → Came old f.ins b
      → l' ≡ l ++ p.lines → ((q : ℕ) → q < length f.outs → r' q ≡ r q ++ piece_at p.pieces q) → GrowsAt place piece b b'
      → HoldFronts new f.journal f.outs (file_bytes l r) (file_bytes l' r') × CameSome new f.ins b' × (Came new f.ins b' ⊎ Hold new f.journal f.outs l r)
