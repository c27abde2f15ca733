-- What is still to be written to the journal and to the outputs, in pages.
use Rattle.std.specs.Prelude.{◌≡◌, ℕ, ◌<◌, ◌⊎◌, Bool, ◌||◌, [], List, length, Ok, Err}
use Rattle.fab_base.specs.Seen.{Seen}
use Rattle.fab_base.specs.declared.values.Failed.{Failed}
use Rattle.run_files.specs.declared.fault.RunFault.{RunFault}
use Rattle.run_files.specs.declared.fault.RunFault.TheVariants as fault
use Rattle.run_files.specs.Pages as outputs
use Rattle.run_files.specs.Pages.{items_in, piece_at, FULL, is_full, has_full}
use Rattle.fab_windows.specs.Files.{Pending, Writes}
use Rattle.fab_windows.specs.declared.pages.Pages.{Pages}

-- what the pages hold
abbrev pub pending : Pages → Pending
pending p = record { lines = p.lines.items; pieces = items_in p.records.items }

-- nothing is still to be written
pub record IsNothing (p : Pending) : Type 0 where
  pub lines_ : p.lines ≡ []
  pub pieces_ : (q : ℕ) → piece_at p.pieces q ≡ []

-- a page is so long that all are written: the lines, or those of a port
abbrev pub are_full : Pages → Bool
are_full p = is_full p.lines.items || has_full p.records.items

-- what is still to be written is below that: the lines, and each piece
pub record AreShort (p : Pending) : Type 0 where
  pub lines_ : length p.lines < FULL
  pub pieces_ : outputs.AreShort p.pieces

-- It was written before the end by a fault; where it couldn't be, that is the fault.
abbrev pub FlushedFor : ℕ → List ℕ → Pending → Seen → Seen → RunFault → RunFault → Type 0
FlushedFor journal outs p a b e result =
    (Writes journal outs p.lines p.pieces a b (Ok tt) × (result ≡ e))
    ⊎ ((f : Failed) × Writes journal outs p.lines p.pieces a b (Err f) × (result ≡ fault.Write))
