use Rattle.std.proofs.Common.{◌≡◌, ◌-◌, Ok, length}
use Rattle.fab_replay.specs.Steps.{ChecksLines, HasDone, HasNone, spot_at}
use Rattle.fab_replay.proofs.frames.check_frames.Given as goal

abbrev pub invariant-lines : goal.invariant-lines
invariant-lines l =
    let g = l.gathered in
    record {
      lines : ChecksLines g.window (HasNone g) (λ x J. HasDone g l.done x) l.journal (spot_at l.fn.fabric l.fn.place l.fn.pages) (spot_at l.fabric l.place l.pages) (Ok tt);
      width : length l.done ≡ length g.shelves.now;
    }

abbrev pub decreases-lines : goal.decreases-lines
decreases-lines l = length l.journal - l.place.at
