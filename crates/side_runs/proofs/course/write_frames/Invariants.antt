use Rattle.std.proofs.Common.{◌≡◌, ◌++◌, drop}
use Rattle.side_runs.specs.Course.{turn_bytes}
use Rattle.enode_core.specs.Goes.{AreSmall}
use Rattle.side_runs.proofs.course.write_frames.Given as goal

-- the file so far and the frames that are left are the whole, and those are small
abbrev pub invariant-loop-frame : goal.invariant-loop-frame
invariant-loop-frame l = record {
  small : AreSmall (drop l.frame-index l.frames);
  told : l.file.items ++ turn_bytes l.moment (drop l.frame-index l.frames) ≡ l.fn.file.items ++ turn_bytes l.moment l.frames;
}
