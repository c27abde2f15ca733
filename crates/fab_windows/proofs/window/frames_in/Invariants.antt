use Rattle.std.proofs.Common.{◌≡◌, ◌+◌, drop}
use Rattle.fab_policy.specs.Journal.{frame_count}
use Rattle.fab_windows.proofs.window.frames_in.Given as goal

abbrev pub invariant-loop-index : goal.invariant-loop-index
invariant-loop-index l = l.frames + frame_count (drop l.index l.events) ≡ frame_count l.events
