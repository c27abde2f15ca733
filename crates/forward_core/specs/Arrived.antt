-- A frame that came on a port, and its entry. No public clause cites this module.
use Rattle.fab_base.specs.declared.values.Caught.{Caught}
use Rattle.fab_policy.specs.declared.event.Event.{Event}
use Rattle.fab_policy.specs.declared.event.Event.TheVariants.{Frame}
use Rattle.fab_policy.specs.declared.verdict.Verdict.{Verdict}
use Rattle.forward_core.specs.declared.arrived.Arrived.{Arrived}

-- the frame as it was captured
abbrev pub caught_of : Arrived → Caught
caught_of frame = frame.heard.now.caught.now

-- its entry with a verdict
abbrev pub entry_of : Arrived → Verdict → Event
entry_of frame v = Frame frame.port frame.index (caught_of frame) v
