use Rattle.std.proofs.Common.{◌≡◌, drop}
use Rattle.fab_state.specs.Fitting.{has_other_voice}
use Rattle.fab_state.proofs.logins.has_other_voice.Given as goal

abbrev pub invariant-loop-other : goal.invariant-loop-other
invariant-loop-other l = has_other_voice l.fn.port (drop l.other-index l.ports) ≡ has_other_voice l.fn.port l.ports
