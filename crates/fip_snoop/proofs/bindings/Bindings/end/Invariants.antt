use Rattle.std.proofs.Common.{◌-◌, ◌^◌}
use Rattle.fip_snoop.specs.Maps.{is_ended_by}
use Rattle.fip_snoop.proofs.EndLemmas.{Walked}
use Rattle.fip_snoop.proofs.GrantLemmas.{ended_own}
use Rattle.fip_snoop.proofs.bindings.Bindings.end.Given as goal

abbrev pub invariant-loop-binding : goal.invariant-loop-binding
invariant-loop-binding l = Walked l.enode (is_ended_by l.enode l.ending) (ended_own l.enode l.ending) l.initial.self l.self l.from

abbrev pub decreases-loop-binding : goal.decreases-loop-binding
decreases-loop-binding l = 2 ^ 112 - l.from
