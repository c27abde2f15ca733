-- The laws are lemmas.
use Rattle.fab_policy.proofs.Changes.{changes_are_after, ports_stay, frame_steps, logout_steps, grant_ports, grant_past, grant_steps}
use Rattle.fab_policy.proofs.Ticks.{tick_steps, ends_of_ticks}
use Rattle.fab_policy.proofs.laws.tables_change.Goals as goal

pub returns-clause-any : goal.returns-clause-any
returns-clause-any c = changes_are_after

pub returns-clause-tick : goal.returns-clause-tick
returns-clause-tick c = tick_steps

pub returns-clause-port : goal.returns-clause-port
returns-clause-port c = ports_stay

pub returns-clause-frame : goal.returns-clause-frame
returns-clause-frame c = frame_steps

pub returns-clause-logout : goal.returns-clause-logout
returns-clause-logout c = logout_steps

pub returns-clause-grant : goal.returns-clause-grant
returns-clause-grant c = grant_steps

pub returns-clause-ports : goal.returns-clause-ports
returns-clause-ports c = grant_ports

pub returns-clause-ends : goal.returns-clause-ends
returns-clause-ends c = ends_of_ticks

pub returns-clause-past : goal.returns-clause-past
returns-clause-past c = grant_past
