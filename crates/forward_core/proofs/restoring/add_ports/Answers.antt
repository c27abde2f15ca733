use Rattle.std.proofs.Common.{subst}
use Rattle.fab_state.proofs.RestoreLemmas.{fit_sound}
use Rattle.forward_core.proofs.ReloginLemmas.{PortsSoFar, can_add, ports_go_on}
use Rattle.forward_core.proofs.restoring.add_ports.Goals as goal

pub add_port-requires : goal.add_port-requires
add_port-requires c =
    let awaits = c.requires.awaits in
    let sofar = subst (λ l. PortsSoFar c.args.seam.now l c.args.roster.now c.ports.roster) c.in-Some.ensures.cases.0 c.ports.invariant in
    record { can = can_add c.args.seam.now c.in-Some.port.now c.in-Some.behind.now c.args.roster.now c.ports.roster awaits (fit_sound awaits.settings awaits.count c.args.seam.now awaits.fit) sofar }

pub ports-preserved : goal.ports-preserved
ports-preserved c =
    let awaits = c.requires.awaits in
    let sofar = subst (λ l. PortsSoFar c.args.seam.now l c.args.roster.now c.ports.roster) c.in-Some.ensures.cases.0 c.ports.invariant in
    ports_go_on c.args.seam.now c.in-Some.port.now c.in-Some.behind.now c.args.roster.now c.ports.roster awaits (fit_sound awaits.settings awaits.count c.args.seam.now awaits.fit) sofar
    c.add_port.new.roster c.add_port.ensures.change c.add_port.ensures.sound
