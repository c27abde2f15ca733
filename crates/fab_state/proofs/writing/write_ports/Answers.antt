use Rattle.std.proofs.Common.{◌≡◌, ◌∙◌, ◌<◌, length, arith, ap, subst, sym, List}
use Rattle.fab_policy.specs.State.{LivePort}
use Rattle.fab_pieces.specs.Seam.{login_row}
use Rattle.fab_state.proofs.WriteLemmas.{rows_more}
use Rattle.fab_state.proofs.writing.write_ports.Goals as goal

pub loop-port-preserved : goal.loop-port-preserved
loop-port-preserved c =
    rows_more login_row c.args.ports.now c.items-port-items.result.now c.loop-port.port-index c.port-item.result c.loop-port.out.items c.write_login.new.out.items _
    c.items-port-items.ensures (omega arith) c.port-item.is c.loop-port.invariant c.in_ok-write_login.ensures
