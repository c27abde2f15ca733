use Rattle.fab_windows.proofs.GoLemmas.{handles_by}
use Rattle.fab_windows.proofs.window.drain_window.Goals as goal

pub returns : goal.returns
returns g c =
    let drain = c.drain-drained.ensures in
    record {
      handles = handles_by c.args.window c.args.shelves.now c.args.fabric c.tick_to.new.fabric c.in_ok-fabric.fabric c.drain-drained.new.self c.drain-drained.result.events c.drain-drained.result.outs
          c.in_ok-tick_to.ensures.ticked c.in_ok-fabric.ensures.handled drain.fabric drain.events drain.outs drain.ranged;
    }
