use Rattle.fab_shared.specs.Shared.{opened}
use Rattle.fab_shared.proofs.Closing.{closes}
use Rattle.fab_shared.proofs.shared.SharedFabric.close.Goals as goal

pub returns : goal.returns
returns c =
    let e = c.close-fabric.ensures in
    closes (opened c.args.self) c.close-fabric.result.fabric c.args.root e.history.0 e.grown e.history.1 e.history.2 e.seen
