use Rattle.std.proofs.Common.{ap}
use Rattle.heard_frames.specs.View.{view}
use Rattle.fip_snoop.proofs.KnownLemmas.{known_as}
use Rattle.fip_snoop.proofs.snoop.Snoop.remember.Goals as goal

pub returns-in-Down-clause-known : goal.returns-in-Down-clause-known
returns-in-Down-clause-known c known =
    c.deliver.ensures.known (known_as c.args.port (ap view c.in-Fip.is) c.in-Down.is c.self.view_is known)
