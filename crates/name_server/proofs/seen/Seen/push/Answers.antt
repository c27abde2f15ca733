use Rattle.std.proofs.Common.{arith}
use Rattle.fab_base.proofs.KeyedLemmas.{AscendFrom-push}
use Rattle.name_server.specs.Registry.{seen_address}
use Rattle.name_server.proofs.seen.Seen.push.Goals as goal

pub invariant_of-self-2 : goal.invariant_of-self-2
invariant_of-self-2 c =
    rw c.in_ok-push.ensures.items (AscendFrom-push seen_address c.args.port 0 c.self.inside.ports.items c.self.invariant (rw (← c.self.view_is) at c.requires.above) (omega arith))

pub returns-clause-ascending : goal.returns-clause-ascending
returns-clause-ascending c =
    rw c.in_ok-push.ensures.items (AscendFrom-push seen_address c.args.port 0 c.self.inside.ports.items c.self.invariant (rw (← c.self.view_is) at c.requires.above) (omega arith))
