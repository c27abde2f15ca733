use Rattle.std.proofs.Common.{arith}
use Rattle.fab_policy.proofs.ReadLemmas.{port_found}
use Rattle.fab_policy.proofs.words.read_port.Goals as goal

pub returns-in-Some : goal.returns-in-Some
returns-in-Some c = port_found c.args.word.now c.in-Some.number c.port_of.result c.in-Some.ensures c.port_of.ensures

pub returns-in-None : goal.returns-in-None
returns-in-None c = λ p port. c.in-None.ensures p (omega (arith, port.1), port.2)
