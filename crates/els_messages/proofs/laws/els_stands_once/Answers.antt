use Rattle.els_messages.specs.Els.{Other}
use Rattle.els_messages.proofs.ElsLemmas.{decoded-is, is-decoded, same_els}
use Rattle.els_messages.proofs.laws.els_stands_once.Goals as goal

pub returns-clause-read : goal.returns-clause-read
returns-clause-read c = λ v l. (is-decoded v l, decoded-is v l)

pub returns-clause-other : goal.returns-clause-other
returns-clause-other c = λ command l. (is-decoded (Other command) l, decoded-is (Other command) l)

pub returns-clause-once : goal.returns-clause-once
returns-clause-once c = same_els
