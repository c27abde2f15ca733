use Rattle.std.proofs.Common.{◌++◌}
use Rattle.els_messages.specs.Els.{Accept, LoginAccept, parms_of, written}
use Rattle.els_messages.proofs.ElsLemmas.{decoded-is, decoded-written, long_accept}
use Rattle.els_messages.proofs.laws.els_reads_back.Goals as goal

pub returns-clause-back : goal.returns-clause-back
returns-clause-back c = decoded-written

pub returns-clause-accept : goal.returns-clause-accept
returns-clause-accept c = λ more long. decoded-is (LoginAccept (parms_of (written Accept ++ more))) (written Accept ++ more) (long_accept more long)
