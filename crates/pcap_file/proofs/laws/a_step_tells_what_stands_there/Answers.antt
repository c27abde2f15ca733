use Rattle.pcap_file.proofs.lemmas.Steps.{step_tells, told_step}
use Rattle.pcap_file.proofs.laws.a_step_tells_what_stands_there.Goals as goal

pub returns : goal.returns
returns c = λ budget at x step. (step_tells budget at x step, told_step budget at x step)
