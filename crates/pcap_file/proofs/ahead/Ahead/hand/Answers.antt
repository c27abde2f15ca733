use Rattle.std.proofs.Common.{◌∙◌, ap, drop}
use Rattle.pcap_file.proofs.PullLemmas.{window_rest}
use Rattle.pcap_file.proofs.ahead.Ahead.hand.Goals as goal

pub returns-clause-rest : goal.returns-clause-rest
returns-clause-rest c = window_rest c.self.inside.bytes c.self.inside.from c.self.inside.to c.if-held-most.count ∙ ap (drop c.if-held-most.count) c.self.view_is
