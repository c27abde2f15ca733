use Rattle.std.proofs.Common.{sym, ◌∙◌}
use Rattle.pcap_file.proofs.HeadLemmas.{open_done, open_failed}
use Rattle.pcap_file.proofs.reader.Reader.open.Goals as goal

pub returns-in-Ok-read : goal.returns-in-Ok-read
returns-in-Ok-read g c = record {
  opens = open_done c.args.slot _ _ _ c.pull.new.self c.pull.new.into c.in-Ok.got c.args.budget.now c.pull.auto.into c.new-ahead.ensures c.in-Ok.ensures.pulls c.if-budget.false c.in-Ok-read.head (sym c.in-Ok-read.is ∙ c.read.ensures.exact);
}

pub returns-in-Err-read : goal.returns-in-Err-read
returns-in-Err-read g c = record {
  opens = open_failed c.args.slot _ _ _ c.pull.new.self c.pull.new.into c.in-Ok.got c.args.budget.now c.pull.auto.into c.new-ahead.ensures c.in-Ok.ensures.pulls c.if-budget.false c.in-Err-read.fault (sym c.in-Err-read.is ∙ c.read.ensures.exact);
}
