use Rattle.els_messages.specs.Els.{view}
use Rattle.els_messages.proofs.ElsLemmas.{decoded-written, frame_payload, length-written, stands_written}
use Rattle.els_messages.proofs.writing.write_els.Goals as goal

pub returns-clause-grammar : goal.returns-clause-grammar
returns-clause-grammar c = stands_written (view c.args.els.now) c.requires c.bytes_of-bytes.ensures.typed

pub returns-clause-back : goal.returns-clause-back
returns-clause-back c = λ more may. decoded-written (view c.args.els.now) more c.requires c.bytes_of-bytes.ensures.typed may

pub returns-clause-size : goal.returns-clause-size
returns-clause-size c = length-written (view c.args.els.now) c.bytes_of-bytes.ensures.typed

pub returns-clause-payload : goal.returns-clause-payload
returns-clause-payload c = frame_payload (view c.args.els.now) c.requires c.bytes_of-bytes.ensures.typed
