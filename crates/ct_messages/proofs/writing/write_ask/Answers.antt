use Rattle.ct_messages.specs.Ct.{view}
use Rattle.ct_messages.proofs.Words.{length-written}
use Rattle.ct_messages.proofs.writing.write_ask.Goals as goal

pub returns-clause-words : goal.returns-clause-words
returns-clause-words c = length-written (view c.args.ask.now)
