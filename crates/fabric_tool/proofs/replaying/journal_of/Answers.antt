use Rattle.fabric_tool.proofs.JournalLemmas.{journal_unopened, journal_read, journal_unread}
use Rattle.fabric_tool.proofs.replaying.journal_of.Goals as goal

pub returns-in_default : goal.returns-in_default
returns-in_default g c = record { reads = journal_unopened c.args.name.now c.args.limit _ _ c.in_default.field-0 c.in_default.ensures.opens }

pub returns-in-Ok-read_whole : goal.returns-in-Ok-read_whole
returns-in-Ok-read_whole g c = record { reads = journal_read c.args.name.now c.args.limit c.in-Ok.slot _ _ _ c.in-Ok.ensures.opens c.in-Ok-read_whole.journal c.in-Ok-read_whole.ensures.reads c.in-Ok-read_whole.ensures.within }

pub returns-in-Err : goal.returns-in-Err
returns-in-Err g c = record { reads = journal_unread c.args.name.now c.args.limit c.in-Ok.slot _ _ _ c.in-Ok.ensures.opens c.in-Err.error c.outcome_of_error.result c.outcome_of_error.ensures c.in-Err.ensures.reads }
