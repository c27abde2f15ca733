use Rattle.fab_state.proofs.ReadLemmas.{is_parsed, parsed_is}
use Rattle.fab_state.proofs.words.value_of.Goals as goal

pub returns-in-Ok : goal.returns-in-Ok
returns-in-Ok c n small e = parsed_is c.in-Ok.value n c.args.text.now small e c.in-Ok.ensures.value.0

pub returns-in-Err : goal.returns-in-Err
returns-in-Err c n small e = absurd (is_parsed n c.args.text.now small e c.in-Err.ensures.value.0)
