use Rattle.fabric_tool.proofs.NumberTextLemmas.{not_short, short_parsed, short_unparsed}
use Rattle.fabric_tool.proofs.number.number_of.Goals as goal

pub returns-then-not-is_shortest : goal.returns-then-not-is_shortest
returns-then-not-is_shortest c = not_short c.args.word.now _ c.as_bytes.ensures.value c.if-not-is_shortest.ensures

pub returns-in-Ok : goal.returns-in-Ok
returns-in-Ok c = short_parsed c.args.word.now _ c.in-Ok.number c.as_bytes.ensures.value c.if-not-is_shortest.ensures c.in-Ok.ensures.value.0

pub returns-in-Err : goal.returns-in-Err
returns-in-Err c = short_unparsed c.args.word.now _ c.as_bytes.ensures.value c.if-not-is_shortest.ensures c.in-Err.ensures.value.0
