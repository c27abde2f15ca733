use Rattle.fab_policy.proofs.ReadingLemmas.{push_read, all_read, none_left, no_address_left}
use Rattle.fab_policy.proofs.reading.read_addresses.Goals as goal

pub returns-in_default-address_from-clause-fault : goal.returns-in_default-address_from-clause-fault
returns-in_default-address_from-clause-fault c = λ is l.
    no_address_left c.args.text.now c.words.ended c.words.rest.now _ _ c.words.least c.words.invariant c.in-Some.ensures.some c.in_default-address_from.ensures l

pub words-preserved : goal.words-preserved
words-preserved c =
    push_read c.args.text.now c.words.ended c.push.new.self c.words.rest.now _ _ c.words.least c.in-Some-address_from.address c.value-least.result c.words.invariant c.in-Some.ensures.some c.in-Some-address_from.ensures
    c.in-Ok-push.ensures.ok c.value-least.ensures.value

pub returns-then-is_end-clause-ok : goal.returns-then-is_end-clause-ok
returns-then-is_end-clause-ok c = all_read c.args.text.now c.words.ended c.words.rest.now c.words.least c.words.invariant c.if-is_end.ensures

pub returns-else-is_end-clause-fault : goal.returns-else-is_end-clause-fault
returns-else-is_end-clause-fault c = λ is l.
    none_left c.args.text.now c.words.ended c.words.rest.now c.words.least c.words.invariant c.in_default-next_word.ensures.none c.if-is_end.ensures l
