use Rattle.pcapng_file.proofs.PassingLemmas.{over_length, over_done}
use Rattle.pcapng_file.proofs.passing.pass_over.Goals as goal

pub returns-then-size-head : goal.returns-then-size-head
returns-then-size-head g c = rw c.fault.ensures (record {
  passes = over_length c.args.slot _ _ _ _ c.args.front.now c.args.head c.args.at c.requires.other c.in-Ok-Some.size c.in-Ok-Some.field-0 c.in-Ok-Some.field-0-is c.in-Ok-Some.ensures.second c.if-size-head.true;
})

pub returns-else-size-head : goal.returns-else-size-head
returns-else-size-head g c = record {
  passes = over_done c.args.slot _ _ _ _ c.args.front.now c.args.head c.args.at c.requires.other c.in-Ok-Some.size c.in-Ok-Some.field-0 c.in-Ok-Some.field-0-is c.in-Ok-Some.ensures.second c.if-size-head.false;
}
