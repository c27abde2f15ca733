use Rattle.std.proofs.Common.{◌-◌, arith}
use Rattle.pcapng_file.proofs.PassingLemmas.{sixteen, second_cut, last_cut, last_there}
use Rattle.pcapng_file.proofs.passing.second_length.Goals as goal

pub returns-then-branch-middle : goal.returns-then-branch-middle
returns-then-branch-middle g c = record {
  second = second_cut c.args.slot _ _ c.args.ahead.now c.skip.new.ahead c.args.front.now c.args.head c.requires.front (c.args.head.size - 12 - 4) (sixteen c.args.head.size c.requires.size.0 c.requires.size.1 c.if-size-eq-HEAD.false) c.in_ok-skip.field-0 c.in_ok-skip.ensures.skips (omega arith);
}

pub returns-then-branch-lt4 : goal.returns-then-branch-lt4
returns-then-branch-lt4 g c = record {
  second = last_cut c.args.slot _ _ c.args.ahead.now c.skip.new.ahead c.args.front.now c.args.head c.requires.front (c.args.head.size - 12 - 4) (sixteen c.args.head.size c.requires.size.0 c.requires.size.1 c.if-size-eq-HEAD.false) _ c.pull.new.self c.pull.new.into c.requires.input c.pull.auto.into c.in_ok-skip.field-0 c.in_ok-skip.ensures.skips (omega arith) c.in_ok-pull.field-0 c.in_ok-pull.ensures.pulls (omega arith);
}

pub returns : goal.returns
returns g c = record {
  second = last_there c.args.slot _ _ c.args.ahead.now c.skip.new.ahead c.args.front.now c.args.head c.requires.front (c.args.head.size - 12 - 4) (sixteen c.args.head.size c.requires.size.0 c.requires.size.1 c.if-size-eq-HEAD.false) _ c.pull.new.self c.pull.new.into c.requires.input c.pull.auto.into c.in_ok-skip.field-0 c.in_ok-skip.ensures.skips (omega arith) c.in_ok-pull.field-0 c.in_ok-pull.ensures.pulls (omega arith) c.number_at-2.result c.number_at-2.ensures;
}
