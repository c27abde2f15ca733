use Rattle.std.proofs.Common.{◌-◌, ◌<◌, ap, length, length-drop, arith}
use Rattle.std.proofs.lemmas.List.{take_rest}
use Rattle.fab_base.proofs.Depots.{length-put_mid}
use Rattle.pcap_file.proofs.PullLemmas.{pull_step, pull_ended}
use Rattle.pcap_file.proofs.ahead.Ahead.pull.Goals as goal

pub loop-got-preserved : goal.loop-got-preserved
loop-got-preserved g c =
    let i = c.loop-got.invariant in
    let given = c.give-count.ensures in
    let sized = length-put_mid c.loop-got.got c.loop-got.into c.give-count.new.into i.bound c.give-count.auto.into in
    record {
      pulled = pull_step c.args.slot c.loop-got.got _ _ _ c.loop-got.into c.args.self.now c.loop-got.self c.ready.new.self c.requires i.pulled c.in_ok-ready.ensures.refills c.give-count.result (length c.loop-got.into - c.loop-got.got) c.give-count.new.into c.give-count.new.self (omega (arith, c.loop-got-test.true))
          (omega (arith, given.count)) sized (omega (arith, given.count, c.give-count.auto.into)) given.front given.rest;
      bound = omega (arith, sized, given.count, c.give-count.auto.into, ap length (take_rest c.loop-got.into c.loop-got.got), length-drop c.loop-got.got c.loop-got.into);
    }

pub returns-then-count-eq0 : goal.returns-then-count-eq0
returns-then-count-eq0 g c =
    let i = c.loop-got.invariant in
    let given = c.give-count.ensures in
    let sized = length-put_mid c.loop-got.got c.loop-got.into c.give-count.new.into i.bound c.give-count.auto.into in
    let room : 0 < length c.give-count.new.into = omega (arith, c.give-count.auto.into, ap length (take_rest c.loop-got.into c.loop-got.got), length-drop c.loop-got.got c.loop-got.into) in
    record {
      pulls = pull_ended c.args.slot c.loop-got.got _ _ _ c.loop-got.into c.args.self.now c.loop-got.self c.ready.new.self c.requires i.pulled c.in_ok-ready.ensures.refills c.give-count.result (length c.loop-got.into - c.loop-got.got) c.give-count.new.into c.give-count.new.self (omega (arith, c.loop-got-test.true)) sized c.if-count-eq0.true
          (omega (arith, given.count, c.give-count.auto.into)) room given.front given.rest;
    }
