use Rattle.std.proofs.Common.{◌≡◌, ◌-◌, length, vec_len, arith}
use Rattle.pcap_file.proofs.lemmas.Numbers.{none_is}
use Rattle.pcap_file.proofs.CollectLemmas.{collected_none, collected_all, collect_step, collect_ended}
use Rattle.pcap_file.proofs.ahead.Ahead.collect.Goals as goal

pub loop-self-init : goal.loop-self-init
loop-self-init g c =
    let sized : vec_len c.args.into.now ≡ length c.args.into.now.items = c.args.into.now.ok.0 in
    record { collected = collected_none _ _ _ _ (none_is _ (omega (arith, sized, c.requires.empty))); bound = omega (arith, c.requires.empty); room = c.requires.room }

pub hand-requires : goal.hand-requires
hand-requires g c = let i = c.loop-self.invariant in record { room = omega (arith, c.len-in-loop-self.ensures, i.room, i.bound) }

pub loop-self-smaller : goal.loop-self-smaller
loop-self-smaller g c =
    let i = c.loop-self.invariant in
    omega (arith, c.hand.ensures.len, c.if-hand-eq0.false, c.len.ensures, c.loop-self-test.true)

pub loop-self-preserved : goal.loop-self-preserved
loop-self-preserved g c =
    let i = c.loop-self.invariant in
    let given = c.hand.ensures in
    record {
      collected = collect_step c.args.slot _ _ _ c.loop-self.into.items c.args.self.now c.loop-self.self c.ready.new.self c.requires.input i.collected c.in_ok-ready.ensures.refills c.hand.result c.hand.new.into.items c.hand.new.self given.front given.rest;
      bound = omega (arith, given.len, given.count, i.bound, c.len-in-loop-self.ensures);
      room = omega (arith, given.capacity, i.room);
    }

pub returns-after-loop-self : goal.returns-after-loop-self
returns-after-loop-self g c =
    let i = c.loop-self.invariant in
    let sized : vec_len c.loop-self.into ≡ length c.loop-self.into.items = c.loop-self.into.ok.0 in
    record { collects = collected_all c.args.slot c.args.count _ _ c.loop-self.into.items _ _ i.collected (omega (arith, sized, i.bound)) (omega (arith, sized, c.len.ensures, c.loop-self-test.false)) }

pub returns-then-hand-eq0 : goal.returns-then-hand-eq0
returns-then-hand-eq0 g c =
    let i = c.loop-self.invariant in
    let given = c.hand.ensures in
    let sized : vec_len c.hand.new.into ≡ length c.hand.new.into.items = c.hand.new.into.ok.0 in
    record {
      collects = collect_ended c.args.slot _ _ _ c.loop-self.into.items c.args.self.now c.loop-self.self c.ready.new.self c.requires.input i.collected c.args.count c.in_ok-ready.ensures.refills c.hand.result (c.args.count - c.len-in-loop-self.result) c.hand.new.into.items c.hand.new.self c.if-hand-eq0.true given.count
          (omega (arith, c.len-in-loop-self.ensures, c.len.ensures, c.loop-self-test.true)) given.front given.rest (omega (arith, sized, given.len, given.count, i.bound, c.len-in-loop-self.ensures));
    }
