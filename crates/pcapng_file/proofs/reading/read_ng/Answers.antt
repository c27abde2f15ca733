use Rattle.std.proofs.Common.{arith, refl, ◌-◌}
use Rattle.pcapng_file.proofs.GoingLemmas.{going_none, going_failed, going_full, going_on}
use Rattle.pcapng_file.proofs.reading.read_ng.Goals as goal

pub loop-next-init : goal.loop-next-init
loop-next-init g c = record {
  going = going_none c.args.slot c.args.budget.now _ c.new-ahead.result c.new-section.result _ c.in-Ok.records c.new-ahead.ensures c.new-section.ensures (omega arith) c.in-Ok.ensures;
  budget = refl;
}

pub returns-in-Err : goal.returns-in-Err
returns-in-Err g c =
    let i = c.loop-next.invariant in
    record { reads = going_failed c.args.slot c.args.budget.now _ _ _ c.loop-next.ahead c.next_block.new.ahead c.loop-next.section c.loop-next.left _ c.loop-next.records c.requires.input i.going c.loop-next.budget c.in-Err.error i.budget c.in-Err.ensures.reads }

pub returns-in-Err-take : goal.returns-in-Err-take
returns-in-Err-take g c =
    let i = c.loop-next.invariant in
    record { reads = going_full c.args.slot c.args.budget.now _ _ _ c.loop-next.ahead c.next_block.new.ahead c.loop-next.section c.loop-next.left _ c.loop-next.records c.requires.input i.going c.loop-next.budget _ i.budget c.in-Ok-next_block.ensures.reads }

pub loop-next-preserved : goal.loop-next-preserved
loop-next-preserved g c =
    let i = c.loop-next.invariant in
    record {
      going = going_on c.args.slot c.args.budget.now _ _ _ c.loop-next.ahead c.next_block.new.ahead c.loop-next.section c.loop-next.left _ c.loop-next.records c.requires.input i.going c.in-Ok-next_block.next c.in-Some.block c.in-Some.is c.in-Ok-next_block.ensures.reads c.take.new.section c.take.new.records (record { bytes = c.loop-next.left.bytes - c.in-Some.block.size; frames = c.loop-next.left.frames - c.frames.result }) c.in-Ok-take.ensures.section c.in-Ok-take.ensures.records (λ i. record { bytes = c.loop-next.left.bytes - c.in-Some.block.size; frames = c.loop-next.left.frames - c.frames.ensures.value i });
      budget = i.budget;
    }
