use Rattle.fab_policy.specs.Spelling.{Spells}
use Rattle.fab_policy.specs.Private.LineWords.{IsTickOf}
use Rattle.fab_policy.specs.declared.line.Format.TheVariants.{One}
use Rattle.fab_policy.proofs.ReadingLemmas.{tick_spells, tick_spelled, tick_alone, frame_spells, frame_spelled, ok_if, fault_if}
use Rattle.fab_policy.proofs.reading.read_plain.Goals as goal

pub returns-in-Some-clause-ok : goal.returns-in-Some-clause-ok
returns-in-Some-clause-ok c =
    ok_if (IsTickOf c.in-Some.moment.now c.in-Some.rest.now) (Spells One c.args.text.now) c.read_tick.result
    (tick_spells c.args.text.now _ _ c.in-Some.moment.now c.in-Some.rest.now c.first_word.ensures c.if-is.ensures c.in-Some.ensures.some) c.read_tick.ensures.ok

pub returns-in-Some-clause-fault : goal.returns-in-Some-clause-fault
returns-in-Some-clause-fault c =
    fault_if (IsTickOf c.in-Some.moment.now c.in-Some.rest.now) (Spells One c.args.text.now) c.read_tick.result
    (tick_spelled c.args.text.now _ _ c.in-Some.moment.now c.in-Some.rest.now c.first_word.ensures c.if-is.ensures c.in-Some.ensures.some) c.read_tick.ensures.fault

pub returns-in-None-clause-fault : goal.returns-in-None-clause-fault
returns-in-None-clause-fault c = λ is l. tick_alone c.args.text.now _ _ c.first_word.ensures c.if-is.ensures c.in-None.ensures.none l

pub returns-in-Some-read_frame-clause-ok : goal.returns-in-Some-read_frame-clause-ok
returns-in-Some-read_frame-clause-ok c = frame_spells c.args.text.now _ _ c.first_word.ensures c.in-Some-read_frame.line c.in-Some-read_frame.ensures

pub returns-in-None-read_frame-clause-fault : goal.returns-in-None-read_frame-clause-fault
returns-in-None-read_frame-clause-fault c = λ is l there.
    c.in-None-read_frame.ensures l (frame_spelled c.args.text.now _ _ c.first_word.ensures (λ e. c.if-is.ensures e) l there)
