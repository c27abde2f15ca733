use Rattle.fab_policy.specs.Spelling.{Spells}
use Rattle.fab_policy.specs.Private.LineWords.{IsTickOf}
use Rattle.fab_policy.specs.declared.line.Format.TheVariants.{Two}
use Rattle.fab_policy.proofs.ReadingLemmas.{clock_alone, clocked_tick_spells, clocked_tick_spelled, no_clock, clocked_frame_spells, clocked_frame_spelled, ok_if, fault_if}
use Rattle.fab_policy.proofs.reading.read_clocked.Goals as goal

pub returns-in_default-clause-fault : goal.returns-in_default-clause-fault
returns-in_default-clause-fault c = λ is l. clock_alone c.args.text.now _ _ c.first_word.ensures c.in_default.ensures.none l

pub returns-then-is-clause-ok : goal.returns-then-is-clause-ok
returns-then-is-clause-ok c =
    ok_if (IsTickOf c.first_word.result.0.now c.in-Some.rest.now) (Spells Two c.args.text.now) c.read_tick.result
    (clocked_tick_spells c.args.text.now c.first_word.result.0.now _ _ c.in-Some.rest.now c.first_word.ensures c.in-Some.ensures.some c.if-is.ensures) c.read_tick.ensures.ok

pub returns-then-is-clause-fault : goal.returns-then-is-clause-fault
returns-then-is-clause-fault c =
    fault_if (IsTickOf c.first_word.result.0.now c.in-Some.rest.now) (Spells Two c.args.text.now) c.read_tick.result
    (clocked_tick_spelled c.args.text.now c.first_word.result.0.now _ _ c.in-Some.rest.now c.first_word.ensures c.in-Some.ensures.some c.if-is.ensures) c.read_tick.ensures.fault

pub returns-in_default-read_number-clause-fault : goal.returns-in_default-read_number-clause-fault
returns-in_default-read_number-clause-fault c = λ is l.
    no_clock c.args.text.now _ _ _ _ c.first_word.ensures c.in-Some.ensures.some c.in_default-read_number.ensures l

pub returns-in-Some-read_frame-clause-ok : goal.returns-in-Some-read_frame-clause-ok
returns-in-Some-read_frame-clause-ok c =
    clocked_frame_spells c.args.text.now _ _ _ _ c.in-Some-read_number.clock c.first_word.ensures c.in-Some.ensures.some c.in-Some-read_number.ensures c.in-Some-read_frame.line c.in-Some-read_frame.ensures

pub returns-in-None-clause-fault : goal.returns-in-None-clause-fault
returns-in-None-clause-fault c = λ is l there.
    c.in-None.ensures l
    (clocked_frame_spelled c.args.text.now _ _ _ _ c.in-Some-read_number.clock c.first_word.ensures c.in-Some.ensures.some (λ e. c.if-is.ensures e) c.in-Some-read_number.ensures l there)
