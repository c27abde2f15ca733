use Rattle.std.proofs.Common.{◌+◌, refl, sym, ◌∙◌, arith}
use Rattle.fip_codec.specs.Fip.{HEADER}
use Rattle.fip_codec.specs.Table.{named, seen}
use Rattle.fip_codec.proofs.Walks.{step-broken, step-fault, step-on, step-sound, sound_by}
use Rattle.fip_codec.proofs.reading.next.Goals as goal

pub returns-in_default-clause-fault : goal.returns-in_default-clause-fault
returns-in_default-clause-fault c =
    step-broken (named c.args.kind) c.args.list.now _ c.split_at.result.1.now c.args.done c.split_at.ensures.front c.split_at.ensures.back
    (c.in_default.ensures.broken refl (omega (arith, c.split_at.ensures.back_len)) (HEADER + c.args.done))

pub returns-in-Some-fault_of-clause-fault : goal.returns-in-Some-fault_of-clause-fault
returns-in-Some-fault_of-clause-fault c =
    let at = HEADER + c.args.done in
    step-fault (named c.args.kind) c.args.list.now _ c.split_at.result.1.now c.args.done c.split_at.ensures.front c.split_at.ensures.back
    (seen at c.in-Some.found) _ c.in-Some-fault_of.fault (c.in-Some.ensures.whole at) (sym c.fault_of.ensures ∙ c.in-Some-fault_of.is)

pub returns-in-None-clause-on : goal.returns-in-None-clause-on
returns-in-None-clause-on c =
    let at = HEADER + c.args.done in
    step-on (named c.args.kind) c.args.list.now _ c.split_at.result.1.now c.args.done c.split_at.ensures.front c.split_at.ensures.back
    (seen at c.in-Some.found) c.in-Some.field-0-1.now c.in-Some.ensures.size.0 c.in-Some.ensures.size.1 refl c.in-Some.ensures.rest.1 (omega arith) c.requires.sound
    (c.in-Some.ensures.front at) (sym c.fault_of.ensures ∙ c.in-None.is) (c.in-Some.ensures.whole at) c.in-Some.ensures.rest.0

pub returns-in-None-clause-sound : goal.returns-in-None-clause-sound
returns-in-None-clause-sound c =
    let at = HEADER + c.args.done in
    let clear = sym c.fault_of.ensures ∙ c.in-None.is in
    step-sound (named c.args.kind) c.args.list.now _ c.split_at.result.1.now c.args.done c.split_at.ensures.front c.split_at.ensures.back
    (seen at c.in-Some.found) c.in-Some.field-0-1.now c.in-Some.ensures.size.0 c.in-Some.ensures.size.1 refl c.in-Some.ensures.rest.1 (omega arith) c.requires.sound
    (c.in-Some.ensures.front at) clear
    (sound_by (named c.args.kind) _ at c.in-Some.found.kind c.in-Some.found.words c.in-Some.found.content.now c.in-Some.ensures.size.0 c.in-Some.ensures.size.1 clear)
