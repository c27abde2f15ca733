use Rattle.std.proofs.Common.{◌∙◌, ap, sym, subst, option_map}
use Rattle.sorted_lists.specs.Orders.{seen, AreSorted}
use Rattle.keepalive_clock.specs.Clock.{IsSound}
use Rattle.keepalive_clock.specs.Order.{voice_number}
use Rattle.keepalive_clock.proofs.KeptLemmas.{sound_kept, found_number}
use Rattle.keepalive_clock.proofs.clock.KeepClock.last.Goals as goal

pub order_find-requires : goal.order_find-requires
order_find-requires c = subst (AreSorted voice_number c.self.inside.records) (sym c.deref.ensures.value) c.self.invariant.voices.sorted

pub returns-in-Some-clause-moment : goal.returns-in-Some-clause-moment
returns-in-Some-clause-moment c =
    let found = rw (c.deref.ensures.value, c.number-number.ensures.value) at c.in-Some.ensures.some in
    rw (← c.self.view_is) (ap (option_map (λ x. x.last)) (sym c.index.ensures ∙ found ∙ sym (found_number c.args.voice.now (seen c.self.inside.records c.self.inside.by_voice.items) c.number-number.ensures.whole c.self.invariant.fit)))

pub returns-in-Some-clause-sound : goal.returns-in-Some-clause-sound
returns-in-Some-clause-sound c = subst IsSound c.self.view_is (sound_kept c.self.invariant)

pub returns-in-None-clause-moment : goal.returns-in-None-clause-moment
returns-in-None-clause-moment c =
    let none = rw (c.deref.ensures.value, c.number-number.ensures.value) at c.in-None.ensures.none in
    rw (← c.self.view_is) (ap (option_map (λ x. x.last)) (sym (found_number c.args.voice.now (seen c.self.inside.records c.self.inside.by_voice.items) c.number-number.ensures.whole c.self.invariant.fit ∙ none)))

pub returns-in-None-clause-sound : goal.returns-in-None-clause-sound
returns-in-None-clause-sound c = subst IsSound c.self.view_is (sound_kept c.self.invariant)
