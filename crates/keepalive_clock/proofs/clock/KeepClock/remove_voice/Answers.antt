use Rattle.std.proofs.Common.{◌≡◌, ℕ, ◌∙◌, List, ap, sym, refl, subst, Some, None, is_some}
use Rattle.slab.specs.Slab.{get}
use Rattle.fab_base.specs.Keyed as keyed
use Rattle.fab_base.proofs.KeyedLemmas.{without-absent}
use Rattle.sorted_lists.specs.Orders.{seen, AreSorted}
use Rattle.sorted_lists.proofs.IndexLemmas.{key_found}
use Rattle.keepalive_clock.specs.Clock.{VoiceClock, IsSound, without}
use Rattle.keepalive_clock.specs.Order.{number_of, voice_number}
use Rattle.keepalive_clock.specs.declared.voice.LastHeard.{LastHeard}
use Rattle.keepalive_clock.proofs.HeardLemmas.{is_some-last}
use Rattle.keepalive_clock.proofs.KeptLemmas.{sound_kept, kept_without, seen_without, found_number, without_number}
use Rattle.keepalive_clock.proofs.clock.KeepClock.remove_voice.Goals as goal

pub order_find-requires : goal.order_find-requires
order_find-requires c = subst (AreSorted voice_number c.self.inside.records) (sym c.deref.ensures.value) c.self.invariant.voices.sorted

here : (c : goal.After-remove) → get c.self.inside.records c.in-Some.place ≡ Some c.remove.result
here c = c.remove.ensures.value

found : (c : goal.After-remove) → keyed.item_at voice_number (number_of c.args.voice.now) (seen c.self.inside.records c.self.inside.by_voice.items) ≡ Some c.remove.result
found c = sym (rw (c.deref.ensures.value, c.number-number.ensures.value) at c.in-Some.ensures.some) ∙ here c

number : (c : goal.After-remove) → voice_number c.remove.result ≡ number_of c.args.voice.now
number c = key_found voice_number (number_of c.args.voice.now) c.remove.result _ (found c)

gone : (c : goal.After-remove) → seen c.remove.new.self c.order_take-in-Some.new.places.items ≡ keyed.without voice_number (voice_number c.remove.result) (seen c.self.inside.records c.self.inside.by_voice.items)
gone c = seen_without c.self.invariant c.in-Some.place c.remove.result c.remove.new.self c.order_take-in-Some.new.places c.order_take.new.places c.order_take-in-Some.ensures.but c.order_take.ensures.but
    (c.order_take-in-Some.ensures.items c.remove.result (here c)) c.remove.ensures.updates

spoken : (c : goal.After-remove) → seen c.remove.new.self c.order_take-in-Some.new.places.items ≡ without c.args.voice.now (seen c.self.inside.records c.self.inside.by_voice.items)
spoken c =
    gone c ∙ ap (λ (k : ℕ). keyed.without voice_number k (seen c.self.inside.records c.self.inside.by_voice.items)) (number c)
    ∙ sym (without_number c.args.voice.now (seen c.self.inside.records c.self.inside.by_voice.items) c.number-number.ensures.whole c.self.invariant.fit)

absent : (c : goal.In-None) → keyed.item_at voice_number (number_of c.args.voice.now) (seen c.self.inside.records c.self.inside.by_voice.items) ≡ None
absent c = rw (c.deref.ensures.value, c.number-number.ensures.value) at c.in-None.ensures.none

pub invariant_of-self : goal.invariant_of-self
invariant_of-self c =
    kept_without c.self.invariant c.in-Some.place c.remove.result c.remove.new.self c.order_take-in-Some.new.places c.order_take.new.places c.order_take-in-Some.ensures.but c.order_take.ensures.but
    (c.order_take-in-Some.ensures.items c.remove.result (here c)) c.remove.ensures.updates c.remove.ensures.len c.remove.ensures.capacity c.order_take-in-Some.ensures.capacity c.order_take.ensures.capacity

pub returns-in-Some-clause-there : goal.returns-in-Some-clause-there
returns-in-Some-clause-there c =
    rw (← c.self.view_is) (sym (is_some-last _ ∙ ap is_some (found_number c.args.voice.now (seen c.self.inside.records c.self.inside.by_voice.items) c.number-number.ensures.whole c.self.invariant.fit ∙ found c)))

pub returns-in-Some-clause-voices : goal.returns-in-Some-clause-voices
returns-in-Some-clause-voices c = rw (spoken c, ← c.self.view_is) refl

pub returns-in-Some-clause-sound : goal.returns-in-Some-clause-sound
returns-in-Some-clause-sound c = sound_kept (invariant_of-self c)

pub returns-in-Some-clause-was_sound : goal.returns-in-Some-clause-was_sound
returns-in-Some-clause-was_sound c = subst IsSound c.self.view_is (sound_kept c.self.invariant)

pub returns-in-None-clause-there : goal.returns-in-None-clause-there
returns-in-None-clause-there c =
    rw (← c.self.view_is) (sym (is_some-last _ ∙ ap is_some (found_number c.args.voice.now (seen c.self.inside.records c.self.inside.by_voice.items) c.number-number.ensures.whole c.self.invariant.fit ∙ absent c)))

pub returns-in-None-clause-voices : goal.returns-in-None-clause-voices
returns-in-None-clause-voices c =
    let xs = seen c.self.inside.records c.self.inside.by_voice.items in
    subst (λ (d : VoiceClock). d ≡ record d { voices = without c.args.voice.now d.voices }) c.self.view_is
    (ap (λ (l : List LastHeard). record { node_period = c.self.inside.order.node_period; port_period = c.self.inside.order.port_period; room = c.self.inside.room; voices = l })
    (sym (without_number c.args.voice.now xs c.number-number.ensures.whole c.self.invariant.fit ∙ without-absent voice_number (number_of c.args.voice.now) xs (absent c))))

pub returns-in-None-clause-sound : goal.returns-in-None-clause-sound
returns-in-None-clause-sound c = subst IsSound c.self.view_is (sound_kept c.self.invariant)

pub returns-in-None-clause-was_sound : goal.returns-in-None-clause-was_sound
returns-in-None-clause-was_sound c = subst IsSound c.self.view_is (sound_kept c.self.invariant)
