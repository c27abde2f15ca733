use Rattle.std.proofs.Common.{◌≡◌, ◌∙◌, sym, subst, arith, Some}
use Rattle.slab.specs.Slab.{get}
use Rattle.fab_base.specs.Keyed as keyed
use Rattle.sorted_lists.specs.Orders.{seen, AreSorted}
use Rattle.sorted_lists.proofs.IndexLemmas.{key_found}
use Rattle.sorted_lists.proofs.OrderLemmas.{some_is}
use Rattle.keepalive_clock.specs.Clock.{without}
use Rattle.keepalive_clock.specs.Order.{number_of, voice_number}
use Rattle.keepalive_clock.specs.declared.voice.LastHeard.{LastHeard}
use Rattle.keepalive_clock.proofs.VoiceLemmas.{number-same}
use Rattle.keepalive_clock.proofs.KeptLemmas as lemmas
use Rattle.keepalive_clock.proofs.KeptLemmas.{sound_kept, length_kept, voices_heard, last_heard, count_heard, room_absent}
use Rattle.keepalive_clock.proofs.clock.KeepClock.heard.Goals as goal
use Rattle.keepalive_clock.proofs.clock.KeepClock.heard.Goals.{After-hear_again, After-order_put-in-None}

pub order_find-requires : goal.order_find-requires
order_find-requires c = subst (AreSorted voice_number c.self.inside.records) (sym c.deref.ensures.value) c.self.invariant.voices.sorted

-- ---- heard again

-- the record of the voice
was : (c : After-hear_again) → (x : LastHeard) × (get c.self.inside.records c.in-Some.place ≡ Some x)
was c = some_is (get c.self.inside.records c.in-Some.place) c.in-Some.ensures.there

alike : (c : After-hear_again) → (was c).0.voice ≡ c.args.voice
alike c =
    let (x, here) = was c in
    let found = sym (rw (c.deref.ensures.value, c.number-number.ensures.value) at c.in-Some.ensures.some) ∙ here in
    number-same x.voice c.args.voice (lemmas.fits_here c.self.invariant c.in-Some.place x here).0 c.number-number.ensures.whole (key_found voice_number (number_of c.args.voice) x _ found)

again : (c : After-hear_again) → seen c.hear_again.new.records c.self.inside.by_voice.items
    ≡ keyed.added voice_number (record { voice = c.args.voice; last = c.args.now }) (without c.args.voice (seen c.self.inside.records c.self.inside.by_voice.items))
again c =
    let (x, here) = was c in
    lemmas.seen_again c.self.invariant c.in-Some.place c.args.now x c.requires.range here c.hear_again.new.records (c.hear_again.ensures.updates x here) c.args.voice (alike c)

pub hear_again-requires : goal.hear_again-requires
hear_again-requires c = record {
  order = c.self.invariant.deadlines;
  there = c.in-Some.ensures.there;
  apart = λ x here. lemmas.apart_again c.self.invariant c.in-Some.place c.args.now x c.requires.range here;
}

pub invariant_of-self : goal.invariant_of-self
invariant_of-self c =
    let (x, here) = was c in
    lemmas.kept_again c.self.invariant c.in-Some.place c.args.now x c.requires.range here c.hear_again.new.records (c.hear_again.ensures.updates x here) c.hear_again.new.by_due c.hear_again.ensures.order c.hear_again.ensures.len c.hear_again.ensures.room c.hear_again.ensures.capacity

pub returns-in-Some-clause-voices : goal.returns-in-Some-clause-voices
returns-in-Some-clause-voices c =
    rw (again c, ← c.self.view_is) (voices_heard (record { voice = c.args.voice; last = c.args.now }) (c.number-number.ensures.whole, c.requires.range) (seen c.self.inside.records c.self.inside.by_voice.items) c.self.invariant.voices.sorted.ascending c.self.invariant.fit)

pub returns-in-Some-clause-count : goal.returns-in-Some-clause-count
returns-in-Some-clause-count c =
    rw (again c, ← c.self.view_is) (count_heard (record { voice = c.args.voice; last = c.args.now }) (c.number-number.ensures.whole, c.requires.range) (seen c.self.inside.records c.self.inside.by_voice.items) c.self.invariant.voices.sorted.ascending c.self.invariant.fit)

pub returns-in-Some-clause-sound : goal.returns-in-Some-clause-sound
returns-in-Some-clause-sound c = sound_kept (invariant_of-self c)

pub returns-in-Some-clause-last : goal.returns-in-Some-clause-last
returns-in-Some-clause-last c =
    rw (again c, ← c.self.view_is) (last_heard (record { voice = c.args.voice; last = c.args.now }) (c.number-number.ensures.whole, c.requires.range) (seen c.self.inside.records c.self.inside.by_voice.items) c.self.invariant.voices.sorted.ascending c.self.invariant.fit)

-- ---- heard first

pub insert_reserved-place-requires : goal.insert_reserved-place-requires
insert_reserved-place-requires c = omega (arith, lemmas.room_kept c.self.invariant (record { voice = c.args.voice; last = c.args.now }) (c.number-number.ensures.whole, c.requires.range) (rw (c.deref.ensures.value, c.number-number.ensures.value) at c.in-None.ensures.none) (rw (← c.self.view_is) at c.requires.room), c.self.invariant.voices.count, c.self.invariant.room)

pub order_put-requires-clause-but : goal.order_put-requires-clause-but
order_put-requires-clause-but c =
    let i = c.insert_reserved-place in
    lemmas.voice_filled c.self.invariant i.result (record { voice = c.args.voice; last = c.args.now }) i.new.self (c.number-number.ensures.whole, c.requires.range) (rw (c.deref.ensures.value, c.number-number.ensures.value) at c.in-None.ensures.none) i.ensures.was_vacant i.ensures.updates i.ensures.len

pub order_put-requires-clause-absent : goal.order_put-requires-clause-absent
order_put-requires-clause-absent c =
    let i = c.insert_reserved-place in
    lemmas.new_voice c.self.invariant i.result (record { voice = c.args.voice; last = c.args.now }) i.new.self (c.number-number.ensures.whole, c.requires.range) (rw (c.deref.ensures.value, c.number-number.ensures.value) at c.in-None.ensures.none) i.ensures.was_vacant i.ensures.updates i.ensures.len

pub order_put-requires-clause-room : goal.order_put-requires-clause-room
order_put-requires-clause-room c = omega (arith, lemmas.room_kept c.self.invariant (record { voice = c.args.voice; last = c.args.now }) (c.number-number.ensures.whole, c.requires.range) (rw (c.deref.ensures.value, c.number-number.ensures.value) at c.in-None.ensures.none) (rw (← c.self.view_is) at c.requires.room), c.self.invariant.voice_room)

pub order_put-requires-in-None-clause-but : goal.order_put-requires-in-None-clause-but
order_put-requires-in-None-clause-but c =
    let i = c.insert_reserved-place in
    lemmas.due_filled c.self.invariant i.result (record { voice = c.args.voice; last = c.args.now }) i.new.self (c.number-number.ensures.whole, c.requires.range) (rw (c.deref.ensures.value, c.number-number.ensures.value) at c.in-None.ensures.none) i.ensures.was_vacant i.ensures.updates i.ensures.len

pub order_put-requires-in-None-clause-absent : goal.order_put-requires-in-None-clause-absent
order_put-requires-in-None-clause-absent c =
    let i = c.insert_reserved-place in
    lemmas.new_due c.self.invariant i.result (record { voice = c.args.voice; last = c.args.now }) i.new.self (c.number-number.ensures.whole, c.requires.range) (rw (c.deref.ensures.value, c.number-number.ensures.value) at c.in-None.ensures.none) i.ensures.was_vacant i.ensures.updates i.ensures.len

pub order_put-requires-in-None-clause-room : goal.order_put-requires-in-None-clause-room
order_put-requires-in-None-clause-room c = omega (arith, lemmas.room_kept c.self.invariant (record { voice = c.args.voice; last = c.args.now }) (c.number-number.ensures.whole, c.requires.range) (rw (c.deref.ensures.value, c.number-number.ensures.value) at c.in-None.ensures.none) (rw (← c.self.view_is) at c.requires.room), c.self.invariant.due_room, c.self.invariant.deadlines.count, c.self.invariant.voices.count)

first : (c : After-order_put-in-None) → seen c.insert_reserved-place.new.self c.order_put.new.places.items
    ≡ keyed.added voice_number (record { voice = c.args.voice; last = c.args.now }) (without c.args.voice (seen c.self.inside.records c.self.inside.by_voice.items))
first c =
    let i = c.insert_reserved-place in
    lemmas.seen_added c.self.invariant i.result (record { voice = c.args.voice; last = c.args.now }) i.new.self (c.number-number.ensures.whole, c.requires.range) (rw (c.deref.ensures.value, c.number-number.ensures.value) at c.in-None.ensures.none) i.ensures.was_vacant i.ensures.updates i.ensures.len
    c.order_put.new.places c.order_put-in-None.new.places c.order_put.ensures.order c.order_put-in-None.ensures.order (c.order_put.ensures.items (record { voice = c.args.voice; last = c.args.now }) i.ensures.updates.changed)

pub invariant_of-self-in-None : goal.invariant_of-self-in-None
invariant_of-self-in-None c =
    let i = c.insert_reserved-place in
    lemmas.kept_added c.self.invariant i.result (record { voice = c.args.voice; last = c.args.now }) i.new.self (c.number-number.ensures.whole, c.requires.range) (rw (c.deref.ensures.value, c.number-number.ensures.value) at c.in-None.ensures.none) i.ensures.was_vacant i.ensures.updates i.ensures.len
    c.order_put.new.places c.order_put-in-None.new.places c.order_put.ensures.order c.order_put-in-None.ensures.order (c.order_put.ensures.items (record { voice = c.args.voice; last = c.args.now }) i.ensures.updates.changed)
    (lemmas.room_kept c.self.invariant (record { voice = c.args.voice; last = c.args.now }) (c.number-number.ensures.whole, c.requires.range) (rw (c.deref.ensures.value, c.number-number.ensures.value) at c.in-None.ensures.none) (rw (← c.self.view_is) at c.requires.room)) i.ensures.capacity c.order_put.ensures.capacity c.order_put-in-None.ensures.capacity

pub returns-in-None-clause-voices : goal.returns-in-None-clause-voices
returns-in-None-clause-voices c =
    rw (first c, ← c.self.view_is) (voices_heard (record { voice = c.args.voice; last = c.args.now }) (c.number-number.ensures.whole, c.requires.range) (seen c.self.inside.records c.self.inside.by_voice.items) c.self.invariant.voices.sorted.ascending c.self.invariant.fit)

pub returns-in-None-clause-count : goal.returns-in-None-clause-count
returns-in-None-clause-count c =
    rw (first c, ← c.self.view_is) (count_heard (record { voice = c.args.voice; last = c.args.now }) (c.number-number.ensures.whole, c.requires.range) (seen c.self.inside.records c.self.inside.by_voice.items) c.self.invariant.voices.sorted.ascending c.self.invariant.fit)

pub returns-in-None-clause-sound : goal.returns-in-None-clause-sound
returns-in-None-clause-sound c = sound_kept (invariant_of-self-in-None c)

pub returns-in-None-clause-last : goal.returns-in-None-clause-last
returns-in-None-clause-last c =
    rw (first c, ← c.self.view_is) (last_heard (record { voice = c.args.voice; last = c.args.now }) (c.number-number.ensures.whole, c.requires.range) (seen c.self.inside.records c.self.inside.by_voice.items) c.self.invariant.voices.sorted.ascending c.self.invariant.fit)
