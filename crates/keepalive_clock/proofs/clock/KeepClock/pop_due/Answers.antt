use Rattle.std.proofs.Common.{◌≡◌, true, is_some, ◌+◌, sym, subst, ◌∙◌, ap, arith, if◌then◌else◌, length}
use Rattle.keepalive_clock.specs.Clock.{VoiceClock, IsSound, last_of}
use Rattle.keepalive_clock.proofs.HeardLemmas.{last_of-without, count_without}
use Rattle.keepalive_clock.proofs.KeptLemmas.{sound_kept}
use Rattle.keepalive_clock.proofs.DueLemmas.{last_there, none_silent, silent_from, silent_voice, is_there}
use Rattle.keepalive_clock.proofs.clock.KeepClock.pop_due.Goals as goal

pub index-requires : goal.index-requires
index-requires g c = last_there c.self.invariant c.in-Some.place.now (rw c.deref.ensures.value at c.in-Some.ensures.value)

pub returns-then-due-now-clause-some : goal.returns-then-due-now-clause-some
returns-then-due-now-clause-some g c =
    let last = rw c.deref.ensures.value at c.in-Some.ensures.value in
    rw (← c.self.view_is) (sym (none_silent c.self.invariant c.in-Some.place.now c.index.result.now last c.index.ensures c.args.now (omega (arith, c.if-due-now.true, c.due.ensures.moment, c.now.view_is))))

pub returns-then-due-now-clause-sound : goal.returns-then-due-now-clause-sound
returns-then-due-now-clause-sound g c = subst IsSound c.self.view_is (sound_kept c.self.invariant)

pub returns-clause-some : goal.returns-clause-some
returns-clause-some g c =
    let last = rw c.deref.ensures.value at c.in-Some.ensures.value in
    rw (← c.self.view_is) (sym (silent_from c.self.invariant c.in-Some.place.now c.index.result.now last c.index.ensures c.args.now (omega (arith, c.if-due-now.false, c.due.ensures.moment, c.now.view_is))))

pub returns-clause-silent : goal.returns-clause-silent
returns-clause-silent g c =
    let last = rw c.deref.ensures.value at c.in-Some.ensures.value in
    rw (← c.self.view_is) (silent_voice c.self.invariant c.in-Some.place.now c.index.result.now last c.index.ensures c.args.now (omega (arith, c.if-due-now.false, c.due.ensures.moment, c.now.view_is)))

pub returns-clause-last : goal.returns-clause-last
returns-clause-last g c = λ w. ap (λ (d : VoiceClock). last_of w d.voices) c.remove_voice.ensures.voices ∙ last_of-without c.index.result.now.voice c.args.self.now.voices w

pub returns-clause-count : goal.returns-clause-count
returns-clause-count g c =
    let last = rw c.deref.ensures.value at c.in-Some.ensures.value in
    let there = subst (λ (d : VoiceClock). is_some (last_of c.index.result.now.voice d.voices) ≡ true) c.self.view_is (is_there c.self.invariant c.in-Some.place.now c.index.result.now last c.index.ensures) in
    let xs = c.args.self.now.voices in
    rw c.remove_voice.ensures.voices (sym (count_without c.index.result.now.voice xs c.remove_voice.ensures.was_sound.differ ∙ ap (λ b. if b then length xs else length xs + 1) there))
