use Rattle.std.proofs.Common.{subst, arith}
use Rattle.std.proofs.Math.Facts.{Fits-of_lt}
use Rattle.keepalive_clock.specs.Clock.{IsSound}
use Rattle.keepalive_clock.proofs.KeptLemmas.{sound_kept}
use Rattle.keepalive_clock.proofs.DueLemmas.{last_there, first_silence, due_range, silent_by_voice, none_due}
use Rattle.keepalive_clock.proofs.clock.KeepClock.due.Goals as goal

pub index-requires : goal.index-requires
index-requires c = last_there c.self.invariant c.in-Some.place.now (rw c.deref.ensures.value at c.in-Some.ensures.value)

pub overflow_cast-result : goal.overflow_cast-result
overflow_cast-result c = Fits-of_lt (omega (arith, c.due.ensures.moment, due_range c.self.invariant c.in-Some.place.now c.index.result.now (rw c.deref.ensures.value at c.in-Some.ensures.value) c.index.ensures))

pub returns-in-Some-clause-first : goal.returns-in-Some-clause-first
returns-in-Some-clause-first c =
    rw (← c.self.view_is, c.due.ensures.moment) (first_silence c.self.invariant c.in-Some.place.now c.index.result.now (rw c.deref.ensures.value at c.in-Some.ensures.value) c.index.ensures)

pub returns-in-Some-clause-silent : goal.returns-in-Some-clause-silent
returns-in-Some-clause-silent c = silent_by_voice c.args.self.now (subst IsSound c.self.view_is (sound_kept c.self.invariant)).differ

pub returns-in-Some-clause-sound : goal.returns-in-Some-clause-sound
returns-in-Some-clause-sound c = subst IsSound c.self.view_is (sound_kept c.self.invariant)

pub returns-in-None-clause-first : goal.returns-in-None-clause-first
returns-in-None-clause-first c = rw (← c.self.view_is) (none_due c.self.invariant (rw c.deref.ensures.value at c.in-None.ensures.value))

pub returns-in-None-clause-silent : goal.returns-in-None-clause-silent
returns-in-None-clause-silent c = silent_by_voice c.args.self.now (subst IsSound c.self.view_is (sound_kept c.self.invariant)).differ

pub returns-in-None-clause-sound : goal.returns-in-None-clause-sound
returns-in-None-clause-sound c = subst IsSound c.self.view_is (sound_kept c.self.invariant)
