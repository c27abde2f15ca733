use Rattle.std.proofs.Common.{◌∙◌, ap}
use Rattle.keepalive_clock.specs.Clock.{VoiceClock, last_of}
use Rattle.keepalive_clock.proofs.HeardLemmas.{last_of-without, count_without}
use Rattle.keepalive_clock.proofs.clock.KeepClock.forget.Goals as goal

pub returns-clause-last : goal.returns-clause-last
returns-clause-last c = λ w. ap (λ (d : VoiceClock). last_of w d.voices) c.remove_voice.ensures.voices ∙ last_of-without c.args.voice c.args.self.now.voices w

pub returns-clause-count : goal.returns-clause-count
returns-clause-count c = rw c.remove_voice.ensures.voices (count_without c.args.voice c.args.self.now.voices c.remove_voice.ensures.was_sound.differ)
