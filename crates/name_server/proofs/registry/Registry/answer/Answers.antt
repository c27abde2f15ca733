use Rattle.name_server.proofs.SeenLemmas.{known-some}
use Rattle.name_server.proofs.PlaceLemmas.{sound_places}
use Rattle.name_server.proofs.registry.Registry.answer.Goals as goal

pub answer_of-requires-clause-seen : goal.answer_of-requires-clause-seen
answer_of-requires-clause-seen c = record { entered = rw c.ports.ensures.ports c.requires.entered; ascending = c.ports.ensures.ascending }

pub answer_of-requires-clause-some : goal.answer_of-requires-clause-some
answer_of-requires-clause-some c = rw c.ports.ensures.ports (known-some c.args._asker c.args.self.now.entries c.args.seen.now c.requires.entered c.requires.asker)

pub returns-clause-sound : goal.returns-clause-sound
returns-clause-sound c = rw (← c.self.view_is) (sound_places c.self.invariant)
