use Rattle.std.proofs.Common.{◌∙◌, ap, sym}
use Rattle.name_server.proofs.PlaceLemmas.{entry_in, entry_found, place_is, place_none, sound_places}
use Rattle.name_server.proofs.registry.Registry.find.Goals as goal

pub returns-in-Some-clause-entry : goal.returns-in-Some-clause-entry
returns-in-Some-clause-entry c =
    rw (← c.self.view_is) (c.get.ensures ∙ sym (entry_found c.self.invariant c.args.address ∙ ap (entry_in c.self.inside.entries) (place_is c.self.invariant c.args.address _ _ c.in-Some.place c.place_of.ensures c.deref.ensures.value c.in-Some.is)))

pub returns-in-Some-clause-sound : goal.returns-in-Some-clause-sound
returns-in-Some-clause-sound c = rw (← c.self.view_is) (sound_places c.self.invariant)

pub returns-in-None-clause-entry : goal.returns-in-None-clause-entry
returns-in-None-clause-entry c = rw (← c.self.view_is) (sym (place_none c.self.invariant c.args.address _ _ c.place_of.ensures c.deref.ensures.value c.in-None.is))

pub returns-in-None-clause-sound : goal.returns-in-None-clause-sound
returns-in-None-clause-sound c = rw (← c.self.view_is) (sound_places c.self.invariant)
