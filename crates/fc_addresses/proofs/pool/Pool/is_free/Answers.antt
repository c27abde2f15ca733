use Rattle.std.proofs.Common.{subst, sym, refl, arith, ◌∙◌, ◌≤◌, length}
use Rattle.std.proofs.lemmas.Option.{slice_get_read}
use Rattle.std.proofs.lemmas.Bool.Decides.{nat_tests}
use Rattle.fc_addresses.specs.Pool.{IsSound}
use Rattle.fc_addresses.proofs.PoolLemmas.{free-below, free-place, free-past_end, sound_places}
use Rattle.fc_addresses.proofs.pool.Pool.is_free.Goals as goal

pub returns-in_default-clause-free : goal.returns-in_default-clause-free
returns-in_default-clause-free c = sym (free-below _ c.self.inside.first c.self.inside.holders.items c.self.view_is _ _ _ (omega arith))

pub returns-in-Some-get-clause-free : goal.returns-in-Some-get-clause-free
returns-in-Some-get-clause-free c =
    let lookup = rw c.deref.ensures.value at c.in-Some-get.ensures.lookup in
    let at = slice_get_read c.self.inside.holders.items _ c.in-Some.place _ refl (grind (arith, nat_tests, lookup.0)) lookup.1 in
    c.may_be_followed.ensures ∙ sym (free-place _ c.self.inside.first c.self.inside.holders.items c.self.view_is _ _ _ c.in-Some.place _ (omega arith) at)

pub returns-in-None-clause-free : goal.returns-in-None-clause-free
returns-in-None-clause-free c =
    let lookup = rw c.deref.ensures.value at c.in-None.ensures.lookup in
    let past : length c.self.inside.holders.items ≤ c.in-Some.place = grind (arith, nat_tests, lookup.0) in
    sym (free-past_end _ c.self.inside.first c.self.inside.holders.items c.self.view_is _ _ _ c.in-Some.place (omega arith) past)

pub returns-in_default-clause-sound : goal.returns-in_default-clause-sound
returns-in_default-clause-sound c = subst IsSound c.self.view_is (sound_places c.self.inside.first c.self.inside.holders.items c.self.invariant.range)

pub returns-in-Some-get-clause-sound : goal.returns-in-Some-get-clause-sound
returns-in-Some-get-clause-sound c = subst IsSound c.self.view_is (sound_places c.self.inside.first c.self.inside.holders.items c.self.invariant.range)

pub returns-in-None-clause-sound : goal.returns-in-None-clause-sound
returns-in-None-clause-sound c = subst IsSound c.self.view_is (sound_places c.self.inside.first c.self.inside.holders.items c.self.invariant.range)
