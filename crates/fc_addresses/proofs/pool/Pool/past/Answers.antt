use Rattle.std.proofs.Common.{subst, sym, refl, arith, ap, ◌∙◌, ◌≤◌, length, Some}
use Rattle.std.proofs.lemmas.Option.{slice_get_read}
use Rattle.std.proofs.lemmas.Bool.Decides.{nat_tests}
use Rattle.fab_base.specs.Fabric.{Past}
use Rattle.fc_addresses.specs.Pool.{IsSound}
use Rattle.fc_addresses.proofs.PoolLemmas.{past-below, past-place, past-past_end, sound_places}
use Rattle.fc_addresses.proofs.pool.Pool.past.Goals as goal

pub returns-in_default-clause-past : goal.returns-in_default-clause-past
returns-in_default-clause-past c = sym (past-below _ c.self.inside.first c.self.inside.holders.items c.self.view_is _ (omega arith))

pub returns-in-Some-get-clause-past : goal.returns-in-Some-get-clause-past
returns-in-Some-get-clause-past c =
    let lookup = rw c.deref.ensures.value at c.in-Some-get.ensures.lookup in
    let at = slice_get_read c.self.inside.holders.items _ c.in-Some.place _ refl (grind (arith, nat_tests, lookup.0)) lookup.1 in
    ap (λ (p : Past). Some p) c.past.ensures ∙ sym (past-place _ c.self.inside.first c.self.inside.holders.items c.self.view_is _ c.in-Some.place _ (omega arith) at)

pub returns-in-None-clause-past : goal.returns-in-None-clause-past
returns-in-None-clause-past c =
    let lookup = rw c.deref.ensures.value at c.in-None.ensures.lookup in
    let past : length c.self.inside.holders.items ≤ c.in-Some.place = grind (arith, nat_tests, lookup.0) in
    sym (past-past_end _ c.self.inside.first c.self.inside.holders.items c.self.view_is _ c.in-Some.place (omega arith) past)

pub returns-in_default-clause-sound : goal.returns-in_default-clause-sound
returns-in_default-clause-sound c = subst IsSound c.self.view_is (sound_places c.self.inside.first c.self.inside.holders.items c.self.invariant.range)

pub returns-in-Some-get-clause-sound : goal.returns-in-Some-get-clause-sound
returns-in-Some-get-clause-sound c = subst IsSound c.self.view_is (sound_places c.self.inside.first c.self.inside.holders.items c.self.invariant.range)

pub returns-in-None-clause-sound : goal.returns-in-None-clause-sound
returns-in-None-clause-sound c = subst IsSound c.self.view_is (sound_places c.self.inside.first c.self.inside.holders.items c.self.invariant.range)
