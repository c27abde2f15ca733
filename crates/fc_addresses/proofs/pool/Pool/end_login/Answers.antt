use Rattle.std.proofs.Common.{ℕ, is_some, ◌-◌, ◌<◌, length, get_or, Option, Some, ◌∙◌, ap, arith, refl, sym}
use mathlib.Core.Bool.{false≢true}
use Rattle.std.proofs.lemmas.List.{get_or_default}
use Rattle.fab_base.specs.Fabric.{Past, past_at}
use Rattle.fc_addresses.specs.Pool.{ended_at, addresses}
use Rattle.fc_addresses.specs.Holders.{nobody}
use Rattle.fc_addresses.specs.declared.pool.Holder.{Holder}
use Rattle.fc_addresses.proofs.PoolLemmas.{held_place, changed_pool, found-changed, places-changed}
use Rattle.fc_addresses.proofs.KeptLemmas.{new_owner, new_release, owner_room, line_room, kept_ended, held_is}
use Rattle.fc_addresses.proofs.pool.Pool.end_login.Goals as goal

pub overflow_sub-place : goal.overflow_sub-place
overflow_sub-place c = omega (arith, (held_place _ c.self.inside.first c.self.inside.holders.items c.self.view_is c.args.address c.requires).0, c.value.ensures.value)

pub index-holder-requires : goal.index-holder-requires
index-holder-requires c = omega (arith, (held_place _ c.self.inside.first c.self.inside.holders.items c.self.view_is c.args.address c.requires).1, c.value.ensures.value, c.self.inside.holders.ok.0)

pub unreachable-requires : goal.unreachable-requires
unreachable-requires c =
    let held = held_place _ c.self.inside.first c.self.inside.holders.items c.self.view_is c.args.address c.requires in
    let place = c.value.result - c.self.inside.first in
    let within : place < length c.self.inside.holders.items = omega (arith, held.1, c.value.ensures.value) in
    let read = c.index-holder.ensures ∙ get_or_default c.self.inside.holders.items place c.index-holder.result.now nobody within in
    let at = ap (λ (a : ℕ). get_or c.self.inside.holders.items (a - c.self.inside.first) nobody) c.value.ensures.value in
    false≢true (sym (ap (λ (n : Option ℕ). is_some n) (ap (λ (z : Holder). z.name) (sym at ∙ sym read) ∙ c.in_default.is)) ∙ held.2)

pub index_mut-requires : goal.index_mut-requires
index_mut-requires c = omega (arith, (held_place _ c.self.inside.first c.self.inside.holders.items c.self.view_is c.args.address c.requires).1, c.value.ensures.value, c.self.inside.holders.ok.0)

pub rank_put-requires-clause-absent : goal.rank_put-requires-clause-absent
rank_put-requires-clause-absent c =
    let held = held_place _ c.self.inside.first c.self.inside.holders.items c.self.view_is c.args.address c.requires in
    let place = c.value.result - c.self.inside.first in
    let within : place < length c.self.inside.holders.items = omega (arith, held.1, c.value.ensures.value) in
    let read = c.index-holder.ensures ∙ get_or_default c.self.inside.holders.items place c.index-holder.result.now nobody within in
    let was = held_is (get_or c.self.inside.holders.items place nobody) c.index-holder.result.now c.in-Some.name read c.in-Some.is (ap (λ (a : ℕ). (get_or c.self.inside.holders.items (a - c.self.inside.first) nobody).ended) c.value.ensures.value ∙ held.3) in
    rw c.new.ensures.value (new_owner c.self.invariant place within c.in-Some.name c.args.end was)

pub rank_put-requires-clause-range : goal.rank_put-requires-clause-range
rank_put-requires-clause-range c = c.new.ensures.range

pub rank_put-requires-clause-room : goal.rank_put-requires-clause-room
rank_put-requires-clause-room c =
    let held = held_place _ c.self.inside.first c.self.inside.holders.items c.self.view_is c.args.address c.requires in
    let place = c.value.result - c.self.inside.first in
    let within : place < length c.self.inside.holders.items = omega (arith, held.1, c.value.ensures.value) in
    let read = c.index-holder.ensures ∙ get_or_default c.self.inside.holders.items place c.index-holder.result.now nobody within in
    let was = held_is (get_or c.self.inside.holders.items place nobody) c.index-holder.result.now c.in-Some.name read c.in-Some.is (ap (λ (a : ℕ). (get_or c.self.inside.holders.items (a - c.self.inside.first) nobody).ended) c.value.ensures.value ∙ held.3) in
    owner_room c.self.invariant place within c.in-Some.name c.args.end was

pub rank_put-requires-2-clause-absent : goal.rank_put-requires-2-clause-absent
rank_put-requires-2-clause-absent c =
    let held = held_place _ c.self.inside.first c.self.inside.holders.items c.self.view_is c.args.address c.requires in
    let place = c.value.result - c.self.inside.first in
    let within : place < length c.self.inside.holders.items = omega (arith, held.1, c.value.ensures.value) in
    let read = c.index-holder.ensures ∙ get_or_default c.self.inside.holders.items place c.index-holder.result.now nobody within in
    let was = held_is (get_or c.self.inside.holders.items place nobody) c.index-holder.result.now c.in-Some.name read c.in-Some.is (ap (λ (a : ℕ). (get_or c.self.inside.holders.items (a - c.self.inside.first) nobody).ended) c.value.ensures.value ∙ held.3) in
    new_release c.self.invariant place within c.in-Some.name c.args.end was

pub rank_put-requires-2-clause-room : goal.rank_put-requires-2-clause-room
rank_put-requires-2-clause-room c =
    let held = held_place _ c.self.inside.first c.self.inside.holders.items c.self.view_is c.args.address c.requires in
    let place = c.value.result - c.self.inside.first in
    let within : place < length c.self.inside.holders.items = omega (arith, held.1, c.value.ensures.value) in
    let read = c.index-holder.ensures ∙ get_or_default c.self.inside.holders.items place c.index-holder.result.now nobody within in
    let was = held_is (get_or c.self.inside.holders.items place nobody) c.index-holder.result.now c.in-Some.name read c.in-Some.is (ap (λ (a : ℕ). (get_or c.self.inside.holders.items (a - c.self.inside.first) nobody).ended) c.value.ensures.value ∙ held.3) in
    line_room c.self.invariant place within c.in-Some.name c.args.end was

pub invariant_of-self : goal.invariant_of-self
invariant_of-self c =
    let held = held_place _ c.self.inside.first c.self.inside.holders.items c.self.view_is c.args.address c.requires in
    let place = c.value.result - c.self.inside.first in
    let within : place < length c.self.inside.holders.items = omega (arith, held.1, c.value.ensures.value) in
    let read = c.index-holder.ensures ∙ get_or_default c.self.inside.holders.items place c.index-holder.result.now nobody within in
    let was = held_is (get_or c.self.inside.holders.items place nobody) c.index-holder.result.now c.in-Some.name read c.in-Some.is (ap (λ (a : ℕ). (get_or c.self.inside.holders.items (a - c.self.inside.first) nobody).ended) c.value.ensures.value ∙ held.3) in
    rw (c.rank_put.ensures.items, c.rank_put-2.ensures.items, c.rank_put.ensures.capacity, c.rank_put-2.ensures.capacity, c.new.ensures.value) (kept_ended c.self.invariant place within c.in-Some.name c.args.end was)

pub returns-clause-pool : goal.returns-clause-pool
returns-clause-pool c =
    let held = held_place _ c.self.inside.first c.self.inside.holders.items c.self.view_is c.args.address c.requires in
    let place = c.value.result - c.self.inside.first in
    let within : place < length c.self.inside.holders.items = omega (arith, held.1, c.value.ensures.value) in
    let read = c.index-holder.ensures ∙ get_or_default c.self.inside.holders.items place c.index-holder.result.now nobody within in
    let F : Past → Past = ended_at c.args.end in
    let named = ap (λ (z : Holder). z.name) (sym read) ∙ c.in-Some.is in
    let at = ap (λ (a : ℕ). (get_or c.self.inside.holders.items (a - c.self.inside.first) nobody).name) c.value.ensures.value in
    rw c.value.ensures.value
    (changed_pool _ c.self.inside.first c.self.inside.holders.items c.self.view_is F c.args.address (record { name = Some c.in-Some.name; ended = Some c.args.end }) nobody held.0 held.1
    (ap (λ (n : Option ℕ). record { address = c.args.address; name = n; ended = Some c.args.end }) (sym named ∙ at)))

pub returns-clause-found : goal.returns-clause-found
returns-clause-found c = λ b. ap (past_at b) (returns-clause-pool c) ∙ found-changed (ended_at c.args.end) (λ p. refl) c.args.address b c.args.self.now

pub returns-clause-places : goal.returns-clause-places
returns-clause-places c = ap addresses (returns-clause-pool c) ∙ places-changed (ended_at c.args.end) (λ p. refl) c.args.address c.args.self.now
