use Rattle.std.proofs.Common.{◌-◌, ◌<◌, length, subst, sym, ◌∙◌, ap, arith, refl, Some, None}
use Rattle.std.proofs.lemmas.List.{get_or_default}
use Rattle.fc_addresses.specs.Pool.{is_open, held, addresses, HoldsAddress}
use Rattle.fc_addresses.specs.Holders.{nobody, owner_number, end_number, owner_of, release_of, left}
use Rattle.fc_addresses.specs.declared.pool.Holder.{Holder}
use Rattle.fc_addresses.proofs.PoolLemmas.{place_of_past, changed_pool, found-taken, places-changed}
use Rattle.fc_addresses.proofs.KeptLemmas.{kept_taken}
use Rattle.fc_addresses.proofs.pool.Pool.take.Goals as goal

pub overflow_sub-place : goal.overflow_sub-place
overflow_sub-place c =
    let place = place_of_past _ c.self.inside.first c.self.inside.holders.items c.self.view_is (is_open c.args.name c.args.now) c.args.address c.requires.free in
    omega (arith, place.0, c.value.ensures.value)

pub index-last-requires : goal.index-last-requires
index-last-requires c =
    let place = place_of_past _ c.self.inside.first c.self.inside.holders.items c.self.view_is (is_open c.args.name c.args.now) c.args.address c.requires.free in
    omega (arith, place.1, c.value.ensures.value, c.self.inside.holders.ok.0)

pub index_mut-requires : goal.index_mut-requires
index_mut-requires c =
    let place = place_of_past _ c.self.inside.first c.self.inside.holders.items c.self.view_is (is_open c.args.name c.args.now) c.args.address c.requires.free in
    omega (arith, place.1, c.value.ensures.value, c.self.inside.holders.ok.0)

pub clear-requires : goal.clear-requires
clear-requires c =
    let place = place_of_past _ c.self.inside.first c.self.inside.holders.items c.self.view_is (is_open c.args.name c.args.now) c.args.address c.requires.free in
    omega (arith, place.1, c.self.invariant.wide, c.value.ensures.value)

pub invariant_of-self : goal.invariant_of-self
invariant_of-self c =
    let place = place_of_past _ c.self.inside.first c.self.inside.holders.items c.self.view_is (is_open c.args.name c.args.now) c.args.address c.requires.free in
    let within : c.value.result - c.self.inside.first < length c.self.inside.holders.items = omega (arith, place.1, c.value.ensures.value) in
    let last = c.index-last.ensures ∙ get_or_default c.self.inside.holders.items (c.value.result - c.self.inside.first) c.index-last.result.now nobody within in
    let owners = c.unlist.ensures.owners ∙ ap (λ (h : Holder). left owner_number (owner_of (c.value.result - c.self.inside.first) h) c.self.inside.owners.items) last in
    let line = c.unlist.ensures.line ∙ ap (λ (h : Holder). left end_number (release_of (c.value.result - c.self.inside.first) h) c.self.inside.line.items) last in
    rw (owners, line, c.unlist.ensures.owner_room, c.unlist.ensures.line_room) (kept_taken c.self.invariant (c.value.result - c.self.inside.first) within c.args.name c.clear.new.self c.clear.ensures.bits c.clear.ensures.words)

pub returns-clause-pool : goal.returns-clause-pool
returns-clause-pool c =
    let place = place_of_past _ c.self.inside.first c.self.inside.holders.items c.self.view_is (is_open c.args.name c.args.now) c.args.address c.requires.free in
    rw c.value.ensures.value
    (changed_pool _ c.self.inside.first c.self.inside.holders.items c.self.view_is (λ p. record { address = p.address; name = Some c.args.name; ended = None }) c.args.address _ (record { name = None; ended = None }) place.0 place.1 refl)

pub returns-clause-found : goal.returns-clause-found
returns-clause-found c = subst (HoldsAddress c.args.address c.args.name c.args.self.now) (sym (returns-clause-pool c)) (found-taken c.args.address c.args.name c.args.self.now (is_open c.args.name c.args.now) c.requires.free)

pub returns-clause-places : goal.returns-clause-places
returns-clause-places c = ap addresses (returns-clause-pool c) ∙ places-changed (λ p. held p.address c.args.name) (λ p. refl) c.args.address c.args.self.now
