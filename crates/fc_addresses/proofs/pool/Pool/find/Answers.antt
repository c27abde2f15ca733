use Rattle.std.proofs.Common.{ℕ, Option, subst, arith, ◌∙◌, IsTrue}
use Rattle.fc_addresses.specs.Pool.{is_free, IsSound}
use Rattle.fc_addresses.specs.Holders.{IsUnusedPlace, IsOneOf}
use Rattle.fc_addresses.proofs.PoolLemmas.{free-found, has_free-found, has_free-none, IfSome-same, sound_places}
use Rattle.fc_addresses.proofs.FindLemmas.{some_may, no_may}
use Rattle.fc_addresses.proofs.pool.Pool.find.Goals as goal

pub overflow_add-self-inside : goal.overflow_add-self-inside
overflow_add-self-inside c =
    let unused = subst (λ (p : ℕ). IsUnusedPlace c.self.inside.unused p c.unused_place-unused.result) (c.len.ensures ∙ c.self.inside.holders.ok.0) c.unused_place-unused.ensures in
    let owned = rw c.deref.ensures.value at c.owned_place-owned.ensures in
    let over = rw c.deref-2.ensures.value at c.over_place-over.ensures in
    let outer = subst (λ (r : Option ℕ). IsOneOf c.unused_place-unused.result c.lesser.result r) c.in-Some.is c.lesser-2.ensures in
    let may = some_may c.self.invariant c.args.name c.args.now _ _ _ _ c.in-Some.place unused owned over c.lesser.ensures outer in
    omega (arith, c.self.invariant.range c.in-Some.place may.0)

pub returns-in-Some-clause-free : goal.returns-in-Some-clause-free
returns-in-Some-clause-free c =
    let unused = subst (λ (p : ℕ). IsUnusedPlace c.self.inside.unused p c.unused_place-unused.result) (c.len.ensures ∙ c.self.inside.holders.ok.0) c.unused_place-unused.ensures in
    let owned = rw c.deref.ensures.value at c.owned_place-owned.ensures in
    let over = rw c.deref-2.ensures.value at c.over_place-over.ensures in
    let outer = subst (λ (r : Option ℕ). IsOneOf c.unused_place-unused.result c.lesser.result r) c.in-Some.is c.lesser-2.ensures in
    let may = some_may c.self.invariant c.args.name c.args.now _ _ _ _ c.in-Some.place unused owned over c.lesser.ensures outer in
    IfSome-same c.new.result (λ a. IsTrue (is_free c.args.self.now c.args.name c.args.now a)) _ c.new.ensures.value
    (free-found _ c.self.inside.first c.self.inside.holders.items c.self.view_is _ _ c.in-Some.place may.0 may.1)

pub returns-in-Some-clause-some : goal.returns-in-Some-clause-some
returns-in-Some-clause-some c =
    let unused = subst (λ (p : ℕ). IsUnusedPlace c.self.inside.unused p c.unused_place-unused.result) (c.len.ensures ∙ c.self.inside.holders.ok.0) c.unused_place-unused.ensures in
    let owned = rw c.deref.ensures.value at c.owned_place-owned.ensures in
    let over = rw c.deref-2.ensures.value at c.over_place-over.ensures in
    let outer = subst (λ (r : Option ℕ). IsOneOf c.unused_place-unused.result c.lesser.result r) c.in-Some.is c.lesser-2.ensures in
    let may = some_may c.self.invariant c.args.name c.args.now _ _ _ _ c.in-Some.place unused owned over c.lesser.ensures outer in
    c.new.ensures.some.1 (omega (arith, c.self.invariant.range c.in-Some.place may.0))
    ∙ has_free-found _ c.self.inside.first c.self.inside.holders.items c.self.view_is c.args.name c.args.now c.in-Some.place may.0 may.1

pub returns-in-None-clause-some : goal.returns-in-None-clause-some
returns-in-None-clause-some c =
    let unused = subst (λ (p : ℕ). IsUnusedPlace c.self.inside.unused p c.unused_place-unused.result) (c.len.ensures ∙ c.self.inside.holders.ok.0) c.unused_place-unused.ensures in
    let owned = rw c.deref.ensures.value at c.owned_place-owned.ensures in
    let over = rw c.deref-2.ensures.value at c.over_place-over.ensures in
    let outer = subst (λ (r : Option ℕ). IsOneOf c.unused_place-unused.result c.lesser.result r) c.in-None.is c.lesser-2.ensures in
    has_free-none _ c.self.inside.first c.self.inside.holders.items c.self.view_is c.args.name c.args.now
    (no_may c.self.invariant c.args.name c.args.now _ _ _ _ unused owned over c.lesser.ensures outer)

pub returns-in-Some-clause-sound : goal.returns-in-Some-clause-sound
returns-in-Some-clause-sound c = subst IsSound c.self.view_is (sound_places c.self.inside.first c.self.inside.holders.items c.self.invariant.range)

pub returns-in-None-clause-sound : goal.returns-in-None-clause-sound
returns-in-None-clause-sound c = subst IsSound c.self.view_is (sound_places c.self.inside.first c.self.inside.holders.items c.self.invariant.range)
