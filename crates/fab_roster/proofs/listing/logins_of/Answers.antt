use Rattle.std.proofs.Common.{◌≡◌, ℕ, Some, None, List, ◌∷◌, nat_le, filter, option_map, refl, sym, ap, ◌∙◌}
use Rattle.fab_base.proofs.KeyedLemmas.{AscendFrom-filter}
use Rattle.fab_base.proofs.SamenessLemmas.{find-filter}
use Rattle.fab_base.specs.Fabric.{same_enode}
use Rattle.fab_base.specs.declared.values.Enode.{Enode}
use Rattle.login_table.specs.Logins.{Logins, address_of, login_at, next_of}
use Rattle.login_table.specs.Logins as logins
use Rattle.login_table.specs.declared.login.Login.{Login}
use Rattle.fab_roster.proofs.Found.{was_there}
use Rattle.fab_roster.proofs.Walks.{IsNext, next_some, walk_starts, walk_takes, walk_goes_on, walk_ends}
use Rattle.fab_roster.proofs.listing.logins_of.Goals as goal

-- the logins of an ENode
abbrev of : Enode → List Login → List Login
of x ls = filter (λ l. same_enode l.enode x) ls

next : (x : Enode) (t : Logins) (from a : ℕ) → logins.IsSound t → Some a ≡ next_of (λ l. same_enode l.enode x) from t.logins → IsNext address_of from (of x t.logins) a
next x t from a sound is =
    next_some address_of 0 from a (of x t.logins) (AscendFrom-filter address_of (λ l. same_enode l.enode x) 0 t.logins sound.ascending)
    (is ∙ ap (option_map address_of) (find-filter (λ l. nat_le from l.address) (λ l. same_enode l.enode x) t.logins))

-- the next one stands in the table
there : (x : Enode) (t : Logins) (from a : ℕ) (sound : logins.IsSound t) (is : Some a ≡ next_of (λ l. same_enode l.enode x) from t.logins) → login_at a t.logins ≡ Some (next x t from a sound is).item
there x t from a sound is = let n = next x t from a sound is in was_there address_of (λ l. same_enode l.enode x) a 0 t.logins n.item sound.ascending n.found

pub loop-address-init : goal.loop-address-init
loop-address-init c = walk_starts address_of (λ ls. ls) (of c.args.enode.now c.args.table.now.logins) _ c.empty-logins.ensures

pub unreachable-requires : goal.unreachable-requires
unreachable-requires c =
    let t = c.args.table.now in
    let none : None ≡ login_at c.in-Some.address t.logins = c.in_default-by_address.ensures.login in
    cc (there c.args.enode.now t c.loop-address.from c.in-Some.address c.in-Some.ensures.sound c.in-Some.ensures.first)

pub loop-address-smaller : goal.loop-address-smaller
loop-address-smaller c =
    let n = next c.args.enode.now c.args.table.now c.loop-address.from c.in-Some.address c.in-Some.ensures.sound c.in-Some.ensures.first in
    walk_goes_on c.loop-address.from c.in-Some.address c.value-from.result n.above c.value-from.ensures.value c.value-from.ensures.range

pub loop-address-preserved : goal.loop-address-preserved
loop-address-preserved c =
    let x = c.args.enode.now in
    let t = c.args.table.now in
    let n = next x t c.loop-address.from c.in-Some.address c.in-Some.ensures.sound c.in-Some.ensures.first in
    let l = c.in-Some-by_address.login.now in
    let found : Some l ≡ login_at c.in-Some.address t.logins = c.in-Some-by_address.ensures.login in
    let is : l ≡ n.item = cc (there x t c.loop-address.from c.in-Some.address c.in-Some.ensures.sound c.in-Some.ensures.first) in
    walk_takes address_of (λ ls. ls) c.loop-address.from c.in-Some.address c.value-from.result (of x t.logins) c.loop-address.logins _ l n
    (λ ls. ap (λ y. y ∷ ls) (sym is)) c.value-from.ensures.value c.in_ok-push.ensures.ok c.loop-address.invariant

pub returns : goal.returns
returns c =
    let ls = c.args.table.now.logins in
    let x = c.args.enode.now in
    walk_ends address_of (λ ls. ls) c.loop-address.from (of x ls) c.loop-address.logins refl
    (c.in_default.ensures.first ∙ ap (option_map address_of) (find-filter (λ l. nat_le c.loop-address.from l.address) (λ l. same_enode l.enode x) ls)) c.loop-address.invariant
