use Rattle.std.proofs.Common.{◌∙◌, ◌++◌, ◌∷◌, [], ℕ, refl, ap, sym, subst, arith}
use Rattle.sorted_lists.specs.Row.{IsNextBit}
use Rattle.ct_messages.specs.Server.{Known}
use Rattle.name_server.proofs.SeenLemmas.{seen_within, typed_at, typed_known, listed-next, listed-end}
use Rattle.name_server.proofs.lists.addresses_of_type.Goals as goal

abbrev address_of : Known → ℕ
address_of p = p.address

pub loop-index-preserved : goal.loop-index-preserved
loop-index-preserved c =
    let entries = c.args.registry.now.entries in
    let row = c.in_ok-typed.typed.items in
    let bits = c.in_ok-typed.ensures.bits in
    let next = subst (λ o. IsNextBit row c.loop-index.from o) c.in-Some.is (subst (λ l. IsNextBit l c.loop-index.from c.next_bit.result) c.deref.ensures.value c.next_bit.ensures) in
    let s = c.index-seen-index.result in
    let (k, is, address, _) = typed_known address_of c.args.kind entries _ (typed_at address_of c.args.kind entries c.args.seen.now row bits c.in-Some.index s next.1) in
    record {
      within = omega (arith, seen_within address_of c.args.kind entries c.args.seen.now row bits c.in-Some.index next.1);
      so_far = listed-next address_of c.args.kind entries c.args.seen.now row bits c.loop-index.from c.in-Some.index _ s k c.loop-index.list c.push.new.self _ next refl is
          (c.in_ok-push.ensures.ok ∙ ap (λ n. c.loop-index.list ++ n ∷ []) (sym address)) c.loop-index.invariant.so_far;
    }

pub returns : goal.returns
returns c =
    let row = c.in_ok-typed.typed.items in
    let none = subst (λ o. IsNextBit row c.loop-index.from o) c.in_default.is (subst (λ l. IsNextBit l c.loop-index.from c.next_bit.result) c.deref.ensures.value c.next_bit.ensures) in
    listed-end address_of c.args.kind c.args.registry.now.entries c.args.seen.now row c.in_ok-typed.ensures.bits c.loop-index.from c.loop-index.list _ none c.loop-index.invariant.within c.loop-index.invariant.so_far
