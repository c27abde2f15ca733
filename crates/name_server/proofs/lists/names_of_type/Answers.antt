use Rattle.std.proofs.Common.{◌∙◌, ◌++◌, ◌∷◌, [], option_map, refl, ap, sym, subst, arith}
use Rattle.sorted_lists.specs.Row.{IsNextBit}
use Rattle.ct_messages.specs.Server.{Known}
use Rattle.ct_messages.specs.declared.Named.{Named}
use Rattle.name_server.specs.Registry.{known_port}
use Rattle.name_server.specs.Views.{as_known, name_of}
use Rattle.name_server.specs.declared.lists.NameOf.{NameOf}
use Rattle.name_server.proofs.SeenLemmas.{seen_within, listed-next, listed-end}
use Rattle.name_server.proofs.lists.names_of_type.Goals as goal

abbrev named_by : NameOf → Known → Named
named_by name p = record { address = p.address; name = name_of name p }

pub loop-index-preserved : goal.loop-index-preserved
loop-index-preserved c =
    let f = named_by c.args.name in
    let entries = c.args.registry.now.entries in
    let row = c.in_ok-typed.typed.items in
    let bits = c.in_ok-typed.ensures.bits in
    let next = subst (λ o. IsNextBit row c.loop-index.from o) c.in-Some.is (subst (λ l. IsNextBit l c.loop-index.from c.next_bit.result) c.deref.ensures.value c.next_bit.ensures) in
    let is = ap (known_port entries) (sym c.index-seen-index.is) ∙ sym c.with_entry.ensures ∙ ap (option_map as_known) c.in-Some-with_entry.is in
    record {
      within = omega (arith, seen_within f c.args.kind entries c.args.seen.now row bits c.in-Some.index next.1);
      so_far = listed-next f c.args.kind entries c.args.seen.now row bits c.loop-index.from c.in-Some.index _ c.index-seen-index.result (as_known c.in-Some-with_entry.known) c.loop-index.list c.push.new.self _ next refl is
          (c.in_ok-push.ensures.ok ∙ ap (λ n. c.loop-index.list ++ n ∷ []) c.entry.ensures) c.loop-index.invariant.so_far;
    }

pub returns : goal.returns
returns c =
    let row = c.in_ok-typed.typed.items in
    let none = subst (λ o. IsNextBit row c.loop-index.from o) c.in_default.is (subst (λ l. IsNextBit l c.loop-index.from c.next_bit.result) c.deref.ensures.value c.next_bit.ensures) in
    listed-end (named_by c.args.name) c.args.kind c.args.registry.now.entries c.args.seen.now row c.in_ok-typed.ensures.bits c.loop-index.from c.loop-index.list _ none c.loop-index.invariant.within c.loop-index.invariant.so_far
