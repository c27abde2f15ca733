use Rattle.std.proofs.Common.{◌≡◌, ◌∙◌, ◌||◌, Some, slice_get, ap, sym, subst, arith}
use Rattle.std.specs.Option.{option_copied}
use Rattle.slab.specs.Slab.{get}
use Rattle.sorted_lists.specs.Row.{has, IsNextBit}
use Rattle.name_server.specs.Places.{row_of}
use Rattle.name_server.specs.Views.{is_at}
use Rattle.name_server.proofs.PlaceLemmas.{held}
use Rattle.name_server.proofs.TypedLemmas.{seen_place, before_first, before_more, before_all, within_row}
use Rattle.name_server.proofs.registry.Registry.of_type.Goals as goal

pub loop-place-init : goal.loop-place-init
loop-place-init c = record {
  words = c.in_ok-row.ensures.words;
  bits = λ i. c.in_ok-row.ensures.bits i ∙ sym (before_first c.self.inside.types.items c.args.kind (seen_place c.self.inside.index.items (slice_get c.args.seen.now i)));
}

pub mark-requires-clause-wide : goal.mark-requires-clause-wide
mark-requires-clause-wide c = omega (arith, c.loop-place.invariant.words)

next : (c : goal.After-mark) → IsNextBit (row_of c.self.inside.types.items c.args.kind) c.loop-place.from (Some c.in-Some.place)
next c = subst (λ o. IsNextBit (row_of c.self.inside.types.items c.args.kind) c.loop-place.from o) c.in-Some.is
    (subst (λ l. IsNextBit (row_of l c.args.kind) c.loop-place.from c.next_of_type.result) c.deref.ensures.value c.next_of_type.ensures)

here : (c : goal.After-mark) → get c.self.inside.entries c.in-Some.place ≡ Some c.in-Some-get.entry.now
here c = sym c.get.ensures ∙ ap option_copied c.in-Some-get.is

pub overflow_add-from : goal.overflow_add-from
overflow_add-from c =
    let there = c.self.invariant.told c.in-Some.place c.in-Some-get.entry.now (here c) in
    let within = (held c.self.invariant c.in-Some-get.entry.now.address _ there).within in
    omega (arith, within, c.self.invariant.fits)

pub loop-place-smaller : goal.loop-place-smaller
loop-place-smaller c = omega (arith, (next c).0, within_row (row_of c.self.inside.types.items c.args.kind) c.in-Some.place (next c).1)

pub loop-place-preserved : goal.loop-place-preserved
loop-place-preserved c = record {
  words = c.mark.ensures.words ∙ c.loop-place.invariant.words;
  bits = λ i. c.mark.ensures.bits i
      ∙ ap (λ a. is_at a (slice_get c.args.seen.now i) || has c.loop-place.row.items i) c.address.ensures
      ∙ ap (λ b. is_at c.in-Some-get.entry.now.address (slice_get c.args.seen.now i) || b) (c.loop-place.invariant.bits i)
      ∙ sym (before_more c.self.invariant c.args.kind c.loop-place.from c.in-Some.place c.in-Some-get.entry.now (here c) (next c) (slice_get c.args.seen.now i));
}

pub returns-clause-bits : goal.returns-clause-bits
returns-clause-bits c =
    let none = subst (λ o. IsNextBit (row_of c.self.inside.types.items c.args.kind) c.loop-place.from o) c.in_default.is
    (subst (λ l. IsNextBit (row_of l c.args.kind) c.loop-place.from c.next_of_type.result) c.deref.ensures.value c.next_of_type.ensures) in
    let kind = c.ranges.kind.fits in
    rw (← c.self.view_is) (λ i. c.loop-place.invariant.bits i ∙ before_all c.self.invariant c.args.kind c.loop-place.from (omega (arith, kind)) none (slice_get c.args.seen.now i))

pub returns-clause-words : goal.returns-clause-words
returns-clause-words c =
    let long = c.ranges in
    omega (arith, c.loop-place.invariant.words)
