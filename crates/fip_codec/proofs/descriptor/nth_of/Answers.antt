use Rattle.std.proofs.Common.{◌≡◌, ◌*◌, length, length-drop, slice_get, Some, refl, sym, ap, ◌∙◌, arith}
use Rattle.std.specs.Option.{option_map}
use Rattle.fip_codec.specs.Table.{seen, parts}
use Rattle.fip_codec.specs.Fip.{HEADER}
use Rattle.fip_codec.specs.Walk.{of_type}
use Rattle.fip_codec.proofs.Sound.{room_at}
use Rattle.fip_codec.proofs.Typed.{from, of_type-hit, of_type-miss, of_type-end, get-hit}
use Rattle.fip_codec.proofs.descriptor.nth_of.Goals as goal

found : (c : goal.Then-left-eq0) → slice_get (of_type c.args.kind HEADER c.args.list.now) c.args.index ≡ Some (seen (from c.args.list.now c.loop-first.rest.now) c.in-Some.first)
found c =
    let all = c.args.list.now in
    let rest = c.loop-first.rest.now in
    let hit = of_type-hit c.args.kind all rest c.in-Some.more.now (seen (from all rest) c.in-Some.first) c.loop-first.invariant.within c.in-Some.ensures.rest.0 c.in-Some.ensures.rest.1 (c.in-Some.ensures.whole (from all rest)) (sym c.family.ensures ∙ c.if-family-kind.true) refl in
    sym c.loop-first.invariant.on ∙ ap (slice_get (of_type c.args.kind (from all rest) rest)) c.if-left-eq0.true ∙ ap (λ m. slice_get m 0) hit

pub returns-then-left-eq0-clause-found : goal.returns-then-left-eq0-clause-found
returns-then-left-eq0-clause-found c = sym (ap (option_map parts) (found c))

pub returns-then-left-eq0-clause-room : goal.returns-then-left-eq0-clause-room
returns-then-left-eq0-clause-room c = λ sound. room_at c.args.list.now c.args.kind c.args.index _ sound (found c)

pub loop-first-preserved-else-left-eq0 : goal.loop-first-preserved-else-left-eq0
loop-first-preserved-else-left-eq0 c =
    let all = c.args.list.now in
    let rest = c.loop-first.rest.now in
    let d = seen (from all rest) c.in-Some.first in
    let hit = of_type-hit c.args.kind all rest c.in-Some.more.now d c.loop-first.invariant.within c.in-Some.ensures.rest.0 c.in-Some.ensures.rest.1 (c.in-Some.ensures.whole (from all rest)) (sym c.family.ensures ∙ c.if-family-kind.true) refl in
    record {
      within = omega (arith, ap length c.in-Some.ensures.rest.0, length-drop (4 * c.in-Some.first.words) rest, c.loop-first.invariant.within);
      on = sym (get-hit _ d _ c.loop-first.left hit (omega arith)) ∙ c.loop-first.invariant.on;
    }

pub loop-first-preserved : goal.loop-first-preserved
loop-first-preserved c =
    let all = c.args.list.now in
    let rest = c.loop-first.rest.now in
    let miss = of_type-miss c.args.kind all rest c.in-Some.more.now (seen (from all rest) c.in-Some.first) c.loop-first.invariant.within c.in-Some.ensures.rest.0 c.in-Some.ensures.rest.1 (c.in-Some.ensures.whole (from all rest)) (λ e. c.if-family-kind.false (c.family.ensures ∙ e)) in
    record {
      within = omega (arith, ap length c.in-Some.ensures.rest.0, length-drop (4 * c.in-Some.first.words) rest, c.loop-first.invariant.within);
      on = ap (λ m. slice_get m c.loop-first.left) (sym miss) ∙ c.loop-first.invariant.on;
    }

pub returns-clause-found : goal.returns-clause-found
returns-clause-found c =
    let none = of_type-end c.args.kind (from c.args.list.now c.loop-first.rest.now) c.loop-first.rest.now (c.in_default.ensures.end refl) (c.in_default.ensures.broken refl) in
    ap (option_map parts) (sym (ap (λ m. slice_get m c.loop-first.left) none) ∙ c.loop-first.invariant.on)
