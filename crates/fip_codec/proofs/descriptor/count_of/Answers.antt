use Rattle.std.proofs.Common.{◌*◌, length, length-drop, refl, sym, ap, ◌∙◌, arith}
use Rattle.fip_codec.specs.Table.{seen}
use Rattle.fip_codec.proofs.Typed.{from, of_type-hit, of_type-miss, of_type-end}
use Rattle.fip_codec.proofs.descriptor.count_of.Goals as goal

pub loop-first-preserved-then-family-kind : goal.loop-first-preserved-then-family-kind
loop-first-preserved-then-family-kind c =
    let all = c.args.list.now in
    let rest = c.loop-first.rest.now in
    let hit = of_type-hit c.args.kind all rest c.in-Some.more.now (seen (from all rest) c.in-Some.first) (omega arith) c.in-Some.ensures.rest.0 c.in-Some.ensures.rest.1 (c.in-Some.ensures.whole (from all rest)) (sym c.family.ensures ∙ c.if-family-kind.true) refl in
    let longer = ap length hit in
    record {
      within = omega (arith, ap length c.in-Some.ensures.rest.0, length-drop (4 * c.in-Some.first.words) rest, c.in-Some.ensures.rest.1, c.in-Some.ensures.size.1);
      on = omega (arith, longer, c.loop-first.invariant.on);
    }

pub loop-first-preserved : goal.loop-first-preserved
loop-first-preserved c =
    let all = c.args.list.now in
    let rest = c.loop-first.rest.now in
    let miss = of_type-miss c.args.kind all rest c.in-Some.more.now (seen (from all rest) c.in-Some.first) (omega arith) c.in-Some.ensures.rest.0 c.in-Some.ensures.rest.1 (c.in-Some.ensures.whole (from all rest)) (λ e. c.if-family-kind.false (c.family.ensures ∙ e)) in
    let same = ap length miss in
    record {
      within = omega (arith, ap length c.in-Some.ensures.rest.0, length-drop (4 * c.in-Some.first.words) rest, c.in-Some.ensures.rest.1, c.in-Some.ensures.size.1);
      on = omega (arith, same, c.loop-first.invariant.on);
    }

pub returns : goal.returns
returns c =
    let none = of_type-end c.args.kind (from c.args.list.now c.loop-first.rest.now) c.loop-first.rest.now (c.in_default.ensures.end refl) (c.in_default.ensures.broken refl) in
    let no = ap length none in
    omega (arith, c.loop-first.invariant.on, no)
