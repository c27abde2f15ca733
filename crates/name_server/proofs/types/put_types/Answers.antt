use Rattle.std.proofs.Common.{◌∙◌, refl, ap, arith, length}
use Rattle.name_server.proofs.TypeLemmas.{put_more, row_at}
use Rattle.name_server.proofs.types.put_types.Goals as goal

pub loop-kind-init : goal.loop-kind-init
loop-kind-init c = record {
  done = λ kind q below. absurd (omega (arith, below));
  rest = λ kind from. refl;
  words = λ kind. refl;
}

pub put_type-requires : goal.put_type-requires
put_type-requires c =
    let (words, wide, within) = c.requires.wide in
    let here = row_at c.loop-kind.rows c.loop-kind.kind c.index-rows-kind.result (omega (arith, c.loop-kind-test.true, wide.count, c.loop-kind.auto.rows)) in
    omega (arith, within, wide.each c.loop-kind.kind c.loop-kind-test.true, c.loop-kind.invariant.words c.loop-kind.kind, ap length here)

pub loop-kind-preserved : goal.loop-kind-preserved
loop-kind-preserved c =
    let (words, wide, within) = c.requires.wide in
    put_more c.args.place c.args.types c.args.rows.now c.loop-kind.rows c.loop-kind.kind c.put_type.new.row c.index-rows-kind.result c.has_type.result
    c.loop-kind.invariant (omega (arith, c.loop-kind-test.true, wide.count, c.loop-kind.auto.rows)) c.put_type.ensures.bits c.put_type.ensures.words c.has_type.ensures

pub returns-clause-bits : goal.returns-clause-bits
returns-clause-bits c = λ kind q below. c.loop-kind.invariant.done kind q (omega (arith, below, c.loop-kind-test.false))

pub returns-clause-wide : goal.returns-clause-wide
returns-clause-wide c = λ words wide. record {
  count = c.loop-kind.auto.rows ∙ wide.count;
  each = λ kind lt. c.loop-kind.invariant.words kind ∙ wide.each kind lt;
}
