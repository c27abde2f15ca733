use Rattle.std.proofs.Common.{◌≡◌, length, ◌∙◌, arith}
use Rattle.std.proofs.lemmas.List.{length-take-le}
use Rattle.pcapng_file.proofs.PassingLemmas.{passed_more, skips_short, skips_failed, skips_handed}
use Rattle.pcapng_file.proofs.passing.skip.Goals as goal

pub returns-in_err-got : goal.returns-in_err-got
returns-in_err-got g c =
    let sized : length c.pull.new.into ≡ c.min-wanted.result = c.pull.auto.into ∙ length-take-le c.min-wanted.result c.loop-passed.piece (omega (arith, c.min-wanted.ensures)) in
    record { skips = skips_handed c.from_residual.result c.in_err-got.field-0.0 c.from_residual.ensures.1 (skips_failed c.args.slot c.loop-passed.passed _ _ _ c.args.ahead.now c.loop-passed.ahead c.requires c.loop-passed.invariant.passed c.pull.new.self c.pull.new.into c.args.count c.in_err-got.field-0.0 (omega (arith, sized, c.min-wanted.ensures)) c.in_err-got.ensures.pulls) }

pub returns-then-got-wanted : goal.returns-then-got-wanted
returns-then-got-wanted g c =
    let sized : length c.pull.new.into ≡ c.min-wanted.result = c.pull.auto.into ∙ length-take-le c.min-wanted.result c.loop-passed.piece (omega (arith, c.min-wanted.ensures)) in
    record { skips = skips_short c.args.slot c.loop-passed.passed _ _ _ c.args.ahead.now c.loop-passed.ahead c.requires c.loop-passed.invariant.passed c.pull.new.self c.pull.new.into c.args.count c.in_ok-got.got c.in_ok-got.ensures.pulls (omega (arith, sized)) (omega (arith, c.min-wanted.ensures)) }

pub loop-passed-preserved : goal.loop-passed-preserved
loop-passed-preserved g c =
    let sized : length c.pull.new.into ≡ c.min-wanted.result = c.pull.auto.into ∙ length-take-le c.min-wanted.result c.loop-passed.piece (omega (arith, c.min-wanted.ensures)) in
    let most = c.in_ok-got.ensures.pulls.bound in
    record {
      passed = passed_more c.args.slot c.loop-passed.passed _ _ _ c.args.ahead.now c.loop-passed.ahead c.requires c.loop-passed.invariant.passed c.pull.new.self c.pull.new.into c.in_ok-got.got c.in_ok-got.ensures.pulls;
      bound = omega (arith, most, sized, c.min-wanted.ensures);
    }
