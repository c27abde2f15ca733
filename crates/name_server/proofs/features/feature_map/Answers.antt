use Rattle.std.proofs.Common.{◌+◌, ◌∙◌, ap, length-set, refl, arith}
use Rattle.name_server.proofs.FeatureLemmas.{words-more, all_words}
use Rattle.name_server.proofs.features.feature_map.Goals as goal

pub loop-word-preserved : goal.loop-word-preserved
loop-word-preserved c = record {
  long = length-set _ _ _ ∙ c.loop-word.invariant.long;
  filled = words-more c.args.features.now c.loop-word.words c.loop-word.word (c.loop-word.word + 1) c.word_at.result (omega (arith, c.loop-word.invariant.long, c.loop-word-test.true)) refl c.word_at.ensures c.loop-word.invariant.filled;
}

pub returns : goal.returns
returns c = ap (λ l. record { 0 = l }) (all_words c.args.features.now c.loop-word.words c.loop-word.word c.loop-word.invariant.long (omega (arith, c.loop-word-test.false, c.loop-word.auto.word-end)) c.loop-word.invariant.filled)
