use Rattle.std.proofs.Common.{◌∙◌, sym}
use Rattle.fab_state.proofs.ReadLemmas.{rest_behind, rest_some, split_is}
use Rattle.fab_state.proofs.words.split_word.Goals as goal

pub returns-in-Some-clause-some : goal.returns-in-Some-clause-some
returns-in-Some-clause-some c w ws word e =
    let cut = split_is c.args.line.now w ws c.word_len.result word e c.word_len.ensures.inside c.word_len.ensures.ends in
    (c.split_at.ensures.front ∙ cut.0, rest_behind ws _ c.in-Some.behind.now (sym c.in-Some.ensures.cases.0 ∙ c.split_at.ensures.back ∙ cut.1))

pub returns-in-None-clause-some : goal.returns-in-None-clause-some
returns-in-None-clause-some c w ws word e =
    let cut = split_is c.args.line.now w ws c.word_len.result word e c.word_len.ensures.inside c.word_len.ensures.ends in
    absurd (rest_some ws c.split_at.result.1.now (c.split_at.ensures.back ∙ cut.1) c.in-None.ensures.cases)
