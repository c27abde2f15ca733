use Rattle.std.proofs.Common.{◌∙◌, sym, length, eqb-true}
use Rattle.std.proofs.lemmas.Slice.Eq.{bytes_eq-Decides}
use Rattle.fab_state.proofs.SeamReadLemmas.{begins_some, other_word}
use Rattle.fab_state.proofs.ReadLemmas.{false_not}
use Rattle.fab_state.proofs.reading.begins.Goals as goal

pub returns-then-is_empty-clause-own : goal.returns-then-is_empty-clause-own
returns-then-is_empty-clause-own c ws more h e = absurd (begins_some c.args.word.now ws more c.args.text.now h e (eqb-true (length c.args.text.now) 0 (sym c.if-is_empty.ensures)))

pub returns-else-is_empty-clause-own : goal.returns-else-is_empty-clause-own
returns-else-is_empty-clause-own c ws more h e = c.eq.ensures ∙ (bytes_eq-Decides c.first_word.result.now c.args.word.now).1 (c.first_word.ensures c.args.word.now ws more h e)

pub returns-else-is_empty-clause-other : goal.returns-else-is_empty-clause-other
returns-else-is_empty-clause-other c unlike =
    c.eq.ensures ∙ other_word c.args.word.now c.first_word.result.now c.args.text.now unlike (λ none. false_not (length c.args.text.now) c.if-is_empty.ensures none) c.first_word.ensures
