use Rattle.std.proofs.Common.{◌≡◌, ◌∙◌, ℕ, ap, sym, drop, add-one, arith}
use Rattle.fab_pieces.specs.Seam.{row_text}
use Rattle.fab_state.proofs.ReadLemmas.{all_words, word_found, word_step}
use Rattle.fab_state.proofs.words.word_at.Goals as goal

pub loop-index-preserved : goal.loop-index-preserved
loop-index-preserved c ws h e =
    word_step c.loop-index.rest.now c.split_word.result.1.now ws c.loop-index.index (all_words ws h) (c.loop-index.invariant ws h e) (λ w more word at. (c.split_word.ensures.some w more word at).1)
    (λ none. (c.split_word.ensures.none none).1)
    ∙ ap (λ (k : ℕ). row_text (drop k ws)) (sym (add-one c.loop-index.index))

pub returns : goal.returns
returns c ws h e =
    let at : c.loop-index.index ≡ c.args.place = omega arith in
    let here : c.loop-index.rest.now ≡ row_text (drop c.args.place ws) = c.loop-index.invariant ws h e ∙ ap (λ (k : ℕ). row_text (drop k ws)) at in
    word_found c.loop-index.rest.now c.split_word-2.result.0.now ws c.args.place (all_words ws h) here (λ w more word is. (c.split_word-2.ensures.some w more word is).0)
    (λ none. (c.split_word-2.ensures.none none).0)
