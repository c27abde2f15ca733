use Rattle.std.proofs.Common.{◌∙◌, ◌+◌, ◌*◌, ℕ, drop, ap, sym}
use Rattle.fab_config.specs.Values.{digits_value}
use Rattle.fab_config.proofs.NumberLemmas.{up_to_over, value_more}
use Rattle.fab_config.proofs.numbers.value_up_to.Goals as goal

pub returns-then-value-most : goal.returns-then-value-most
returns-then-value-most c =
    let l = c.args.word.now in
    let i = c.loop-digit.digit-index in
    let on = value_more l i c.loop-digit.value c.loop-digit-test.true c.loop-digit.invariant.value in
    sym (up_to_over c.args.most l (10 * c.loop-digit.value + c.from.result) (drop (i + 1) l) (on ∙ ap (λ (n : ℕ). digits_value (10 * c.loop-digit.value + n) (drop (i + 1) l)) (sym c.from.ensures)) c.if-value-most.true)
