use Rattle.std.proofs.Common.{◌∙◌, ◌++◌, sym, ap}
use Rattle.std.specs.Option.{option_copied}
use Rattle.fab_policy.specs.Text.{then_word, address_word}
use Rattle.fab_policy.proofs.LineLemmas.{address_words-more}
use Rattle.fab_policy.proofs.lines.write_addresses.Goals as goal

pub loop-index-preserved : goal.loop-index-preserved
loop-index-preserved c =
    let address = c.unwrap.result.now in
    address_words-more c.args.ended.now c.args.line.now.items _ c.loop-index.index address
    (sym c.at.ensures ∙ ap option_copied c.unwrap.ensures)
    (c.in_ok-write_address.ensures ∙ ap (λ l. l ++ then_word (address_word address)) c.loop-index.invariant)
