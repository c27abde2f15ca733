use Rattle.std.proofs.Common.{◌∙◌, sym, ap}
use Rattle.std.specs.Option.{option_copied}
use Rattle.fab_config.proofs.NamedLemmas.{later_no, later_more}
use Rattle.fab_config.proofs.named.is_later.Goals as goal

pub returns-then-ge : goal.returns-then-ge
returns-then-ge c =
    later_no c.args.moment c.args.activations.now c.loop-index.index c.unwrap.result.now (sym c.at.ensures ∙ ap option_copied c.unwrap.ensures) (sym c.ge.ensures ∙ c.if-ge.true)

pub loop-index-preserved : goal.loop-index-preserved
loop-index-preserved c =
    later_more c.args.moment c.args.activations.now c.loop-index.index c.unwrap.result.now (sym c.at.ensures ∙ ap option_copied c.unwrap.ensures) (sym c.if-ge.ensures) c.loop-index.invariant
