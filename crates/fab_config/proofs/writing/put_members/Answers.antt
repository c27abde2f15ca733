use Rattle.std.proofs.Common.{◌∙◌, sym, ap}
use Rattle.std.specs.Option.{option_copied}
use Rattle.fab_config.specs.Written.{spaced, name_text}
use Rattle.fab_config.proofs.WriteLemmas.{written_more}
use Rattle.fab_config.proofs.writing.put_members.Goals as goal

pub loop-index-preserved : goal.loop-index-preserved
loop-index-preserved c =
    written_more (λ m. spaced (name_text m)) c.args.zone.now.members c.loop-index.index c.unwrap.result.now c.args.out.now.items c.loop-index.out.items c.put_name.new.out.items
    (sym c.at.ensures ∙ ap option_copied c.unwrap.ensures) c.loop-index.invariant c.in_ok-put_name.ensures
