use Rattle.std.proofs.Common.{◌∙◌, Err, sym, subst}
use Rattle.fabric_tool.specs.Reading.{TextRead}
use Rattle.fabric_tool.proofs.ReadLemmas.{text_failed, text_value, text_misread}
use Rattle.fabric_tool.proofs.inputs.config_in.Goals as goal

pub returns-in-Err : goal.returns-in-Err
returns-in-Err g c = record { reads = text_failed c.args.slot _ _ c.fill.new.into c.in-Err.field-0 c.in-Err.ensures.fills }

pub returns-in-Ok-read_config : goal.returns-in-Ok-read_config
returns-in-Ok-read_config g c = record { reads = text_value c.args.slot _ _ c.fill.new.into c.in-Ok.got c.in-Ok.ensures.fills (c.fill.auto.into ∙ c.requires.room) c.in-Ok-read_config.config c.in-Ok-read_config.ensures }

pub returns-in-Err-read_config : goal.returns-in-Err-read_config
returns-in-Err-read_config g c =
    let seen = g.D.Depot.seen in
    let read = text_misread c.args.slot _ _ c.fill.new.into c.in-Ok.got c.in-Ok.ensures.fills (c.fill.auto.into ∙ c.requires.room) c.in-Err-read_config.error c.in-Err-read_config.ensures in
    record { reads = subst (λ o. TextRead c.args.slot (seen c.args.depot.now) (seen c.fill.new.depot) (Err o)) (sym c.misread.ensures) read }
