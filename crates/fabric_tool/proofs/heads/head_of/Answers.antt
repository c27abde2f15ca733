use Rattle.std.proofs.Common.{refl}
use Rattle.fabric_tool.proofs.HeadLemmas.{head_unopened, head_opened, head_failed}
use Rattle.fabric_tool.proofs.heads.head_of.Goals as goal

pub returns-in_default : goal.returns-in_default
returns-in_default g c = record { reads = head_unopened c.args.port c.args.name.now _ _ c.args.budget.now c.in_default.field-0 c.in_default.ensures.opens }

pub returns-in-Ok-open : goal.returns-in-Ok-open
returns-in-Ok-open g c = record { reads = head_opened c.args.port c.args.name.now c.in-Ok.slot _ _ _ _ _ c.in-Ok.ensures.opens _ refl c.in-Ok-open.ensures.opens }

pub returns-in-Err : goal.returns-in-Err
returns-in-Err g c = record { reads = head_failed c.args.port c.args.name.now c.in-Ok.slot _ _ _ c.args.budget.now _ c.in-Ok.ensures.opens c.in-Err.error c.unopened.result c.unopened.ensures c.in-Err.ensures.opens }
