use Rattle.std.proofs.Common.{◌∙◌, Ok, Err}
use Rattle.pcapng_file.proofs.ConvertLemmas.{unopened, front, converted, unopened_input, unread_uses, unmade_uses, unopened_uses, output_uses}
use Rattle.pcapng_file.proofs.classic.convert.Goals as goal

pub returns-in-Err-open_out-clause-converts : goal.returns-in-Err-open_out-clause-converts
returns-in-Err-open_out-clause-converts g c = unopened c.args.from.now c.args.to.now c.in-Ok.slot c.args.budget c.read_ng.new.budget _ _ _ c.in-Ok.ensures.opens c.in-Ok-read_ng.records c.in-Ok-read_ng.ensures.reads _ c.in-Err-open_out.failed c.in-Err-open_out.ensures.opens

pub returns-in-Ok-put_all-clause-converts : goal.returns-in-Ok-put_all-clause-converts
returns-in-Ok-put_all-clause-converts g c = converted c.args.from.now c.args.to.now c.in-Ok.slot c.args.budget c.read_ng.new.budget _ _ _ c.in-Ok.ensures.opens c.in-Ok-read_ng.records c.in-Ok-read_ng.ensures.reads c.in-Ok-open_out.out _ _ c.deref.result.now c.in-Ok-open_out.ensures.opens c.len.result (c.deref.ensures.value ∙ c.in-Ok-classic_capture.ensures) c.len.ensures c.in-Ok-put_all.ensures.puts

pub returns-clause-converts : goal.returns-clause-converts
returns-clause-converts g c = front c.args.from.now c.args.to.now c.in-Ok.slot c.args.budget c.read_ng.new.budget _ _ _ c.in-Ok.ensures.opens c.in-Ok-read_ng.records c.in-Ok-read_ng.ensures.reads c.in-Ok-open_out.out _ _ c.deref.result.now c.in-Ok-open_out.ensures.opens c.in-Err-put_all.failed (c.deref.ensures.value ∙ c.in-Ok-classic_capture.ensures) c.in-Err-put_all.ensures.puts

-- ---- what is used

pub returns-in-Err-clause-uses : goal.returns-in-Err-clause-uses
returns-in-Err-clause-uses g c = unopened_input c.args.from.now c.args.to.now _ _ c.in-Err.failed c.in-Err.ensures.opens

pub returns-in-Err-read_ng-clause-uses : goal.returns-in-Err-read_ng-clause-uses
returns-in-Err-read_ng-clause-uses g c = unread_uses c.args.from.now c.args.to.now c.in-Ok.slot c.args.budget c.read_ng.new.budget _ _ _ c.in-Ok.ensures.opens c.in-Err-read_ng.error c.in-Err-read_ng.ensures.reads

pub returns-in_default-clause-uses : goal.returns-in_default-clause-uses
returns-in_default-clause-uses g c = unmade_uses c.args.from.now c.args.to.now c.in-Ok.slot c.args.budget c.read_ng.new.budget _ _ _ c.in-Ok.ensures.opens c.in-Ok-read_ng.records c.in-Ok-read_ng.ensures.reads

pub returns-in-Err-open_out-clause-uses : goal.returns-in-Err-open_out-clause-uses
returns-in-Err-open_out-clause-uses g c = unopened_uses c.args.from.now c.args.to.now c.in-Ok.slot c.args.budget c.read_ng.new.budget _ _ _ c.in-Ok.ensures.opens c.in-Ok-read_ng.records c.in-Ok-read_ng.ensures.reads _ c.in-Err-open_out.failed c.in-Err-open_out.ensures.opens

pub returns-in-Ok-put_all-clause-uses : goal.returns-in-Ok-put_all-clause-uses
returns-in-Ok-put_all-clause-uses g c = output_uses c.args.from.now c.args.to.now c.in-Ok.slot c.args.budget c.read_ng.new.budget _ _ _ c.in-Ok.ensures.opens c.in-Ok-read_ng.records c.in-Ok-read_ng.ensures.reads c.in-Ok-open_out.out _ _ c.deref.result.now c.in-Ok-open_out.ensures.opens (Ok tt) c.in-Ok-put_all.ensures.puts

pub returns-clause-uses : goal.returns-clause-uses
returns-clause-uses g c = output_uses c.args.from.now c.args.to.now c.in-Ok.slot c.args.budget c.read_ng.new.budget _ _ _ c.in-Ok.ensures.opens c.in-Ok-read_ng.records c.in-Ok-read_ng.ensures.reads c.in-Ok-open_out.out _ _ c.deref.result.now c.in-Ok-open_out.ensures.opens (Err c.in-Err-put_all.failed) c.in-Err-put_all.ensures.puts
