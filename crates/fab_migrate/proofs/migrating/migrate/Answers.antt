use Rattle.std.proofs.Common.{Ok, Err, subst}
use Rattle.std.proofs.lemmas.Result.{err_from_is_err_and}
use Rattle.fab_migrate.specs.OldWords.{Rewrites}
use Rattle.fab_migrate.proofs.MigrateLemmas.{unread, unrewritten, unopened, migrated, front, unopened_input, unread_uses, unrewritten_uses, unopened_uses, output_uses}
use Rattle.fab_migrate.proofs.migrating.migrate.Goals as goal

pub returns-in_err-text-clause-migrates : goal.returns-in_err-text-clause-migrates
returns-in_err-text-clause-migrates g c =
    let p = err_from_is_err_and c.from_residual.result c.from_residual.ensures.1 in
    rw (p.1, p.2) (unread c.args.from.now c.args.to.now c.in-Ok.slot c.args.limit _ _ _ c.in-Ok.ensures.opens c.in_err-text.field-0.0 c.in_err-text.ensures.reads)

pub returns-in_err-new-clause-migrates : goal.returns-in_err-new-clause-migrates
returns-in_err-new-clause-migrates g c =
    let made = subst (λ l. Rewrites l (Err c.in_err-new.field-0.0)) c.deref.ensures.value c.in_err-new.ensures in
    let p = err_from_is_err_and c.from_residual-in_err-new.result c.from_residual-in_err-new.ensures.1 in
    rw (p.1, p.2) (unrewritten c.args.from.now c.args.to.now c.in-Ok.slot c.args.limit _ _ _ c.in-Ok.ensures.opens c.in_ok-text.text c.in_ok-text.ensures.reads c.in_err-new.field-0.0 made)

pub returns-in-Err-open_out-clause-migrates : goal.returns-in-Err-open_out-clause-migrates
returns-in-Err-open_out-clause-migrates g c =
    let made = subst (λ l. Rewrites l (Ok c.in_ok-new.new)) c.deref.ensures.value c.in_ok-new.ensures in
    unopened c.args.from.now c.args.to.now c.in-Ok.slot c.args.limit _ _ _ c.in-Ok.ensures.opens c.in_ok-text.text c.in_ok-text.ensures.reads c.in_ok-new.new made _ c.in-Err-open_out.failed c.in-Err-open_out.ensures.opens

pub returns-in-Ok-put_all-clause-migrates : goal.returns-in-Ok-put_all-clause-migrates
returns-in-Ok-put_all-clause-migrates g c =
    let made = subst (λ l. Rewrites l (Ok c.in_ok-new.new)) c.deref.ensures.value c.in_ok-new.ensures in
    migrated c.args.from.now c.args.to.now c.in-Ok.slot c.args.limit _ _ _ c.in-Ok.ensures.opens c.in_ok-text.text c.in_ok-text.ensures.reads c.in_ok-new.new made c.in-Ok-open_out.out _ _ c.deref-2.result.now c.in-Ok-open_out.ensures.opens c.deref-2.ensures.value c.in-Ok-put_all.ensures.puts

pub returns-clause-migrates : goal.returns-clause-migrates
returns-clause-migrates g c =
    let made = subst (λ l. Rewrites l (Ok c.in_ok-new.new)) c.deref.ensures.value c.in_ok-new.ensures in
    front c.args.from.now c.args.to.now c.in-Ok.slot c.args.limit _ _ _ c.in-Ok.ensures.opens c.in_ok-text.text c.in_ok-text.ensures.reads c.in_ok-new.new made c.in-Ok-open_out.out _ _ c.deref-2.result.now c.in-Ok-open_out.ensures.opens c.deref-2.ensures.value c.in-Err-put_all.failed c.in-Err-put_all.ensures.puts

-- ---- what is used

pub returns-in-Err-clause-uses : goal.returns-in-Err-clause-uses
returns-in-Err-clause-uses g c = unopened_input c.args.from.now c.args.to.now _ _ c.in-Err.failed c.in-Err.ensures.opens

pub returns-in_err-text-clause-uses : goal.returns-in_err-text-clause-uses
returns-in_err-text-clause-uses g c =
    let p = err_from_is_err_and c.from_residual.result c.from_residual.ensures.1 in
    rw (p.1, p.2) (unread_uses c.args.from.now c.args.to.now c.in-Ok.slot c.args.limit _ _ _ c.in-Ok.ensures.opens c.in_err-text.field-0.0 c.in_err-text.ensures.reads)

pub returns-in_err-new-clause-uses : goal.returns-in_err-new-clause-uses
returns-in_err-new-clause-uses g c =
    let made = subst (λ l. Rewrites l (Err c.in_err-new.field-0.0)) c.deref.ensures.value c.in_err-new.ensures in
    let p = err_from_is_err_and c.from_residual-in_err-new.result c.from_residual-in_err-new.ensures.1 in
    rw (p.1, p.2) (unrewritten_uses c.args.from.now c.args.to.now c.in-Ok.slot c.args.limit _ _ _ c.in-Ok.ensures.opens c.in_ok-text.text c.in_ok-text.ensures.reads c.in_err-new.field-0.0 made)

pub returns-in-Err-open_out-clause-uses : goal.returns-in-Err-open_out-clause-uses
returns-in-Err-open_out-clause-uses g c = unopened_uses c.args.from.now c.args.to.now c.in-Ok.slot c.args.limit _ _ _ c.in-Ok.ensures.opens c.in_ok-text.text c.in_ok-text.ensures.reads _ c.in-Err-open_out.failed c.in-Err-open_out.ensures.opens

pub returns-in-Ok-put_all-clause-uses : goal.returns-in-Ok-put_all-clause-uses
returns-in-Ok-put_all-clause-uses g c = output_uses c.args.from.now c.args.to.now c.in-Ok.slot c.args.limit _ _ _ c.in-Ok.ensures.opens c.in_ok-text.text c.in_ok-text.ensures.reads c.in-Ok-open_out.out _ _ c.deref-2.result.now c.in-Ok-open_out.ensures.opens (Ok tt) c.in-Ok-put_all.ensures.puts

pub returns-clause-uses : goal.returns-clause-uses
returns-clause-uses g c = output_uses c.args.from.now c.args.to.now c.in-Ok.slot c.args.limit _ _ _ c.in-Ok.ensures.opens c.in_ok-text.text c.in_ok-text.ensures.reads c.in-Ok-open_out.out _ _ c.deref-2.result.now c.in-Ok-open_out.ensures.opens (Err c.in-Err-put_all.failed) c.in-Err-put_all.ensures.puts
