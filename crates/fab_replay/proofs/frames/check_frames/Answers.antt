use Rattle.std.proofs.Common.{◌∙◌, ap, length, refl, subst, sym}
use Rattle.fab_replay.specs.Steps.{HasDone}
use Rattle.fab_replay.proofs.RemainLemmas.{stays_refused}
use Rattle.fab_replay.proofs.ResultLemmas.{if_false}
use Rattle.fab_replay.proofs.SpotLemmas.{among_then, failed, handed_on, none_checked, then_checked}
use Rattle.fab_replay.proofs.WindowLemmas.{counted_all, length-zeros}
use Rattle.fab_replay.proofs.frames.check_frames.Goals as goal

pub returns-in_err-counts : goal.returns-in_err-counts
returns-in_err-counts c = failed c.from_residual.ensures.1 tt refl refl refl (λ x J same h win. tt) (λ x told J same h win. stays_refused x told J _ _ h)

pub lines-init : goal.lines-init
lines-init c =
    let zeros = c.deref_mut-done.ensures.value ∙ c.in_ok-counts.ensures.zeros in
    record {
      lines = none_checked c.requires (λ x J win. subst (λ l. HasDone c.args.gathered.now l x J) (sym zeros) win);
      width = ap length zeros ∙ length-zeros (length c.args.gathered.now.shelves.now);
    }

pub check_frame-requires-clause-among : goal.check_frame-requires-clause-among
check_frame-requires-clause-among c = among_then c.requires c.lines.invariant.lines.advances

pub lines-preserved : goal.lines-preserved
lines-preserved c =
    let l = c.lines.invariant in
    let step = c.in_ok-check_frame.ensures in
    record { lines = then_checked l.lines (λ x J K stands none win. win) (λ x J K L was win. win) step.lines; width = step.width ∙ l.width }

pub returns-in_err-check_frame : goal.returns-in_err-check_frame
returns-in_err-check_frame c = handed_on c.from_residual-in_err-check_frame.ensures.1 (then_checked c.lines.invariant.lines (λ x J K stands none win. win) (λ x J K L was win. win) c.in_err-check_frame.ensures.lines)

pub returns : goal.returns
returns c =
    let l = c.lines.invariant in
    then_checked l.lines (λ x J K stands none win. win) (λ x J K L was all. all)
    (none_checked (among_then c.requires l.lines.advances) (λ x J win. counted_all x _ J _ _ win.1 l.width (if_false c.has_left.result _ _ c.lines-test.false c.has_left.ensures)))
