use Rattle.std.proofs.Common.{◌++◌, ◌+◌, take, refl, sym, ap, ◌∙◌, subst, Err, arith}
use Rattle.std.proofs.lemmas.List.{take-append-drop}
use Rattle.fab_migrate.specs.OldWords.{Rewrites}
use Rattle.fab_migrate.proofs.OldLemmas.{old_more, old_refused, some_left}
use Rattle.fab_migrate.proofs.old.in_format_two.Goals as goal

pub returns-in-Err : goal.returns-in-Err
returns-in-Err c =
    let rest = c.loop-rest.rest.now in
    let line = c.split_at.result.0.now in
    let cut = ap (λ l. l ++ c.split_at.result.1.now) c.split_at.ensures.front ∙ ap (λ l. take c.line_end.result rest ++ l) c.split_at.ensures.back ∙ take-append-drop c.line_end.result rest in
    let long = c.line_end.ensures.some (some_left rest c.is_empty.result c.is_empty.ensures c.loop-rest-test.true) in
    subst (λ e. Rewrites c.args.text.now (Err e)) (sym c.old_fault_of.ensures)
    (old_refused c.args.text.now rest c.loop-rest.out.items c.loop-rest.clock c.loop-rest.entries c.loop-rest.invariant line c.split_at.result.1.now cut (c.split_at.ensures.front ∙ c.line_end.ensures.line) c.add_line.new.out.items (c.loop-rest.entries + 1) c.in-Err.refusal refl
    (omega (arith, long, c.split_at.ensures.front_len)) c.in-Err.ensures.adds)

pub loop-rest-preserved : goal.loop-rest-preserved
loop-rest-preserved c =
    let rest = c.loop-rest.rest.now in
    let line = c.split_at.result.0.now in
    let cut = ap (λ l. l ++ c.split_at.result.1.now) c.split_at.ensures.front ∙ ap (λ l. take c.line_end.result rest ++ l) c.split_at.ensures.back ∙ take-append-drop c.line_end.result rest in
    let long = c.line_end.ensures.some (some_left rest c.is_empty.result c.is_empty.ensures c.loop-rest-test.true) in
    old_more c.args.text.now rest c.loop-rest.out.items c.loop-rest.clock c.loop-rest.entries c.loop-rest.invariant line c.split_at.result.1.now cut (c.split_at.ensures.front ∙ c.line_end.ensures.line) c.in-Ok-add_line.moment c.add_line.new.out.items
    (omega (arith, long, c.split_at.ensures.front_len)) c.in-Ok-add_line.ensures.adds
