use Rattle.std.proofs.Common.{◌++◌, ◌∙◌, sym, ap, subst, arith, List, ℕ, eqb, ◌&&◌, Err}
use Rattle.std.specs.Prelude.{is_some}
use Rattle.pcapng_file.specs.declared.block.Interface.{Interface}
use Rattle.pcapng_file.specs.declared.packet.Content.{Content}
use Rattle.std.proofs.lemmas.List.{take_at}
use Rattle.pcapng_file.specs.declared.fault.NgError.TheVariants as errors
use Rattle.pcapng_file.specs.Block.{head_read, body_read}
use Rattle.pcapng_file.specs.File.{Section, TellsRead, at_fault}
use Rattle.pcapng_file.proofs.StepLemmas.{block_end, block_short, block_bad, block_bytes, block_passed, block_cut, block_err, block_counted, block_unread_body, block_unheld, block_refused, handed_on, not_other}
use Rattle.pcapng_file.proofs.reading.next_block.Goals as goal

pub returns-then-is_end : goal.returns-then-is_end
returns-then-is_end g c = record {
  reads = block_end c.args.slot _ _ _ _ c.pull.new.into c.in-Ok.got c.args.budget c.args.at c.args.section.now c.pull.auto.into c.in-Ok.ensures.pulls (ap (λ (s : Section). eqb c.in-Ok.got 0 && is_some s.order) (sym c.section.view_is) ∙ sym c.is_end.ensures ∙ c.if-is_end.true);
}

pub returns-then-got-lt-HEAD : goal.returns-then-got-lt-HEAD
returns-then-got-lt-HEAD g c = rw c.fault.ensures (record {
  reads = block_short c.args.slot _ _ _ _ c.pull.new.into c.in-Ok.got c.args.budget c.args.at c.args.section.now c.pull.auto.into c.in-Ok.ensures.pulls (omega arith) (ap (λ (s : Section). eqb c.in-Ok.got 0 && is_some s.order) (sym c.section.view_is) ∙ sym c.is_end.ensures ∙ c.if-is_end.false);
})

pub returns-in-Err-read_head : goal.returns-in-Err-read_head
returns-in-Err-read_head g c = rw c.fault-in-Err-read_head.ensures (record {
  reads = block_bad c.args.slot _ _ _ _ c.pull.new.into c.in-Ok.got c.args.budget c.args.at c.args.section.now c.pull.auto.into c.in-Ok.ensures.pulls (omega arith) c.in-Err-read_head.why (ap (λ (s : Section). head_read s.order c.pull.new.into) (sym c.section.view_is) ∙ sym c.in-Err-read_head.ensures.exact);
})

pub returns-then-budget-head : goal.returns-then-budget-head
returns-then-budget-head g c = record {
  reads = block_bytes c.args.slot _ _ _ _ c.pull.new.into c.in-Ok.got c.args.budget c.args.at c.args.section.now c.pull.auto.into c.in-Ok.ensures.pulls (omega arith) c.in-Ok-read_head.head (ap (λ (s : Section). head_read s.order c.pull.new.into) (sym c.section.view_is) ∙ sym c.in-Ok-read_head.ensures.exact) c.if-budget-head.true;
}

pub returns-then-eq : goal.returns-then-eq
returns-then-eq g c = record {
  reads = block_passed c.args.slot _ _ _ _ c.pull.new.into c.in-Ok.got c.args.budget c.args.at c.args.section.now c.pull.auto.into c.in-Ok.ensures.pulls (omega arith) c.in-Ok-read_head.head (ap (λ (s : Section). head_read s.order c.pull.new.into) (sym c.section.view_is) ∙ sym c.in-Ok-read_head.ensures.exact) _ c.pass_over.new.ahead c.requires.input c.if-budget-head.false (omega (arith, c.in-Ok-read_head.ensures.least)) c.pass_over.result c.pass_over.ensures.passes;
}

pub returns-in-Err-pull : goal.returns-in-Err-pull
returns-in-Err-pull g c =
    let sized = c.pull-2.auto.into ∙ c.deref_mut.ensures.len ∙ c.in_ok-body.ensures.len in
    record { reads = block_unread_body c.args.slot _ _ _ _ c.pull.new.into c.in-Ok.got c.args.budget c.args.at c.args.section.now c.pull.auto.into c.in-Ok.ensures.pulls (omega arith) c.in-Ok-read_head.head (ap (λ (s : Section). head_read s.order c.pull.new.into) (sym c.section.view_is) ∙ sym c.in-Ok-read_head.ensures.exact) _ c.pull-2.new.self c.pull-2.new.into c.requires.input c.if-budget-head.false (omega (arith, c.in-Ok-read_head.ensures.least)) sized c.in-Err-pull.failed c.in-Err-pull.ensures.pulls }

pub returns-in_err-body : goal.returns-in_err-body
returns-in_err-body g c = record { reads = handed_on c.from_residual.result errors.Memory c.from_residual.ensures.1 (block_unheld c.args.slot _ _ _ _ c.pull.new.into c.in-Ok.got c.args.budget c.args.at c.args.section.now c.pull.auto.into c.in-Ok.ensures.pulls (omega arith) c.in-Ok-read_head.head (ap (λ (s : Section). head_read s.order c.pull.new.into) (sym c.section.view_is) ∙ sym c.in-Ok-read_head.ensures.exact) c.if-budget-head.false (not_other _ (sym c.eq.ensures ∙ c.if-eq.false))) }

pub returns-in_err-block : goal.returns-in_err-block
returns-in_err-block g c =
    let sized = c.pull-2.auto.into ∙ c.deref_mut.ensures.len ∙ c.in_ok-body.ensures.len in
    record { reads = handed_on c.from_residual-in_err-block.result errors.Memory c.from_residual-in_err-block.ensures.1 (block_refused c.args.slot _ _ _ _ c.pull.new.into c.in-Ok.got c.args.budget c.args.at c.args.section.now c.pull.auto.into c.in-Ok.ensures.pulls (omega arith) c.in-Ok-read_head.head (ap (λ (s : Section). head_read s.order c.pull.new.into) (sym c.section.view_is) ∙ sym c.in-Ok-read_head.ensures.exact) _ c.pull-2.new.self c.pull-2.new.into c.requires.input c.if-budget-head.false (omega (arith, c.in-Ok-read_head.ensures.least)) sized c.in-Ok-pull.got c.in-Ok-pull.ensures.pulls (omega (arith, sized, c.len.ensures, c.in_ok-body.ensures.len)) (not_other _ (sym c.eq.ensures ∙ c.if-eq.false))) }

pub returns-then-got-len : goal.returns-then-got-len
returns-then-got-len g c =
    let sized = c.pull-2.auto.into ∙ c.deref_mut.ensures.len ∙ c.in_ok-body.ensures.len in
    rw c.fault-then-got-len.ensures (record {
      reads = block_cut c.args.slot _ _ _ _ c.pull.new.into c.in-Ok.got c.args.budget c.args.at c.args.section.now c.pull.auto.into c.in-Ok.ensures.pulls (omega arith) c.in-Ok-read_head.head (ap (λ (s : Section). head_read s.order c.pull.new.into) (sym c.section.view_is) ∙ sym c.in-Ok-read_head.ensures.exact) _ c.pull-2.new.self c.pull-2.new.into c.requires.input c.if-budget-head.false (omega (arith, c.in-Ok-read_head.ensures.least)) sized c.in-Ok-pull.got c.in-Ok-pull.ensures.pulls (omega (arith, sized, c.len.ensures, c.in_ok-body.ensures.len));
    })

pub returns-in_err-content : goal.returns-in_err-content
returns-in_err-content g c =
    let sized = c.pull-2.auto.into ∙ c.deref_mut.ensures.len ∙ c.in_ok-body.ensures.len in
    let made = c.deref-3.ensures.value ∙ c.in_ok-block.ensures ∙ ap (λ (b : List ℕ). c.pull.new.into ++ b) (c.deref.ensures.value ∙ take_at c.pull-2.new.into _ _ (sized ∙ sym c.in_ok-body.ensures.len)) in
    let e = c.in_err-content.field-0.0 in
    record {
      reads = handed_on c.from_residual-in_err-content.result e c.from_residual-in_err-content.ensures.1 (block_err c.args.slot _ _ _ _ c.pull.new.into c.in-Ok.got c.args.budget c.args.at c.args.section.now c.pull.auto.into c.in-Ok.ensures.pulls (omega arith) c.in-Ok-read_head.head (ap (λ (s : Section). head_read s.order c.pull.new.into) (sym c.section.view_is) ∙ sym c.in-Ok-read_head.ensures.exact) _ c.pull-2.new.self c.pull-2.new.into c.requires.input c.if-budget-head.false (omega (arith, c.in-Ok-read_head.ensures.least)) sized c.in-Ok-pull.got c.in-Ok-pull.ensures.pulls (omega (arith, sized, c.len.ensures, c.in_ok-body.ensures.len)) c.deref-3.result.now made (not_other _ (sym c.eq.ensures ∙ c.if-eq.false)) e c.in_err-content.ensures.own (subst (λ (f : List Interface). TellsRead {A = Content} (at_fault c.args.at (body_read c.in-Ok-read_head.head f c.deref-3.result.now)) (Err e)) (c.deref-2.ensures.value ∙ ap (λ (s : Section). s.faces) c.section.view_is) c.in_err-content.ensures.tells));
    }

pub returns : goal.returns
returns g c =
    let sized = c.pull-2.auto.into ∙ c.deref_mut.ensures.len ∙ c.in_ok-body.ensures.len in
    let made = c.deref-3.ensures.value ∙ c.in_ok-block.ensures ∙ ap (λ (b : List ℕ). c.pull.new.into ++ b) (c.deref.ensures.value ∙ take_at c.pull-2.new.into _ _ (sized ∙ sym c.in_ok-body.ensures.len)) in
    record {
      reads = block_counted c.args.slot _ _ _ _ c.pull.new.into c.in-Ok.got c.args.budget c.args.at c.args.section.now c.pull.auto.into c.in-Ok.ensures.pulls (omega arith) c.in-Ok-read_head.head (ap (λ (s : Section). head_read s.order c.pull.new.into) (sym c.section.view_is) ∙ sym c.in-Ok-read_head.ensures.exact) _ c.pull-2.new.self c.pull-2.new.into c.requires.input c.if-budget-head.false (omega (arith, c.in-Ok-read_head.ensures.least)) sized c.in-Ok-pull.got c.in-Ok-pull.ensures.pulls (omega (arith, sized, c.len.ensures, c.in_ok-body.ensures.len)) c.deref-3.result.now made c.in_ok-content.content (ap (λ (f : List Interface). at_fault c.args.at (body_read c.in-Ok-read_head.head f c.deref-3.result.now)) (sym (c.deref-2.ensures.value ∙ ap (λ (s : Section). s.faces) c.section.view_is)) ∙ c.in_ok-content.ensures.tells) c.in_ok-content.ensures.kept c.within_frames.result c.within_frames.ensures;
    }
