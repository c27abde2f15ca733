use Rattle.std.proofs.Common.{ℕ, ◌+◌, ◌-◌, ◌∙◌, sym, ap, refl, Some, None}
use Rattle.pcapng_file.specs.File.{place, listed}
use Rattle.pcapng_file.proofs.StreamLemmas.{gone_failed, gone_end, gone_full, gone_packet, gone_other, gone_handed, gone_seen, block_as}
use Rattle.pcapng_file.proofs.stream.NgStream.block.Goals.{in-Ok-Some, in-Ok-None, in-Err}
use Rattle.pcapng_file.proofs.stream.NgStream.block.Goals as goal

pub returns-in_err-block : goal.returns-in_err-block
returns-in_err-block g c =
    let s = c.self.inside in
    record { gone = gone_seen _ _ c.self.view_is (gone_handed c.from_residual.result c.in_err-block.field-0.0 c.from_residual.ensures.1 (gone_failed c.args.slot _ _ _ _ (place s.at s.section s.left) s.kept c.in_err-block.field-0.0 c.in_err-block.ensures.reads)) }

pub returns-in-None : goal.returns-in-None
returns-in-None g c =
    let s = c.self.inside in
    record { gone = gone_seen _ _ c.self.view_is (gone_end c.args.slot _ _ _ _ (place s.at s.section s.left) s.kept (block_as c.in_ok-block.field-0 None c.in-None.is c.in_ok-block.ensures.reads)) }

pub returns : goal.returns
returns g c =
    let s = c.self.inside in
    let k = c.in-Some.block in
    let here = place s.at s.section s.left in
    let there = place (s.at + k.size) c.enter.new.self (record { bytes = s.left.bytes - k.size; frames = s.left.frames - c.frames.result }) in
    let r = block_as c.in_ok-block.field-0 (Some k) c.in-Some.is c.in_ok-block.ensures.reads in
    let fewer = ap (λ (n : ℕ). s.left.frames - n) c.frames.ensures.value in
    record {
      gone = gone_seen _ _ c.self.view_is (elim c.match-enter.branch [
        | in-Ok-Some w ↦ rw w.result-is (gone_packet c.args.slot _ _ _ _ here s.kept k r there refl refl fewer w.in-Ok-Some.ensures.section w.in-Ok-Some.record (ap listed (sym w.in-Ok-Some.field-0-is) ∙ w.in-Ok-Some.ensures.packet))
        | in-Ok-None w ↦ rw w.result-is (gone_other c.args.slot _ _ _ _ here s.kept k r there refl refl fewer w.in-Ok-None.ensures.section (ap listed (sym w.in-Ok-None.field-0-is) ∙ w.in-Ok-None.ensures.packet))
        | in-Err w ↦ rw w.result-is (gone_full c.args.slot _ _ _ _ here s.kept k r there refl refl fewer w.in-Err.ensures.refused)
      ]);
    }
