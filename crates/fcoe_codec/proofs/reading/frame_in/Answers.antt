use Rattle.std.proofs.Common.{◌≡◌, Result, Ok, Err, sym, ◌∙◌, arith}
use Rattle.fc_frames.specs.declared.FcFault.{FcFault}
use Rattle.fc_frames.specs.Frame as fc
use Rattle.fc_frames.proofs.FrameLemmas.{decoded-whole}
use Rattle.fcoe_codec.specs.Fcoe.{frame_in}
use Rattle.fcoe_codec.proofs.reading.frame_in.Goals as goal

pub unreachable-requires : goal.unreachable-requires
unreachable-requires c =
    let covered = c.args.covered.now in
    let whole = decoded-whole covered (omega arith) (omega arith) (omega arith) in
    let Is : Result fc.Frame FcFault → Type 0 = λ r. r ≡ Err c.in-Err.field-0 in
    let e : Is (Ok (frame_in covered)) = sym whole ∙ c.in-Err.ensures.exact in
    cc
