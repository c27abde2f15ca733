use Rattle.std.proofs.Common.{◌≡◌, ◌++◌, IfOk, codes, append_assoc, subst}
use Rattle.std.specs.Prelude.{decimal}
use Rattle.std.specs.String.{string_bytes}
use Rattle.fabric_tool.proofs.outcome.stream_line.Goals as goal

pub returns : goal.returns
returns c =
    subst (λ w. IfOk c.format.result (λ s. string_bytes s ≡ codes "stream " ++ decimal c.args.at ++ codes " " ++ w ++ codes "\n")) c.fault_word-word.ensures (simp append_assoc c.format.ensures.ok)
