use Rattle.std.proofs.Common.{◌≡◌, ◌++◌, ℕ, List, IfOk, codes, append_assoc, subst}
use Rattle.std.specs.Prelude.{decimal}
use Rattle.std.specs.String.{string_bytes}
use Rattle.fabric_tool.proofs.outcome.capture_line.Goals as goal

pub returns : goal.returns
returns c =
    subst (λ (w : List ℕ). IfOk c.format.result (λ s. string_bytes s ≡ codes "capture " ++ decimal c.args.port ++ codes " " ++ decimal c.args.at ++ codes " " ++ w ++ codes "\n")) c.cap_word-word.ensures
    (subst (λ (p : ℕ). IfOk c.format.result (λ s. string_bytes s ≡ codes "capture " ++ decimal p ++ codes " " ++ decimal c.args.at ++ codes " " ++ c.cap_word-word.result.now ++ codes "\n")) c.value-port.ensures.value (simp append_assoc c.format.ensures.ok))
