use Rattle.std.proofs.Common.{◌≡◌, ◌++◌, ℕ, IfOk, codes, append_assoc, subst}
use Rattle.std.specs.Prelude.{decimal}
use Rattle.std.specs.String.{string_bytes}
use Rattle.fabric_tool.proofs.outcome.output_line.Goals as goal

pub returns : goal.returns
returns c =
    subst (λ (p : ℕ). IfOk c.format.result (λ s. string_bytes s ≡ codes "output " ++ decimal p ++ codes " " ++ decimal c.args.at ++ codes "\n")) c.value-port.ensures.value (simp append_assoc c.format.ensures.ok)
