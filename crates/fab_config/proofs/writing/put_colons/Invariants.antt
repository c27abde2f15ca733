use Rattle.std.proofs.Common.{◌≡◌, ◌++◌, ◌∷◌, take}
use Rattle.std.specs.List.{flat_map}
use Rattle.fab_base.specs.Texts.{hex}
use Rattle.fab_config.proofs.writing.put_colons.Given as goal

abbrev pub invariant-loop-byte : goal.invariant-loop-byte
invariant-loop-byte l = l.out.items ≡ l.initial.out.items ++ flat_map (λ c. 58 ∷ hex 2 c) (take l.byte-index l.bytes)
