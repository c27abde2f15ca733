use Rattle.std.proofs.Common.{◌≡◌, ◌<◌, ◌^◌, take}
use Rattle.fab_base.specs.Texts.{hex}
use Rattle.fab_policy.proofs.words.read_hex.Given as goal

abbrev pub invariant-loop-byte : goal.invariant-loop-byte
invariant-loop-byte l = (l.value < 16 ^ l.byte-index) × (take l.byte-index l.word ≡ hex l.byte-index l.value)
