use Rattle.std.proofs.Common.{◌≡◌, ◌++◌, drop, flat_map}
use Rattle.fab_base.specs.Texts.{hex}
use Rattle.fab_state.proofs.writing.put_types_words.Given as goal

abbrev pub invariant-loop-word : goal.invariant-loop-word
invariant-loop-word l = l.out.items ++ flat_map (hex 8) (drop l.word-index l.types.0) ≡ l.fn.out.items ++ flat_map (hex 8) l.types.0
