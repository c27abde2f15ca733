use Rattle.std.proofs.Common.{◌≡◌, ◌+◌, ◌*◌, ◌++◌, take, vec_len}
use Rattle.std.specs.List.{flat_map}
use Rattle.fab_base.specs.Layout.{spelled}
use Rattle.ct_messages.proofs.bytes.put_words.Given as goal

abbrev pub invariant-loop-word : goal.invariant-loop-word
invariant-loop-word l = record {
  bytes : l.bytes.items ≡ l.initial.bytes.items ++ flat_map (spelled 4) (take l.word-index l.words);
  size : vec_len l.bytes ≡ vec_len l.initial.bytes + 4 * l.word-index;
}
