use Rattle.std.proofs.Common.{◌≡◌, ◌*◌, length, take, map}
use Rattle.std.specs.List.{range_with_len}
use Rattle.ct_messages.specs.Server.{feature_word}
use Rattle.name_server.proofs.features.feature_map.Given as goal

abbrev pub invariant-loop-word : goal.invariant-loop-word
invariant-loop-word l = record {
  long : length l.words ≡ 32;
  filled : take l.word l.words ≡ map (λ w. feature_word l.features (8 * w)) (range_with_len 0 l.word);
}
