use Rattle.std.proofs.Common.{◌≡◌, ◌≤◌, true, take, drop}
use Rattle.std.specs.List.{list_all}
use Rattle.fab_config.specs.Values.{digits_value, is_digit}
use Rattle.fab_config.proofs.numbers.value_up_to.Given as goal

abbrev pub invariant-loop-digit : goal.invariant-loop-digit
invariant-loop-digit l = record {
  value : digits_value 0 l.word ≡ digits_value l.value (drop l.digit-index l.word);
  digits : list_all is_digit (take l.digit-index l.word) ≡ true;
  small : l.value ≤ l.most;
}
