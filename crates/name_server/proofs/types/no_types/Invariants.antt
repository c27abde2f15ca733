use Rattle.std.proofs.Common.{◌≡◌, ◌/◌, ◌+◌, length}
use Rattle.std.specs.List.{All}
use Rattle.name_server.proofs.TypeLemmas.{IsBlank}
use Rattle.name_server.proofs.types.no_types.Given as goal

abbrev pub invariant-loop : goal.invariant-loop
invariant-loop l = record {
  count : length l.rows.items ≡ l.counter;
  blank : All (IsBlank (l.places / 64 + 1)) l.rows.items;
}
