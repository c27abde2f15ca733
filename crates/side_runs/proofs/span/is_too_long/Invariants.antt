use Rattle.std.proofs.Common.{◌≡◌, ◌+◌, ◌-◌, ◌^◌, drop}
use Rattle.fip_snoop.specs.Bridge.{arrivals_from}
use Rattle.side_runs.proofs.SpanLemmas.{spread}
use Rattle.side_runs.proofs.span.is_too_long.Given as goal

abbrev pub invariant-loop-records : goal.invariant-loop-records
invariant-loop-records l = spread l.least l.greatest (arrivals_from (l.records-index + 1) (drop l.records-index l.ins)) ≡ spread (2 ^ 64 - 1) 0 (arrivals_from 1 l.ins)
