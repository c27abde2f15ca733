use Rattle.std.proofs.Common.{◌≡◌, ◌++◌, drop}
use Rattle.pcapng_file.specs.Classic.{classic_records, classic_bytes}
use Rattle.pcapng_file.proofs.classic.classic_capture.Given as goal

abbrev pub invariant-loop-index : goal.invariant-loop-index
invariant-loop-index l = l.out.items ++ classic_records (drop l.index l.records) ≡ classic_bytes l.records
