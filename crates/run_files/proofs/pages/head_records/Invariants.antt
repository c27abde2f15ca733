use Rattle.std.proofs.Common.{◌≡◌}
use Rattle.std.specs.Prelude.{replicate}
use Rattle.pcap_file.specs.Capture.{head_bytes}
use Rattle.run_files.specs.Pages.{items_in}
use Rattle.run_files.proofs.pages.head_records.Given as goal

abbrev pub invariant-loop : goal.invariant-loop
invariant-loop l = items_in l.records.items ≡ replicate l.counter head_bytes
