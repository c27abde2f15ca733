use Rattle.std.proofs.Common.{◌∙◌, ap}
use Rattle.pcap_file.specs.Capture.{head_bytes}
use Rattle.run_files.specs.Pages.{piece_at}
use Rattle.run_files.proofs.PageLemmas.{page_of}
use Rattle.fab_windows.proofs.pages.Pages.heads.Goals as goal

pub returns-clause-records : goal.returns-clause-records
returns-clause-records c = λ q lt. ap (λ l. piece_at l q) c.in_ok-records.ensures.heads ∙ page_of head_bytes c.args.ports q lt
