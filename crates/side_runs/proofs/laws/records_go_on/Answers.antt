use Rattle.side_runs.proofs.CopyLemmas as records
use Rattle.side_runs.proofs.laws.records_go_on.Goals as goal

pub returns : goal.returns
returns c = record { records = records.records_go_on }
