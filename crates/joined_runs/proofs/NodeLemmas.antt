-- What a node over files was given, and what it is up with.
use Rattle.std.proofs.Common.{◌≡◌, ℕ, Bool, true, false, cond, List, Option, Ok, Err, refl, subst}
use Rattle.std.specs.Prelude.{Result}
use Rattle.fab_base.specs.Seen.{Seen}
use Rattle.pcap_file.specs.declared.Record.{Record}
use Rattle.pcap_file.specs.declared.fault.GatherFault.{GatherFault}
use Rattle.pcap_file.specs.declared.fault.LimitKind.TheVariants as limit
use Rattle.pcap_file.specs.declared.fault.GatherFault.TheVariants as gather
use Rattle.pcap_file.specs.Captures.{Taken, unless_stopped, capture_by}
use Rattle.side_runs.specs.Laws.{TakenAreCaptures}
use Rattle.enode_core.specs.declared.node.Kept.{Kept}
use Rattle.enode_core.specs.declared.node.Phase.{Phase}
use Rattle.enode_core.specs.declared.node.Phase.TheVariants as phase
use Rattle.enode_core.specs.declared.node.Stage.{Stage}
use Rattle.enode_core.specs.declared.node.Stage.TheVariants.{Asking, Looking, Logging, Up}
use Rattle.enode_core.specs.Phases.{phase_at}
use Rattle.enode_core.specs.Runs.{is_too_long}
use Rattle.side_runs.specs.NodeFiles.{NodeTask, Played, unless_too_long}
use Rattle.joined_runs.proofs.TakenLemmas.{IsTaken, one_within}

-- it stands up with the address that it is said to be up with
pub record IsUp (stage : Stage) (a : ℕ) : Type 0 where
  pub kept : Kept
  pub node_due : ℕ
  pub port_due : ℕ
  pub heard : ℕ
  pub is : stage ≡ Up kept a node_due port_due heard

pub up_there : (ox_id a : ℕ) (mac : List ℕ) (stage : Stage) → phase.Up a mac ≡ phase_at ox_id stage → IsUp stage a
up_there ox_id a mac (Asking at) e = absurd (cc)
up_there ox_id a mac (Looking at) e = absurd (cc)
up_there ox_id a mac (Logging kept at) e = absurd (cc)
up_there ox_id a mac (Up kept b node_due port_due heard) e =
    let same : b ≡ a = cc in
    record { kept = kept; node_due = node_due; port_due = port_due; heard = heard; is = λ i. Up kept (same i) node_due port_due heard }

records_as : (file : List ℕ → Option (List ℕ)) (name : List ℕ) (t : Taken) (records : List Record) (most : ℕ) → t.records ≡ records → IsTaken file name t.records most → IsTaken file name records most
records_as file name t records most e h = subst (λ (rs : List Record). IsTaken file name rs most) e h

module _ (are : TakenAreCaptures) (task : NodeTask) (old new : Seen) (last : Phase) (p : Played task old new last) where
  pub node_taken : IsTaken old.file task.from p.records task.budget.bytes
  node_taken = by_capture (capture_by 1 task.budget p.bytes) refl p.taken
    where
      by_span : (t : Taken) (b : Bool) → capture_by 1 task.budget p.bytes ≡ Ok t → cond b (Err (gather.Limit limit.Span)) (Ok t.records) ≡ Ok p.records → IsTaken old.file task.from p.records task.budget.bytes
      by_span t true is e = absurd (cc)
      by_span t false is e = records_as old.file task.from t p.records task.budget.bytes (let same : t.records ≡ p.records = cc in same) (one_within are old.file 1 task.budget task.from p.bytes t p.found is)

      by_capture : (r : Result Taken GatherFault) → capture_by 1 task.budget p.bytes ≡ r → unless_stopped r (λ t. unless_too_long task.start t.records) ≡ Ok p.records → IsTaken old.file task.from p.records task.budget.bytes
      by_capture (Err fault) is e = absurd (cc)
      by_capture (Ok t) is e = by_span t (is_too_long task.start t.records) is e
