-- What each run of a node over records keeps.
use Rattle.std.specs.Prelude.{◌≡◌, ℕ, IsTrue, List, ◌++◌}
use Rattle.fab_config.specs.Settings.{Settings, is_in_range}
use Rattle.heard_frames.specs.Heard.{asked}
use Rattle.fab_policy.specs.Journal.{Journal}
use Rattle.fab_policy.specs.Legal.{Legal}
use Rattle.pcap_file.specs.declared.Record.{Record}
use Rattle.enode_core.specs.declared.node.Identity.{Identity}
use Rattle.enode_core.specs.declared.node.Kept.{Kept}
use Rattle.enode_core.specs.declared.node.Stage.TheVariants.{Up}
use Rattle.enode_core.specs.Laws.{AreBytes, AreOutputs, AreFrom, HasGrant, IsTyped}
use Rattle.enode_core.specs.Runs.{Input, IsRun, stands, all_sent}

-- Whenever the node is up with an address: if a forwarder has sent all these records to a port, and has taken from the node's MAC on
-- that port only what the node sent, then it has granted the address there to a FLOGI with the node's port name and with the OX_ID
-- of its latest FLOGI.
abbrev pub IsGrantedBy : Identity → ℕ → List Record → List Input → Type 0
IsGrantedBy own start records inputs =
    (given later : List Input) (kept : Kept) (a node_due port_due at : ℕ) → inputs ≡ given ++ later →
    (stands own start given).stage ≡ Up kept a node_due port_due at →
    (c : Settings) (n p : ℕ) (J : Journal) → IsTrue (is_in_range c) → AreBytes J → Legal c J →
    AreOutputs c n p J records → AreFrom p own.mac (all_sent own start inputs) J →
    HasGrant p J own.mac a (stands own start given).ox_id (λ before caught. (asked caught).port_name ≡ own.name)

-- One list of inputs at most is a run over records.
abbrev pub RunsAreOne : Type 0
RunsAreOne = (own : Identity) (start : ℕ) (records : List Record) (xs ys : List Input) → IsRun own start records xs → IsRun own start records ys → xs ≡ ys

-- Each run of a node over records keeps this.
abbrev pub RunsAreGranted : Type 0
RunsAreGranted = (own : Identity) (start : ℕ) (records : List Record) (inputs : List Input) → IsTyped own → IsRun own start records inputs → IsGrantedBy own start records inputs
