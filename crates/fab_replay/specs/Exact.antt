-- What the answers of a check say of each other.
use Rattle.std.specs.Prelude.{◌≡◌, ℕ, Ok, Err, Result, length}
use Rattle.fab_config.specs.Settings.{Settings}
use Rattle.pcap_file.specs.declared.Budget.{Budget}
use Rattle.pcap_file.specs.declared.fault.GatherFault.{GatherFault}
use Rattle.fab_policy.specs.Journal.{Journal}
use Rattle.fab_policy.specs.Standing.{Contents, Stands}
use Rattle.fab_policy.specs.declared.verdict.Verdict.{Verdict}
use Rattle.fab_replay.specs.Check.{AreSent, IsAnswer, IsFirstLine, IsFirstOutput, IsFirstStop, Matter, NamesRun, Says}
use Rattle.fab_replay.specs.declared.fault.CheckFault.{CheckFault}
use Rattle.fab_replay.specs.declared.fault.CheckFault.TheVariants as fault
use Rattle.fab_replay.specs.declared.fault.LineWhy.{LineWhy}
use Rattle.fab_replay.specs.declared.fault.LineWhy.TheVariants as why

-- Where a text names a run over whole captures, it names no other, no line of it is wrong, and the reading stops nowhere.
abbrev pub RunIsOne : Type 0
RunIsOne = (c : Settings) (budget : Budget) (m : Matter) (J : Journal) → NamesRun c budget m J →
    ((K : Journal) → NamesRun c budget m K → K ≡ J)
    × ((line : ℕ) (why : LineWhy) → IsFirstLine c budget m line why → ⊥)
    × ((e : GatherFault) → IsFirstStop c budget m e → ⊥)

-- What is answered where a text names a run over whole captures, and its outputs are what the run sends: the number of its
-- entries, or that something couldn't be read or that memory was refused.
abbrev pub IsTold : Journal → Contents → Result ℕ CheckFault → Type 0
IsTold J F (Ok entries) = (entries ≡ length J) × Stands F J
IsTold J F (Err fault.Read) = Unit {0}
IsTold J F (Err fault.Memory) = Unit {0}
IsTold J F (Err _) = ⊥

abbrev pub RunIsAccepted : Type 0
RunIsAccepted = (c : Settings) (budget : Budget) (m : Matter) (J : Journal) (F : Contents) (r : Result ℕ CheckFault) → NamesRun c budget m J → AreSent c m J → Says c budget m F r → IsTold J F r

-- Where an output is told, the outputs aren't what the run sends that the text names.
abbrev pub OutputDiffers : Type 0
OutputDiffers = (c : Settings) (budget : Budget) (m : Matter) (port at : ℕ) (J : Journal) → IsFirstOutput c budget m port at → NamesRun c budget m J → AreSent c m J → ⊥

-- the same reason, but for the verdict that is told as right: several may be
abbrev pub IsSameWhy : LineWhy → LineWhy → Type 0
IsSameWhy (why.Verdict found made) y = (other : Verdict) × (y ≡ why.Verdict found other)
IsSameWhy x y = y ≡ x

-- the same answer, but for that verdict
abbrev pub IsSameAnswer : Result ℕ CheckFault → Result ℕ CheckFault → Type 0
IsSameAnswer (Err (fault.Line line x)) s = (y : LineWhy) × IsSameWhy x y × (s ≡ Err (fault.Line line y))
IsSameAnswer r s = s ≡ r

-- Two answers that hold of one journal, captures and outputs are the same: there is one first fault.
abbrev pub AnswerIsOne : Type 0
AnswerIsOne = (c : Settings) (budget : Budget) (m : Matter) (r s : Result ℕ CheckFault) → IsAnswer c budget m r → IsAnswer c budget m s → IsSameAnswer r s
