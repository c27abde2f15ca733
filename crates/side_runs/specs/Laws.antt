-- What follows from the definitions.
use Rattle.std.specs.Prelude.{◌≡◌, ℕ, List, [], ◌∷◌, Option, None, Some, Ok}
use Rattle.pcap_file.specs.Capture.{IsCapture}
use Rattle.pcap_file.specs.declared.Budget.{Budget}
use Rattle.pcap_file.specs.declared.CaptureHead.{CaptureHead}
use Rattle.pcap_file.specs.declared.Record.{Record}
use Rattle.pcap_file.specs.Captures.{captures_by}

-- each of these files is there, and is a capture of these records
abbrev pub AreCaptures : List (Option (List ℕ)) → List (List Record) → Type 0
AreCaptures [] [] = Unit {0}
AreCaptures [] (records ∷ ins) = ⊥
AreCaptures (file ∷ files) [] = ⊥
AreCaptures (None ∷ files) (records ∷ ins) = ⊥
AreCaptures (Some l ∷ files) (records ∷ ins) = ((h : CaptureHead) × IsCapture h records l) × AreCaptures files ins

-- What is taken of files are their captures.
abbrev pub TakenAreCaptures : Type 0
TakenAreCaptures = (port : ℕ) (budget : Budget) (files : List (Option (List ℕ))) (ins : List (List Record)) → captures_by port budget files ≡ Ok ins → AreCaptures files ins
