-- What a reading says of the bytes as a file.
use Rattle.std.specs.Prelude.{◌≡◌, ℕ, ◌≤◌, ◌↔◌, List, length, Ok}
use Rattle.pcap_file.specs.declared.Budget.{Budget}
use Rattle.pcapng_file.specs.declared.NgRecord.{NgRecord}
use Rattle.pcapng_file.specs.File.{IsNg, ng_read}

-- the bytes and the packets are within these limits
abbrev pub Within : Budget → List NgRecord → List ℕ → Type 0
Within budget v l = (length l ≤ budget.bytes) × (length v ≤ budget.frames)

-- packets are read exactly where the bytes are a file of them within the limits
abbrev pub ReadIsFile : Type 0
ReadIsFile = (budget : Budget) (v : List NgRecord) (l : List ℕ) → (ng_read budget l ≡ Ok v) ↔ (IsNg v l × Within budget v l)

-- bytes are a file of one list of packets at most
abbrev pub OneList : Type 0
OneList = (v w : List NgRecord) (l : List ℕ) → IsNg v l → IsNg w l → v ≡ w
