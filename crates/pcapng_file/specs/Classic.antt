-- The classic capture of the packets of a file, and what converting a file does.
use Rattle.std.specs.Prelude.{◌≡◌, ℕ, ◌*◌, ◌/◌, ◌%◌, ◌≤◌, max, false, List, [], ◌∷◌, ◌++◌, length, map, IsTrue, Some, Result, Ok, Err}
use Rattle.fab_base.specs.Layout.{spelled_low}
use Rattle.fab_base.specs.Ending as ending
use Rattle.fab_base.specs.Ending.{End, WhereSaid, HoldsSome}
use Rattle.fab_base.specs.Seen.{Seen, SameFiles}
use Rattle.pcap_file.specs.declared.Budget.{Budget}
use Rattle.pcap_file.specs.declared.CaptureHead.{CaptureHead}
use Rattle.pcap_file.specs.declared.Record.{Record}
use Rattle.pcap_file.specs.Capture.{head_bytes, IsCapture}
use Rattle.pcapng_file.specs.declared.NgRecord.{NgRecord}
use Rattle.pcapng_file.specs.declared.fault.NgError.{NgError}
use Rattle.pcapng_file.specs.declared.fault.ConvertError.{ConvertError}
use Rattle.pcapng_file.specs.declared.fault.ConvertError.TheVariants as ends
use Rattle.pcapng_file.specs.File.{IsNg, AreKept, ng_end, ng_read}
use Rattle.pcapng_file.specs.Laws.{Within}

-- seconds, microseconds, stored length and original length of a record
abbrev pub classic_front : NgRecord → List ℕ
classic_front r = spelled_low 4 (r.moment / 1000) ++ spelled_low 4 (r.moment % 1000 * 1000) ++ spelled_low 4 (length r.caught.bytes) ++ spelled_low 4 r.original

abbrev pub classic_record : NgRecord → List ℕ
classic_record r = classic_front r ++ r.caught.bytes

abbrev pub classic_records : List NgRecord → List ℕ
classic_records [] = []
classic_records (r ∷ v) = classic_record r ++ classic_records v

-- the capture of these packets, little-endian in microseconds
abbrev pub classic_bytes : List NgRecord → List ℕ
classic_bytes v = head_bytes ++ classic_records v

-- the records of that capture: in place of a moment that goes back it has the greatest one so far
abbrev pub timed : ℕ → List NgRecord → List Record
timed greatest [] = []
timed greatest (r ∷ v) = record { moment = max greatest r.moment; caught = r.caught } ∷ timed (max greatest r.moment) v

-- a packet as a record
abbrev pub recorded : NgRecord → Record
recorded r = record { moment = r.moment; caught = r.caught }

-- no moment lies before the one in front of it
abbrev pub Ascend : ℕ → List NgRecord → Type 0
Ascend before [] = Unit {0}
Ascend before (r ∷ v) = (before ≤ r.moment) × Ascend r.moment v

-- the head that is written
abbrev pub written : CaptureHead
written = record { big = false; nano = false }

-- why an input isn't converted; a depot's fault and want of memory say nothing of its bytes
abbrev pub SaysInput : List ℕ → Budget → Seen → NgError → Type 0
SaysInput from budget old e = WhereSaid (ng_end e) ((l : List ℕ) × (old.file from ≡ Some l) × (ng_read budget l ≡ Err e))

-- what it rests on that a file isn't converted
abbrev pub converting_end : ConvertError → End
converting_end (ends.Input e) = ng_end e
converting_end (ends.Write failed) = ending.Write

-- the input that was found is a file of packets within the limits, and the output is their capture
pub record Converted (from to : List ℕ) (budget : Budget) (old new : Seen) (count : ℕ) : Type 0 where
  pub bytes : List ℕ
  pub packets : List NgRecord
  pub found : old.file from ≡ Some bytes
  pub read : ng_read budget bytes ≡ Ok packets
  pub is : IsNg packets bytes
  pub within : Within budget packets bytes
  pub output : new.file to ≡ Some (classic_bytes packets)
  pub counted : count ≡ length packets
  pub read_back : IsCapture written (timed 0 packets) (classic_bytes packets)

-- The output is as it was, or it holds a front of the capture of the packets that the input was found to have.
pub data IsFront (from to : List ℕ) (budget : Budget) (old new : Seen) : Type 0 where
  Same : new.file to ≡ old.file to → IsFront from to budget old new
  Front : (bytes : List ℕ) (packets : List NgRecord) → old.file from ≡ Some bytes → IsNg packets bytes → Within budget packets bytes → HoldsSome new to (classic_bytes packets) → IsFront from to budget old new

-- How a conversion ends. The output is opened only behind the whole input: an error of the input leaves every file.
abbrev pub Converts : List ℕ → List ℕ → Budget → Seen → Seen → Result ℕ ConvertError → Type 0
Converts from to budget old new (Ok count) = IsTrue old.told → Converted from to budget old new count
Converts from to budget old new (Err (ends.Input e)) = SameFiles old new × (IsTrue old.told → SaysInput from budget old e)
Converts from to budget old new (Err (ends.Write failed)) = IsTrue old.told → IsFront from to budget old new

-- ---- law

-- the capture of packets is read as these records
abbrev pub ReadsBack : Type 0
ReadsBack = (v : List NgRecord) → AreKept v → IsCapture written (timed 0 v) (classic_bytes v)

-- the capture of packets in order of their moments is read as these packets
abbrev pub OrderedReadsBack : Type 0
OrderedReadsBack = (v : List NgRecord) → AreKept v → Ascend 0 v → IsCapture written (map recorded v) (classic_bytes v)
