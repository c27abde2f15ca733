-- What a command finds in its inputs.
use Rattle.std.specs.Prelude.{◌≡◌, ℕ, ◌+◌, ◌-◌, ◌*◌, ◌<◌, ◌≤◌, List, [], ◌∷◌, ◌++◌, length, map, drop, Option, Some, Ok, Err}
use Rattle.fab_base.specs.Seen.{Seen, Rose}
use Rattle.pcap_file.specs.declared.Budget.{Budget}
use Rattle.pcap_file.specs.declared.CapFault.{CapFault}
use Rattle.pcap_file.specs.declared.CaptureHead.{CaptureHead}
use Rattle.pcap_file.specs.declared.Record.{Record}
use Rattle.pcap_file.specs.Capture.{HEAD, IsCapture, head_decoded}
use Rattle.fab_config.specs.Settings.{Settings}
use Rattle.fab_config.specs.Text.{decoded}
use Rattle.fab_config.specs.declared.ConfigFault.{ConfigFault}
use Rattle.window_records.specs.Looks.{Opened, Stop, stop, kept, all_records}
use Rattle.pcap_file.specs.declared.fault.CapWhy.{CapWhy}
use Rattle.run_files.specs.Faults.{fault_from}
use Rattle.run_files.specs.declared.fault.RunFault.{RunFault}
use Rattle.pcap_file.specs.Faults.{why_of}
use Rattle.window_records.specs.Port.{ending}
use Rattle.pcapng_file.specs.declared.NgRecord.{NgRecord}
use Rattle.pcapng_file.specs.File.{IsNg}
use Rattle.pcapng_file.specs.Laws.{Within}
use Rattle.fabric_tool.specs.Command.{RunNames}

-- the most bytes of all captures together, 1 GiB, and the most frames
abbrev pub MOST_BYTES : ℕ
MOST_BYTES = 1073741824

abbrev pub MOST_FRAMES : ℕ
MOST_FRAMES = 4000000

-- the limits on the bytes of all captures and on their frames
abbrev pub LIMITS : Budget
LIMITS = record { bytes = MOST_BYTES; frames = MOST_FRAMES }

-- ---- a configuration

-- a name's file is a configuration text of this value, and one with this first fault
pub record HasConfig (d : Seen) (name : List ℕ) (c : Settings) : Type 0 where
  pub text : List ℕ
  pub file : d.file name ≡ Some text
  pub value : decoded text ≡ Ok c

pub record HasFault (d : Seen) (name : List ℕ) (fault : ConfigFault) : Type 0 where
  pub text : List ℕ
  pub file : d.file name ≡ Some text
  pub value : decoded text ≡ Err fault

-- ---- captures

-- a name's file is a capture of these records
pub record HasCapture (d : Seen) (name : List ℕ) (records : List Record) : Type 0 where
  pub bytes : List ℕ
  pub file : d.file name ≡ Some bytes
  pub head : CaptureHead
  pub capture : IsCapture head records bytes

-- the same of the names of all ports, in their order
abbrev pub AreCaptures : Seen → List (List ℕ) → List (List Record) → Type 0
AreCaptures d [] [] = Unit {0}
AreCaptures d [] (records ∷ ins) = ⊥
AreCaptures d (name ∷ names) [] = ⊥
AreCaptures d (name ∷ names) (records ∷ ins) = HasCapture d name records × AreCaptures d names ins

-- a name's file begins with the head of a capture, behind which these bytes stand
pub record IsOpened (d : Seen) (name : List ℕ) (o : Opened) : Type 0 where
  pub bytes : List ℕ
  pub file : d.file name ≡ Some bytes
  pub head : head_decoded bytes ≡ Ok o.head
  pub body : o.body ≡ drop HEAD bytes

-- the same of the names of all ports, in their order
abbrev pub AreOpened : Seen → List (List ℕ) → List Opened → Type 0
AreOpened d [] [] = Unit {0}
AreOpened d [] (o ∷ opened) = ⊥
AreOpened d (name ∷ names) [] = ⊥
AreOpened d (name ∷ names) (o ∷ opened) = IsOpened d name o × AreOpened d names opened

-- the configuration has a value, and each capture a head
pub record HasInputs (k : RunNames) (d : Seen) (c : Settings) (opened : List Opened) : Type 0 where
  pub config : HasConfig d k.config c
  pub heads : AreOpened d k.ins opened

-- where the reading of the captures stops, behind their heads
abbrev pub stop_of : Settings → List Opened → Option Stop
stop_of c opened = stop c (MOST_BYTES - HEAD * length opened) MOST_FRAMES opened

-- the records of each port that are kept
abbrev pub kept_of : Settings → List Opened → List (List Record)
kept_of c opened = map (kept c (stop_of c opened)) (all_records opened)

-- a name's file doesn't begin with the head of a capture, for this reason
pub record HasNoHead (d : Seen) (name : List ℕ) (reason : CapWhy) : Type 0 where
  pub bytes : List ℕ
  pub file : d.file name ≡ Some bytes
  pub fault : CapFault
  pub says : head_decoded bytes ≡ Err fault
  pub word : why_of fault ≡ reason

-- Of these names that of a port, counted from 1, is the first whose file doesn't, for this reason.
pub record IsFirstWithout (names : List (List ℕ)) (d : Seen) (port : ℕ) (reason : CapWhy) : Type 0 where
  pub before : List (List ℕ)
  pub name : List ℕ
  pub behind : List (List ℕ)
  pub are : names ≡ before ++ name ∷ behind
  pub number : port ≡ length before + 1
  pub opened : List Opened
  pub heads : AreOpened d before opened
  pub without : HasNoHead d name reason

-- Of captures whose heads are read in their order, those before some name have heads, and the heads up to its own are more than so
-- many bytes.
pub record HaveNoRoom (names : List (List ℕ)) (d : Seen) (bytes : ℕ) : Type 0 where
  pub before : List (List ℕ)
  pub name : List ℕ
  pub behind : List (List ℕ)
  pub are : names ≡ before ++ name ∷ behind
  pub opened : List Opened
  pub heads : AreOpened d before opened
  pub above : bytes < HEAD * (length before + 1)

-- Of captures whose heads are read in their order, that of some name couldn't be read; those before it have heads, which are within
-- so many bytes.
pub record IsFirstUnread (names : List (List ℕ)) (old new : Seen) (bytes : ℕ) : Type 0 where
  pub before : List (List ℕ)
  pub name : List ℕ
  pub behind : List (List ℕ)
  pub are : names ≡ before ++ name ∷ behind
  pub opened : List Opened
  pub heads : AreOpened old before opened
  pub within : HEAD * length before ≤ bytes
  pub rose : Rose (old.read_faults name) (new.read_faults name)

-- The configuration has a value, and of the captures one couldn't be read; those before it have heads.
pub record IsHeadUnread (k : RunNames) (old new : Seen) : Type 0 where
  pub settings : Settings
  pub config : HasConfig old k.config settings
  pub first : IsFirstUnread k.ins old new MOST_BYTES

-- The configuration has a value, and that port's capture is the first without a head.
pub record HasBadHead (k : RunNames) (d : Seen) (port : ℕ) (reason : CapWhy) : Type 0 where
  pub settings : Settings
  pub config : HasConfig d k.config settings
  pub first : IsFirstWithout k.ins d port reason

-- The configuration has a value, each capture a head, and the reading of the captures stops as this fault says.
pub record StopsBy (k : RunNames) (d : Seen) (fault : RunFault) : Type 0 where
  pub settings : Settings
  pub opened : List Opened
  pub inputs : HasInputs k d settings opened
  pub at : Stop
  pub is : stop_of settings opened ≡ Some at
  pub says : fault_from (ending at) ≡ fault

-- ---- a pcapng file

-- a name's file is a pcapng file of these packets, within the limits
pub record HasPackets (d : Seen) (name : List ℕ) (packets : List NgRecord) : Type 0 where
  pub bytes : List ℕ
  pub file : d.file name ≡ Some bytes
  pub is : IsNg packets bytes
  pub within : Within LIMITS packets bytes
