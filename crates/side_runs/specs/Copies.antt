-- The capture of each port of a bridge: the frames that go there, in the order in which they are handled.
use Rattle.std.specs.Prelude.{◌≡◌, ℕ, if◌then◌else◌, List, [], ◌∷◌, ◌++◌}
use Rattle.pcap_file.specs.Capture.{head_bytes, record_bytes}
use Rattle.fip_snoop.specs.Bridge.{Arrival, handled, history, leads_to}
use Rattle.fip_snoop.specs.History.{History}
use Rattle.fip_snoop.specs.Ways.{way_of}
use Rattle.fip_snoop.specs.declared.forwarder.Forwarder.{Forwarder}
use Rattle.fip_snoop.specs.declared.way.Way.{Way}

-- a record with its frame's bytes as they came, both lengths the same, and the time of its moment; nothing where the way leads elsewhere
abbrev pub copy_of : ℕ → ℕ → List ℕ → Way → List ℕ
copy_of q moment bytes way = if leads_to q way then record_bytes moment bytes else []

abbrev pub copy_to : ℕ → Arrival → Way → List ℕ
copy_to q a way = copy_of q a.moment a.caught.bytes way

-- the records of a port behind a history
abbrev pub records_to : Forwarder → ℕ → History → List Arrival → List ℕ
records_to w q L [] = []
records_to w q L (a ∷ more) = copy_to q a (way_of w L a.port a.caught) ++ records_to w q (handled w L a ∷ L) more

-- The capture of a port: the head, and each frame whose way leads to it.
abbrev pub capture : Forwarder → ℕ → List Arrival → List ℕ
capture w q came = head_bytes ++ records_to w q [] came

-- the records of frames that are handled later stand behind those of the frames before
abbrev pub RecordsGoOn : Type 0
RecordsGoOn = (w : Forwarder) (q : ℕ) (L : History) (xs ys : List Arrival) → records_to w q L (xs ++ ys) ≡ records_to w q L xs ++ records_to w q (history w L xs) ys
