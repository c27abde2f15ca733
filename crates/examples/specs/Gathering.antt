-- A capture whose third record is cut: where reading stops, and what is kept.
use Rattle.std.specs.Prelude.{◌≡◌, ℕ, false, List, [], ◌∷◌, ◌++◌, refl, Some, map, take, Ok}
use Rattle.pcap_file.specs.Capture as pcap
use Rattle.pcap_file.specs.declared.CaptureHead.{CaptureHead}
use Rattle.pcap_file.specs.Reading as reader
use Rattle.window_records.specs.Looks as looks
use Rattle.examples.specs.Given.{K, vlan_request}

abbrev pub head : CaptureHead
head = record { big = false; nano = false }

-- requests at 1000 and 1200, and a part of a third record
abbrev pub body : List ℕ
body = pcap.record_bytes 1000 vlan_request.bytes ++ pcap.record_bytes 1200 vlan_request.bytes ++ take 40 (pcap.record_bytes 1300 vlan_request.bytes)

pub head_is : pcap.head_decoded (pcap.head_bytes ++ body) ≡ Ok head
unfolding pcap.head_decoded
head_is = refl

-- with limits of so many bytes and frames
abbrev pub ins : List looks.Opened
ins = record { head = head; body = body } ∷ []

pub stopped : looks.stop K 1000000 1000 ins ≡ Some (record { why = looks.Fails reader.Cut; port = 1; at = 176; window = Some 1200 })
unfolding looks.stop looks.looks pcap.next
stopped = refl

pub kept : map (map (λ r. r.moment)) (map (looks.kept K (looks.stop K 1000000 1000 ins)) (looks.all_records ins)) ≡ (1000 ∷ []) ∷ []
unfolding looks.stop looks.looks pcap.next
kept = refl
