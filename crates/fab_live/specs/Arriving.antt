-- The packets of a stream as the frames of a forwarder's ports.
use Rattle.std.specs.Prelude.{◌≡◌, ℕ, ◌<◌, ◌==◌, max, false, List, [], ◌∷◌, map, filter, Option, Some, None}
use Rattle.fab_config.specs.Settings.{Settings}
use Rattle.fab_policy.specs.Legal.{window_start}
use Rattle.fab_base.specs.Counting.{counting}
use Rattle.window_records.specs.Looks.{is_too_late}
use Rattle.pcap_file.specs.declared.Record.{Record}
use Rattle.pcapng_file.specs.declared.NgRecord.{NgRecord}
use Rattle.pcapng_file.specs.Classic.{recorded}

-- a packet as it's taken behind others: at the greatest moment so far, where its own is earlier
abbrev pub arrive : ℕ → NgRecord → NgRecord
arrive greatest r = record { moment = max greatest r.moment; caught = r.caught; original = r.original; face = r.face }

-- packets as they're taken
abbrev pub arrived : ℕ → List NgRecord → List NgRecord
arrived greatest [] = []
arrived greatest (r ∷ packets) = arrive greatest r ∷ arrived (max greatest r.moment) packets

-- the greatest moment of packets and of one before them
abbrev pub greatest_of : ℕ → List NgRecord → ℕ
greatest_of before [] = before
greatest_of before (r ∷ packets) = greatest_of (max before r.moment) packets

-- those of the interface of a number
abbrev pub of_face : ℕ → List NgRecord → List NgRecord
of_face q packets = filter (λ r. r.face == q) packets

-- the records of a port, counted from 0, and those of n ports
abbrev pub port_records : List NgRecord → ℕ → List Record
port_records packets q = map recorded (of_face q packets)

abbrev pub records_of : ℕ → List NgRecord → List (List Record)
records_of n packets = map (port_records packets) (counting 0 n)

-- each packet is of one of n interfaces
abbrev pub AllFaces : ℕ → List NgRecord → Type 0
AllFaces n [] = Unit {0}
AllFaces n (r ∷ packets) = (r.face < n) × AllFaces n packets

-- the window of the first of some packets, if there is one
abbrev pub first_start : Settings → List NgRecord → Option ℕ
first_start c [] = None
first_start c (r ∷ packets) = Some (window_start c r.moment)

-- none of their windows starts too long after a first window, which is six hours or 21,600,000 milliseconds
abbrev pub NoneTooLate : Settings → ℕ → List NgRecord → Type 0
NoneTooLate c first [] = Unit {0}
NoneTooLate c first (r ∷ packets) = (is_too_late first (Some (window_start c r.moment)) ≡ false) × NoneTooLate c first packets

-- none of their windows starts too long after that of the first of them
abbrev pub IsInSpan : Settings → List NgRecord → Type 0
IsInSpan c [] = Unit {0}
IsInSpan c (r ∷ packets) = NoneTooLate c (window_start c r.moment) (r ∷ packets)
