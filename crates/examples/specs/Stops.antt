-- Where the reading of captures stops, and what is kept of each.
use Rattle.std.specs.Prelude.{◌≡◌, ℕ, ◌*◌, true, false, List, [], ◌∷◌, ◌++◌, refl, Option, Some, None, Ok, Err, map, option_to_list}
use Rattle.fab_base.specs.Layout.{spelled_low, zeros}
use Rattle.pcap_file.specs.Capture as pcap
use Rattle.pcap_file.specs.declared.CaptureHead.{CaptureHead}
use Rattle.pcap_file.specs.declared.CapFault.TheVariants.{Short, BadMagic, BadVersion, NotEthernet}
use Rattle.pcap_file.specs.Reading as reader
use Rattle.window_records.specs.Looks as looks
use Rattle.window_records.specs.Looks.{MOST_SPAN}
use Rattle.fab_policy.specs.Written as written
use Rattle.examples.specs.Given.{K}

abbrev pub head : CaptureHead
head = record { big = false; nano = false }

-- an empty record, the head of one that says how much it stores, and a few bytes of one
abbrev pub empty_at : ℕ → List ℕ
empty_at moment = pcap.record_bytes moment []

abbrev pub storing : ℕ → ℕ → List ℕ
storing moment len = pcap.time_bytes moment ++ spelled_low 4 len ++ spelled_low 4 len

abbrev pub cut : List ℕ
cut = zeros 10

-- captures behind their heads
abbrev pub captures : List (List ℕ) → List looks.Opened
captures records = map (λ l. record { head = head; body = l }) records

-- where they stop, with limits of so many bytes and frames
abbrev pub stop_of : List (List ℕ) → Option looks.Stop
stop_of records = looks.stop K 1000000 1000 (captures records)

-- of two faults in one window the one of the lower port comes first
pub by_port : stop_of ((empty_at 1000 ++ empty_at 1010 ++ cut) ∷ (empty_at 1000 ++ cut) ∷ []) ≡ Some (record { why = looks.Fails reader.Cut; port = 1; at = 56; window = Some 1000 })
unfolding looks.stop looks.looks pcap.next
by_port = refl

-- and of two windows the earlier one
pub by_window : stop_of ((empty_at 1000 ++ empty_at 1100 ++ empty_at 1200 ++ cut) ∷ (empty_at 1000 ++ storing 1010 70000) ∷ []) ≡
    Some (record { why = looks.Fails (reader.Long 70000); port = 2; at = 40; window = Some 1000 })
unfolding looks.stop looks.looks pcap.next
by_window = refl

-- a first look has no window, and nothing is kept
pub first_look : stop_of ((empty_at 1000 ++ empty_at 1100) ∷ cut ∷ []) ≡ Some (record { why = looks.Fails reader.Cut; port = 2; at = 24; window = None })
unfolding looks.stop looks.looks pcap.next
first_look = refl

pub nothing_kept : map (λ r. r.moment) (looks.kept K (stop_of ((empty_at 1000 ++ empty_at 1100) ∷ cut ∷ [])) (pcap.records head (pcap.head_bytes ++ empty_at 1000 ++ empty_at 1100))) ≡ []
unfolding looks.stop looks.looks pcap.next
nothing_kept = refl

-- six hours after the first window is not too late, and a window later is
pub six_hours : stop_of ((empty_at 1000 ++ empty_at 21601000 ++ cut) ∷ []) ≡ Some (record { why = looks.Fails reader.Cut; port = 1; at = 56; window = Some 21601000 })
unfolding looks.stop looks.looks pcap.next
six_hours = refl

pub too_late : map {A = looks.Stop} {B = looks.Reason} (λ s. s.why) (option_to_list (stop_of ((empty_at 30000000 ++ empty_at 51600100 ++ cut) ∷ []))) ≡ looks.Span ∷ []
unfolding looks.stop looks.looks pcap.next
too_late = refl

pub late_kept : map (λ r. r.moment) (looks.kept K (stop_of ((empty_at 1000 ++ empty_at 1001 ++ empty_at 30000000 ++ cut) ∷ [])) (pcap.records head (pcap.head_bytes ++ empty_at 1000 ++ empty_at 1001 ++ empty_at 30000000))) ≡
    1000 ∷ 1001 ∷ []
unfolding looks.stop looks.looks pcap.next
late_kept = refl

-- a late first window is no limit on what lies close behind it
pub close_behind : stop_of ((empty_at 30000000 ++ empty_at 30000100) ∷ []) ≡ None
unfolding looks.stop looks.looks pcap.next
close_behind = refl

-- moments that go back are those of the greatest record so far
pub back : map (λ r. r.moment) (pcap.records head (pcap.head_bytes ++ empty_at 2000 ++ empty_at 1500 ++ empty_at 1700)) ≡ 2000 ∷ 2000 ∷ 2000 ∷ []
unfolding pcap.next
back = refl

pub back_window : stop_of ((empty_at 2000 ++ empty_at 1500 ++ empty_at 1700 ++ cut) ∷ []) ≡ Some (record { why = looks.Fails reader.Cut; port = 1; at = 72; window = Some 2000 })
unfolding looks.stop looks.looks pcap.next
back_window = refl

-- the most that a record stores, of which nothing is there, and one more
pub most_stored : stop_of (storing 1000 65535 ∷ []) ≡ Some (record { why = looks.Fails reader.Cut; port = 1; at = 24; window = None })
unfolding looks.stop looks.looks pcap.next
most_stored = refl

pub too_long : stop_of (storing 1000 65536 ∷ []) ≡ Some (record { why = looks.Fails (reader.Long 65536); port = 1; at = 24; window = None })
unfolding looks.stop looks.looks pcap.next
too_long = refl

-- a record of 60 bytes takes 76 from what is left, also one of which bytes are missing
pub enough : looks.stop K 76 1 (captures ((storing 1000 60 ++ zeros 60) ∷ [])) ≡ None
unfolding looks.stop looks.looks pcap.next
enough = refl

pub not_enough : looks.stop K 75 1 (captures ((storing 1000 60 ++ zeros 60) ∷ [])) ≡ Some (record { why = looks.Fails reader.NoBytes; port = 1; at = 24; window = None })
unfolding looks.stop looks.looks pcap.next
not_enough = refl

pub not_enough_cut : looks.stop K 75 1 (captures ((storing 1000 60 ++ zeros 59) ∷ [])) ≡ Some (record { why = looks.Fails reader.NoBytes; port = 1; at = 24; window = None })
unfolding looks.stop looks.looks pcap.next
not_enough_cut = refl

pub second_record : looks.stop K 91 2 (captures ((storing 1000 60 ++ zeros 60 ++ empty_at 1001) ∷ [])) ≡ Some (record { why = looks.Fails reader.NoBytes; port = 1; at = 100; window = Some 1000 })
unfolding looks.stop looks.looks pcap.next
second_record = refl

-- frames are counted over all ports
pub second_frame : looks.stop K 1000000 1 (captures (empty_at 1000 ∷ empty_at 1000 ∷ [])) ≡ Some (record { why = looks.Fails reader.NoFrames; port = 2; at = 24; window = None })
unfolding looks.stop looks.looks pcap.next
second_frame = refl

-- want of bytes comes before want of frames
pub no_bytes : reader.limit_of 15 0 0 ≡ Some reader.NoBytes
no_bytes = refl

pub no_frames : reader.limit_of 16 0 0 ≡ Some reader.NoFrames
no_frames = refl

-- the longest span is six hours
pub span : MOST_SPAN ≡ 6 * 60 * 60 * 1000
span = refl

-- heads that are refused
pub short : pcap.head_decoded (zeros 23) ≡ Err Short
unfolding pcap.head_decoded
short = refl

pub bad_magic : pcap.head_decoded (zeros 24) ≡ Err BadMagic
unfolding pcap.head_decoded
bad_magic = refl

pub bad_version : pcap.head_decoded (0xd4 ∷ 0xc3 ∷ 0xb2 ∷ 0xa1 ∷ 2 ∷ 0 ∷ 3 ∷ 0 ∷ zeros 16) ≡ Err BadVersion
unfolding pcap.head_decoded
bad_version = refl

pub not_ethernet : pcap.head_decoded (0xd4 ∷ 0xc3 ∷ 0xb2 ∷ 0xa1 ∷ 2 ∷ 0 ∷ 4 ∷ 0 ∷ zeros 16) ≡ Err NotEthernet
unfolding pcap.head_decoded
not_ethernet = refl

pub nano_low : pcap.head_decoded (0x4d ∷ 0x3c ∷ 0xb2 ∷ 0xa1 ∷ 2 ∷ 0 ∷ 4 ∷ 0 ∷ zeros 12 ++ 1 ∷ zeros 3) ≡ Ok (record { big = false; nano = true })
unfolding pcap.head_decoded
nano_low = refl

pub micro_high : pcap.head_decoded (0xa1 ∷ 0xb2 ∷ 0xc3 ∷ 0xd4 ∷ 0 ∷ 2 ∷ 0 ∷ 4 ∷ zeros 15 ++ 1 ∷ []) ≡ Ok (record { big = true; nano = false })
unfolding pcap.head_decoded
micro_high = refl

-- a record is whole unless it stores less than the frame had
pub wholes : map (λ r. r.caught.whole) (pcap.records head (pcap.head_bytes ++ zeros 8 ++ 2 ∷ 0 ∷ 0 ∷ 0 ∷ 3 ∷ 0 ∷ 0 ∷ 0 ∷ 7 ∷ 7 ∷ zeros 8 ++ 2 ∷ 0 ∷ 0 ∷ 0 ∷ 1 ∷ 0 ∷ 0 ∷ 0 ∷ 7 ∷ 7 ∷ [])) ≡ false ∷ true ∷ []
unfolding pcap.next
wholes = refl

-- ---- a run that ends early

-- the records in windows that start before a moment, which may lie inside one
pub before_a_moment : map (map (λ r. r.moment)) (written.before K 1150 (pcap.records head (pcap.head_bytes ++ empty_at 1099 ++ empty_at 1100 ++ empty_at 1199 ++ empty_at 1200) ∷ [] ∷ [])) ≡ (1099 ∷ 1100 ∷ 1199 ∷ []) ∷ [] ∷ []
unfolding pcap.next
before_a_moment = refl

-- what a stop in the window 1100 keeps of two ports
pub kept_of_all : map (map (λ r. r.moment)) (looks.all_kept K (record { why = looks.Fails reader.Cut; port = 1; at = 56; window = Some 1100 })
    (pcap.records head (pcap.head_bytes ++ empty_at 1000 ++ empty_at 1100) ∷ pcap.records head (pcap.head_bytes ++ empty_at 1150) ∷ [])) ≡ (1000 ∷ []) ∷ [] ∷ []
unfolding pcap.next
kept_of_all = refl
