-- The frames of a capture that comes in pieces: a head of 24 bytes, and records of 16 bytes, in which at 8 the number of their bytes
-- stands, and these bytes. Little-endian.
use Rattle.std.specs.Prelude.{◌≡◌, ℕ, ◌+◌, ◌-◌, ◌≤◌, false, nat_lt, if◌then◌else◌, List, [], ◌∷◌, ◌++◌, length, drop, Option, Some, None}
use Rattle.fab_base.specs.Layout.{field}
use Rattle.pcap_file.specs.declared.Record.{Record}
use Rattle.pcap_file.specs.Capture.{HEAD, RECORD_HEAD, MOST_STORED, at_place, head_bytes, record_bytes}
use Rattle.pcapng_file.specs.declared.NgRecord.{NgRecord}
use Rattle.pcapng_file.specs.File.{AreKept}
use Rattle.pcapng_file.specs.Classic.{classic_bytes}

-- ---- what stands in the bytes

-- the number of bytes of a record
abbrev pub stored : List ℕ → ℕ
stored l = at_place false l 8 4

-- the frame of the record that stands first, if it is whole
abbrev pub first_frame : List ℕ → Option (List ℕ)
first_frame l = if nat_lt (length l) RECORD_HEAD then None else if nat_lt (length l) (RECORD_HEAD + stored l) then None else Some (field l RECORD_HEAD (stored l))

-- what is behind it
abbrev pub behind_first : List ℕ → List ℕ
behind_first l = drop (RECORD_HEAD + stored l) l

-- These bytes are whole records of these frames, and then a rest.
abbrev pub Cuts : List (List ℕ) → List ℕ → List ℕ → Type 0
Cuts [] l rest = l ≡ rest
Cuts (f ∷ fs) l rest = (first_frame l ≡ Some f) × Cuts fs (behind_first l) rest

-- The frames of the records that are whole in the bytes of a capture so far.
pub record Wholes (fs : List (List ℕ)) (l : List ℕ) : Type 0 where
  pub rest : List ℕ
  pub cuts : Cuts fs (drop HEAD l) rest
  pub no_more : first_frame rest ≡ None

-- ---- the splitter

-- What it keeps: how many bytes of the head are still to come, and what came and wasn't given.
pub record Cutting : Type 0 where
  pub lacks : ℕ
  pub held : List ℕ

abbrev pub cutting : ℕ → List ℕ → Cutting
cutting lacks held = record { lacks = lacks; held = held }

-- it after a piece came
abbrev pub with_piece : Cutting → List ℕ → Cutting
with_piece s piece = cutting (s.lacks - length piece) (s.held ++ drop s.lacks piece)

-- What stands where these bytes came and these frames were given.
pub record Stands (fs : List (List ℕ)) (l : List ℕ) (s : Cutting) : Type 0 where
  pub lacks : s.lacks ≡ HEAD - length l
  pub cuts : Cuts fs (drop HEAD l) s.held

-- ---- captures

abbrev pub frames_of : List Record → List (List ℕ)
frames_of [] = []
frames_of (r ∷ rs) = r.caught.bytes ∷ frames_of rs

abbrev pub records_bytes : List Record → List ℕ
records_bytes [] = []
records_bytes (r ∷ rs) = record_bytes r.moment r.caught.bytes ++ records_bytes rs

-- no frame is longer than a record stores
abbrev pub AllShort : List Record → Type 0
AllShort [] = Unit {0}
AllShort (r ∷ rs) = (length r.caught.bytes ≤ MOST_STORED) × AllShort rs

abbrev pub caught_of : List NgRecord → List (List ℕ)
caught_of [] = []
caught_of (r ∷ v) = r.caught.bytes ∷ caught_of v

-- ---- laws

-- A new splitter stands before the first byte; a piece and a frame that is given keep it standing.
abbrev pub StandsOn : Type 0
StandsOn =
    (Stands [] [] (cutting HEAD []))
    × ((fs : List (List ℕ)) (l : List ℕ) (s : Cutting) (piece : List ℕ) → Stands fs l s → Stands fs (l ++ piece) (with_piece s piece))
    × ((fs : List (List ℕ)) (l : List ℕ) (s : Cutting) (f : List ℕ) → Stands fs l s → first_frame s.held ≡ Some f → Stands (fs ++ f ∷ []) l (cutting s.lacks (behind_first s.held)))

-- Where it has no more to give, the frames that it gave are those of the records that are whole in what came.
abbrev pub GaveWholes : Type 0
GaveWholes = (fs : List (List ℕ)) (l : List ℕ) (s : Cutting) → Stands fs l s → first_frame s.held ≡ None → Wholes fs l

-- These are one list of frames.
abbrev pub OneList : Type 0
OneList = (fs gs : List (List ℕ)) (l : List ℕ) → Wholes fs l → Wholes gs l → fs ≡ gs

-- More bytes take no frame back: those of a front are a front of those of the whole.
abbrev pub FrontsOnly : Type 0
FrontsOnly = (fs gs : List (List ℕ)) (l more : List ℕ) → Wholes fs l → Wholes gs (l ++ more) → (hs : List (List ℕ)) × (fs ++ hs ≡ gs)

-- Of a capture that was written they are exactly the frames of its records.
abbrev pub CaptureIsCut : Type 0
CaptureIsCut = (rs : List Record) → AllShort rs → Wholes (frames_of rs) (head_bytes ++ records_bytes rs)

-- The same of the capture of packets.
abbrev pub ClassicIsCut : Type 0
ClassicIsCut = (v : List NgRecord) → AreKept v → Wholes (caught_of v) (classic_bytes v)
