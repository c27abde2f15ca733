-- The pcapng stream of frames that were heard (draft-ietf-opsawg-pcapng): a section header, an interface for each port, whose
-- times count nanoseconds, and a packet for each frame. Little-endian.
use Rattle.std.specs.Prelude.{ℕ, zero, suc, ◌+◌, ◌-◌, ◌*◌, ◌/◌, ◌%◌, ◌^◌, ◌<◌, ◌≤◌, true, false, List, [], ◌∷◌, ◌++◌, length, Some}
use Rattle.fab_base.specs.Layout.{spelled_low, zeros}
use Rattle.pcapng_file.specs.declared.NgRecord.{NgRecord}
use Rattle.pcapng_file.specs.declared.block.Interface.{Interface}
use Rattle.pcapng_file.specs.Block.{padded}
use Rattle.pcapng_file.specs.File.{Section, IsNg, AreKept}
use Rattle.pcapng_file.specs.Stream.{BeginsWith}
use Rattle.wire_store.specs.declared.Heard.{Heard}

-- ---- the head

-- the section header: version 1.0, of no stated length
abbrev pub section_bytes : List ℕ
section_bytes = 0x0a ∷ 0x0d ∷ 0x0d ∷ 0x0a ∷ 28 ∷ 0 ∷ 0 ∷ 0 ∷ 0x4d ∷ 0x3c ∷ 0x2b ∷ 0x1a ∷ 1 ∷ 0 ∷ 0 ∷ 0 ∷ 0xff ∷ 0xff ∷ 0xff ∷ 0xff ∷ 0xff ∷ 0xff ∷ 0xff ∷ 0xff ∷ 28 ∷ 0 ∷ 0 ∷ 0 ∷ []

-- an interface: Ethernet, no limit of stored bytes, units of 10^-9 seconds
abbrev pub face_bytes : List ℕ
face_bytes = 1 ∷ 0 ∷ 0 ∷ 0 ∷ 32 ∷ 0 ∷ 0 ∷ 0 ∷ 1 ∷ 0 ∷ 0 ∷ 0 ∷ 0 ∷ 0 ∷ 0 ∷ 0 ∷ 9 ∷ 0 ∷ 1 ∷ 0 ∷ 9 ∷ 0 ∷ 0 ∷ 0 ∷ 0 ∷ 0 ∷ 0 ∷ 0 ∷ 32 ∷ 0 ∷ 0 ∷ 0 ∷ []

abbrev pub faces_bytes : ℕ → List ℕ
faces_bytes zero = []
faces_bytes (suc n) = face_bytes ++ faces_bytes n

-- the head of a stream of n ports
abbrev pub stream_head : ℕ → List ℕ
stream_head n = section_bytes ++ faces_bytes n

-- ---- packets

abbrev pub block_size : Heard → ℕ
block_size h = 32 + padded (length h.frame)

-- type, length, port, time in two halves, stored length and original length
abbrev pub block_front : Heard → List ℕ
block_front h =
    spelled_low 4 6 ++ spelled_low 4 (block_size h) ++ spelled_low 4 h.face ++ spelled_low 4 (h.nanos / 2 ^ 32) ++ spelled_low 4 (h.nanos % 2 ^ 32)
    ++ spelled_low 4 (length h.frame) ++ spelled_low 4 (length h.frame)

-- zeros up to a multiple of 4
abbrev pub filling : Heard → List ℕ
filling h = zeros (padded (length h.frame) - length h.frame)

abbrev pub block_bytes : Heard → List ℕ
block_bytes h = block_front h ++ h.frame ++ filling h ++ spelled_low 4 (block_size h)

abbrev pub blocks_bytes : List Heard → List ℕ
blocks_bytes [] = []
blocks_bytes (h ∷ hs) = block_bytes h ++ blocks_bytes hs

-- ---- how they are read

-- what can be written of n ports: a moment before 2^32 seconds, a frame of at most 65535 bytes
pub record Fits (n : ℕ) (h : Heard) : Type 0 where
  pub face : h.face < n
  pub nanos : h.nanos < 2 ^ 32 * 1000000000
  pub frame : length h.frame ≤ 65535

abbrev pub AllFit : ℕ → List Heard → Type 0
AllFit n [] = Unit {0}
AllFit n (h ∷ hs) = Fits n h × AllFit n hs

-- the packet that a frame is read as: its moment in whole milliseconds, all of its bytes
abbrev pub packet_of : Heard → NgRecord
packet_of h = record { moment = h.nanos / 1000000; caught = record { bytes = h.frame; whole = true }; original = length h.frame; face = h.face }

abbrev pub packets_of : List Heard → List NgRecord
packets_of [] = []
packets_of (h ∷ hs) = packet_of h ∷ packets_of hs

-- an interface of the head
abbrev pub nano_face : Interface
nano_face = record { link = 1; resolution = 9; offset = false }

abbrev pub faces_of : ℕ → List Interface
faces_of zero = []
faces_of (suc n) = nano_face ∷ faces_of n

-- the section behind the head of n ports
abbrev pub section_of : ℕ → Section
section_of n = record { order = Some false; faces = faces_of n }

-- ---- laws

-- Wherever a stream of what was heard has got to, it begins with the packets so far.
abbrev pub StreamBegins : Type 0
StreamBegins = (n : ℕ) (hs : List Heard) (rest : List ℕ) → n ≤ 2 ^ 32 → AllFit n hs → BeginsWith (packets_of hs) (stream_head n ++ (blocks_bytes hs ++ rest)) (section_of n) rest

-- Ended there it is a pcapng file of them.
abbrev pub StreamIsWhole : Type 0
StreamIsWhole = (n : ℕ) (hs : List Heard) → n ≤ 2 ^ 32 → AllFit n hs → IsNg (packets_of hs) (stream_head n ++ blocks_bytes hs)

-- Each packet keeps what a reader's packets keep.
abbrev pub PacketsKept : Type 0
PacketsKept = (n : ℕ) (hs : List Heard) → n ≤ 2 ^ 32 → AllFit n hs → AreKept (packets_of hs)
