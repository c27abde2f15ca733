-- A pcapng file, read block by block.
use Rattle.std.specs.Prelude.{◌≡◌, ◌≢◌, ℕ, zero, suc, ◌+◌, ◌-◌, ◌*◌, ◌^◌, ◌<◌, ◌≤◌, Bool, not, IsTrue, ◌==◌, nat_lt, ◌&&◌, ◌⊎◌, if◌then◌else◌, List, [], ◌∷◌, ◌++◌, length, take, drop, Option, Some, None, is_some, Result, Ok, Err, IfOk, OnOk, OnErr, MatchOption}
use Rattle.fab_base.specs.Ending as ending
use Rattle.fab_base.specs.Ending.{End, end_by, WhereSaid, SparesReads}
use Rattle.fab_base.specs.Seen.{Seen, Reads}
use Rattle.fab_base.specs.declared.values.Failed.{Failed}
use Rattle.pcap_file.specs.declared.Budget.{Budget}
use Rattle.pcap_file.specs.Reading.{ReadsRose, Supply, coming}
use Rattle.pcapng_file.specs.declared.fault.NgWhy.{NgWhy}
use Rattle.pcapng_file.specs.declared.fault.NgWhy.TheVariants as why
use Rattle.pcapng_file.specs.declared.fault.NgLimit.TheVariants as limits
use Rattle.pcapng_file.specs.declared.fault.NgError.{NgError}
use Rattle.pcapng_file.specs.declared.fault.NgError.TheVariants as errors
use Rattle.pcapng_file.specs.declared.block.Head.{Head}
use Rattle.pcapng_file.specs.declared.block.Kind.TheVariants as kinds
use Rattle.pcapng_file.specs.declared.block.Interface.{Interface}
use Rattle.pcapng_file.specs.declared.packet.Content.{Content}
use Rattle.pcapng_file.specs.declared.packet.Content.TheVariants as says
use Rattle.pcapng_file.specs.declared.reading.Block.{Block}
use Rattle.pcapng_file.specs.declared.NgRecord.{NgRecord}
use Rattle.pcapng_file.specs.Block.{Test, test, NoneHolds, HEAD, head_of, head_tests, head_read, body_tests, body_read, content_of}

-- ---- what stands at a place

-- the byte order and the interfaces of the section so far; before the first section there is none
pub record Section : Type 0 where
  pub order : Option Bool
  pub faces : List Interface

abbrev pub before_all : Section
before_all = record { order = None; faces = [] }

-- the first 12 bytes
abbrev pub front_tests : Section → List ℕ → List Test
front_tests s l = test (nat_lt (length l) HEAD) why.Cut ∷ head_tests s.order (take HEAD l)

abbrev pub head_at : Section → List ℕ → Head
head_at s l = head_of s.order (take HEAD l)

-- the whole block
abbrev pub whole_tests : Section → List ℕ → List Test
whole_tests s l = let h = head_at s l in test (nat_lt (length l) h.size) why.Cut ∷ body_tests h s.faces (take h.size l)

abbrev pub content_at : Section → List ℕ → Content
content_at s l = let h = head_at s l in content_of h.kind h.big s.faces (take h.size l)

-- ---- what a block changes

abbrev pub after : Section → Content → Section
after s (says.Section big) = record { order = Some big; faces = [] }
after s (says.Interface face) = record { order = s.order; faces = s.faces ++ face ∷ [] }
after s (says.Packet r) = s
after s says.Nothing = s

abbrev pub found : Content → List NgRecord
found (says.Section big) = []
found (says.Interface face) = []
found (says.Packet r) = r ∷ []
found says.Nothing = []

-- the packets that an answer has
abbrev pub listed : Option NgRecord → List NgRecord
listed None = []
listed (Some r) = r ∷ []

-- ---- what every packet keeps

-- A packet whose numbers have their ranges, and which is whole exactly where all bytes of its frame are stored.
pub record IsPacketKept (r : NgRecord) : Type 0 where
  pub moment : r.moment < 2 ^ 32 * 1000
  pub stored : length r.caught.bytes ≤ 65535
  pub original : r.original < 2 ^ 32
  pub whole : r.caught.whole ≡ not (nat_lt (length r.caught.bytes) r.original)

abbrev pub AreKept : List NgRecord → Type 0
AreKept [] = Unit {0}
AreKept (r ∷ v) = IsPacketKept r × AreKept v

-- ---- the file

-- From a place on, where a section stands so, these bytes are n blocks, at none of which a test holds, and these are their
-- packets.
abbrev pub Blocks : ℕ → Section → List NgRecord → List ℕ → Type 0
Blocks zero s v l = IsTrue (is_some s.order) × (v ≡ []) × (l ≡ [])
Blocks (suc n) s v l =
    NoneHolds (front_tests s l) × NoneHolds (whole_tests s l)
    × (w : List NgRecord) × (v ≡ found (content_at s l) ++ w) × Blocks n (after s (content_at s l)) w (drop (head_at s l).size l)

-- these bytes are a pcapng file with these packets
abbrev pub IsNg : List NgRecord → List ℕ → Type 0
IsNg v l = (n : ℕ) × Blocks n before_all v l

-- ---- reading, with limits

abbrev pub at_fault : {A : Type 0} → ℕ → Result A NgWhy → Result A NgError
at_fault at (Ok a) = Ok a
at_fault at (Err fault) = Err (errors.Fault at fault)

-- what is read of what was read
abbrev pub and_then : {A B : Type 0} → Result A NgError → (A → Result B NgError) → Result B NgError
and_then (Ok a) f = f a
and_then (Err e) f = Err e

-- the frames that a block takes
abbrev pub frames_of : Content → ℕ
frames_of content = length (found content)

abbrev pub counted : Budget → ℕ → Content → Result (Option Block) NgError
counted budget size content = if nat_lt budget.frames (frames_of content) then Err (errors.Limit limits.Frames) else Ok (Some (record { size = size; content = content }))

-- behind the tests of the first 12 bytes
abbrev pub step_in : Budget → ℕ → List Interface → List ℕ → Head → Result (Option Block) NgError
step_in budget at faces l h =
    if nat_lt budget.bytes h.size then Err (errors.Limit limits.Bytes)
    else if nat_lt (length l) h.size then Err (errors.Fault at why.Cut)
    else and_then (at_fault at (body_read h faces (take h.size l))) (counted budget h.size)

-- The next block, none at the end, or the first test or limit that holds. The limit of bytes stands behind the tests of
-- the first 12 bytes, that of frames behind all others.
unfoldable pub step_of : Budget → ℕ → Section → List ℕ → Result (Option Block) NgError
step_of budget at s l =
    if length l == 0 && is_some s.order then Ok None
    else if nat_lt (length l) HEAD then Err (errors.Fault at why.Cut)
    else and_then (at_fault at (head_read s.order (take HEAD l))) (step_in budget at s.faces l)

abbrev pub less : Budget → Block → Budget
less budget b = record { bytes = budget.bytes - b.size; frames = budget.frames - frames_of b.content }

abbrev pub in_front : List NgRecord → Result (List NgRecord) NgError → Result (List NgRecord) NgError
in_front v (Ok w) = Ok (v ++ w)
in_front v (Err e) = Err e

abbrev pub go_on : (Block → Result (List NgRecord) NgError) → Result (Option Block) NgError → Result (List NgRecord) NgError
go_on rest (Ok (Some b)) = rest b
go_on rest (Ok None) = Ok []
go_on rest (Err e) = Err e

-- the packets from a place on, of at most n blocks, or the first fault or limit
abbrev pub read_from : ℕ → Budget → ℕ → Section → List ℕ → Result (List NgRecord) NgError
read_from zero budget at s l = Err errors.Memory
read_from (suc n) budget at s l = go_on (λ b. in_front (found b.content) (read_from n (less budget b) (at + b.size) (after s b.content) (drop b.size l))) (step_of budget at s l)

unfoldable pub ng_read : Budget → List ℕ → Result (List NgRecord) NgError
ng_read budget l = read_from (suc (length l)) budget 0 before_all l

-- ---- answers

-- what an error rests on
abbrev pub ng_end : NgError → End
ng_end (errors.Fault at fault) = ending.Said
ng_end (errors.Limit limit) = ending.Said
ng_end (errors.Read failed) = ending.Read
ng_end errors.Memory = ending.Memory

-- an answer is what was to be read; a depot's fault and want of memory say nothing
abbrev pub TellsRead : {A : Type 0} → Result A NgError → Result A NgError → Type 0
TellsRead wanted result = WhereSaid (end_by ng_end result) (wanted ≡ result)

-- an error that isn't the depot's
abbrev pub NotRead : NgError → Type 0
NotRead (errors.Fault at fault) = Unit {0}
NotRead (errors.Limit limit) = Unit {0}
NotRead (errors.Read failed) = ⊥
NotRead errors.Memory = Unit {0}

-- Memory is asked for behind all tests of a block: want of it comes only where no fault stands there.
abbrev pub AsksLast : {A B : Type 0} → Result A NgWhy → Result B NgError → Type 0
AsksLast says (Ok b) = Unit {0}
AsksLast says (Err (errors.Fault at fault)) = Unit {0}
AsksLast says (Err (errors.Limit limit)) = Unit {0}
AsksLast says (Err (errors.Read failed)) = Unit {0}
AsksLast says (Err errors.Memory) = OnErr says ⊥

-- What reading a file from a slot does. Where the depot tells, the answer is what the bytes say that the slot has left, all
-- of which are taken then, except that the depot may fail, which its count shows, and memory may be refused. The budget
-- is lowered on Ok alone.
pub record NgReads (slot : ℕ) (old new : Seen) (had left : Budget) (result : Result (List NgRecord) NgError) : Type 0 where
  pub reads : Reads (old.name slot) old new
  pub exact : IsTrue old.told → TellsRead (ng_read had (old.left slot)) result
  pub all : IsTrue old.told → OnOk result (new.left slot ≡ [])
  pub bytes : IsTrue old.told → OnOk result (left.bytes + length (old.left slot) ≡ had.bytes)
  pub frames : IfOk result (λ v. left.frames + length v ≡ had.frames)
  pub untouched : OnErr result (left ≡ had)
  pub kept : IfOk result AreKept
  pub cause : (f : Failed) → result ≡ Err (errors.Read f) → ReadsRose slot old new
  pub counts : SparesReads (end_by ng_end result) old new

-- ---- inside the crate

-- A place of a file: where it is, the section there, and what is left of the limits.
pub record Place : Type 0 where
  pub at : ℕ
  pub section : Section
  pub left : Budget

-- such a place of its parts
abbrev pub place : ℕ → Section → Budget → Place
place at section left = record { at = at; section = section; left = left }

-- Of these bytes, which a block begins, those are left that weren't fetched: what was fetched isn't a whole block.
abbrev pub Lacks : Section → List ℕ → List ℕ → Type 0
Lacks s l left = (length l < HEAD + length left) ⊎ (length l < (head_at s l).size + length left)

-- Memory is asked for behind the first 12 bytes of a block, where they stand there, are right, and the block is within the bytes that are
-- left and isn't one that goes by. Where it is cut nothing behind them was taken.
pub record AsksMemory (slot : ℕ) (here : Place) (old new : Supply) : Type 0 where
  pub there : HEAD ≤ length (coming slot old)
  pub right : head_read here.section.order (take HEAD (coming slot old)) ≡ Ok (head_at here.section (coming slot old))
  pub room : (head_at here.section (coming slot old)).size ≤ here.left.bytes
  pub held : (head_at here.section (coming slot old)).kind ≢ kinds.Other
  pub cut : length (coming slot old) < (head_at here.section (coming slot old)).size → coming slot new ≡ drop HEAD (coming slot old)

-- One block from what is held and a slot, at a place of the file. The depot fails only while bytes of the block lack, and want of memory
-- stands for no fault that is found before memory is asked for.
pub record BlockRead (slot : ℕ) (here : Place) (old new : Supply) (result : Result (Option Block) NgError) : Type 0 where
  pub reads : Reads (old.depot.name slot) old.depot new.depot
  pub tells : IsTrue old.depot.told → TellsRead (step_of here.left here.at here.section (coming slot old)) result
  pub behind : IsTrue old.depot.told → IfOk result (λ o. MatchOption o (coming slot old ≡ []) (λ b. (b.size ≤ length (coming slot old)) × (coming slot new ≡ drop b.size (coming slot old))))
  pub ended : IsTrue old.depot.told → IfOk result (λ o. MatchOption o (coming slot new ≡ []) (λ b. Unit {0}))
  pub fits : IfOk result (λ o. MatchOption o (Unit {0}) (λ b. (HEAD ≤ b.size) × (b.size ≤ here.left.bytes) × (frames_of b.content ≤ here.left.frames) × AreKept (found b.content)))
  pub asks : IsTrue old.depot.told → result ≡ Err errors.Memory → AsksMemory slot here old new
  pub cause : (f : Failed) → result ≡ Err (errors.Read f) → ReadsRose slot old.depot new.depot
  pub waits : IsTrue old.depot.told → (f : Failed) → result ≡ Err (errors.Read f) → Lacks here.section (coming slot old) (new.depot.left slot)
  pub counts : SparesReads (end_by ng_end result) old.depot new.depot
