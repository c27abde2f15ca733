-- Bytes of a block that go by without being held.
use Rattle.std.specs.Prelude.{◌≡◌, ◌≢◌, ℕ, ◌+◌, ◌-◌, ◌≤◌, ◌<◌, IsTrue, List, [], ◌++◌, length, take, drop, Option, Result, Err, IfOk, OnOk, OnErr, MatchOption}
use Rattle.fab_base.specs.Ending.{end_by, SparesReads}
use Rattle.fab_base.specs.Seen.{Reads, SameReadFaults}
use Rattle.fab_base.specs.declared.values.Failed.{Failed}
use Rattle.pcap_file.specs.Capture.{at_place}
use Rattle.pcap_file.specs.declared.Budget.{Budget}
use Rattle.pcap_file.specs.Reading.{ReadsRose, Supply, coming}
use Rattle.pcapng_file.specs.declared.fault.NgError.{NgError}
use Rattle.pcapng_file.specs.declared.fault.NgError.TheVariants as errors
use Rattle.pcapng_file.specs.declared.block.Head.{Head}
use Rattle.pcapng_file.specs.declared.block.Interface.{Interface}
use Rattle.pcapng_file.specs.declared.reading.Block.{Block}
use Rattle.pcapng_file.specs.File.{TellsRead, ng_end, step_in, frames_of, AreKept, found}

-- So many of the wanted bytes went by, fewer only at the end. A fetch fails only while some of them lack.
pub record Skips (slot wanted : ℕ) (old new : Supply) (result : Result ℕ Failed) : Type 0 where
  pub reads : Reads (old.depot.name slot) old.depot new.depot
  pub bound : IfOk result (λ n. n ≤ wanted)
  pub taken : IsTrue old.depot.told → IfOk result (λ n. (n ≤ length (coming slot old)) × (coming slot new ≡ drop n (coming slot old)))
  pub ended : IsTrue old.depot.told → IfOk result (λ n. n < wanted → coming slot new ≡ [])
  pub waits : IsTrue old.depot.told → OnErr result (length (coming slot old) < wanted + length (new.depot.left slot))
  pub cause : OnErr result (ReadsRose slot old.depot new.depot)
  pub counts : OnOk result (SameReadFaults old.depot new.depot)

-- A block of which the first 12 bytes were given, and what they say.
pub record Begun : Type 0 where
  pub front : List ℕ
  pub head : Head

-- such a block of its parts
abbrev pub begun : List ℕ → Head → Begun
begun front head = record { front = front; head = head }

-- the bytes from a block's first on
abbrev pub from_front : ℕ → Begun → Supply → List ℕ
from_front slot block s = block.front ++ coming slot s

-- The length at the end of a block, behind which the file goes on, or none where the block is cut.
pub record HasSecond (slot : ℕ) (block : Begun) (old new : Supply) (result : Result (Option ℕ) Failed) : Type 0 where
  pub reads : Reads (old.depot.name slot) old.depot new.depot
  pub tells : IsTrue old.depot.told → let h = block.head in let l = from_front slot block old in
      IfOk result (λ o. MatchOption o (length l < h.size) (λ n. (h.size ≤ length l) × (at_place h.big (take h.size l) (h.size - 4) 4 ≡ n) × (coming slot new ≡ drop h.size l)))
  pub waits : IsTrue old.depot.told → OnErr result (length (from_front slot block old) < block.head.size + length (new.depot.left slot))
  pub cause : OnErr result (ReadsRose slot old.depot new.depot)
  pub counts : OnOk result (SameReadFaults old.depot new.depot)

-- A block that goes by, within the bytes of every budget that has room for it. No memory is asked for.
pub record PassesOver (slot at : ℕ) (block : Begun) (old new : Supply) (result : Result (Option Block) NgError) : Type 0 where
  pub reads : Reads (old.depot.name slot) old.depot new.depot
  pub tells : IsTrue old.depot.told → (budget : Budget) (faces : List Interface) → block.head.size ≤ budget.bytes → TellsRead (step_in budget at faces (from_front slot block old) block.head) result
  pub behind : IsTrue old.depot.told → let l = from_front slot block old in
      IfOk result (λ o. MatchOption o ⊥ (λ b. (b.size ≤ length l) × (coming slot new ≡ drop b.size l)))
  pub fits : IfOk result (λ o. MatchOption o ⊥ (λ b. (b.size ≡ block.head.size) × (frames_of b.content ≡ 0) × AreKept (found b.content)))
  pub asks : result ≢ Err errors.Memory
  pub cause : (f : Failed) → result ≡ Err (errors.Read f) → ReadsRose slot old.depot new.depot
  pub waits : IsTrue old.depot.told → (f : Failed) → result ≡ Err (errors.Read f) → length (from_front slot block old) < block.head.size + length (new.depot.left slot)
  pub counts : SparesReads (end_by ng_end result) old.depot new.depot
