-- Pages: for each port, from the first on, the bytes that its output grows by next.
use Rattle.std.specs.Prelude.{◌≡◌, ℕ, ◌+◌, ◌<◌, ◌^◌, List, [], ◌∷◌, ◌++◌, length, map, Vec, Result, OnOk, OnErr}
use Rattle.std.specs.declared.alloc.Global.{Global}
use Rattle.fab_base.specs.declared.values.NoMemory.{NoMemory}
use Rattle.fab_policy.specs.Growing.{records_to}
use Rattle.fab_policy.specs.Outputs.{Sent}
pub use Rattle.run_files.specs.Pages.{items_in, piece_at}
use Rattle.fab_sending.specs.Message.{sent_of}
use Rattle.fab_sending.specs.declared.message.Out.{Out}
use Rattle.fab_pages.specs.declared.pages.Sendings.{Sendings}

-- a frame that is sent by what a fabric made
abbrev pub sent_by : Sendings → Out → Sent
sent_by s out = sent_of s.config.now s.drained.now.events out

-- all frames that are, in their order
abbrev pub sents_of : Sendings → List Sent
sents_of s = map (sent_by s) s.drained.now.outs

-- the moments of frames that are sent can be written
abbrev pub AreEarly : List Out → Type 0
AreEarly [] = Unit {0}
AreEarly (out ∷ outs) = (out.moment < 2 ^ 53) × AreEarly outs

-- The records of frames that are sent stand in the pages of their ports, behind what was there.
pub record Adds (sents : List Sent) (old new : List (List ℕ)) : Type 0 where
  pub count : length new ≡ length old
  pub pages : (q : ℕ) → q < length old → piece_at new q ≡ piece_at old q ++ records_to (q + 1) sents

-- bytes that were there and perhaps more behind them
abbrev pub GoesOn : List ℕ → List ℕ → Type 0
GoesOn old new = (more : List ℕ) × (new ≡ old ++ more)

-- in front of each page stands what it had
pub record GoOn (old new : List (List ℕ)) : Type 0 where
  pub count : length new ≡ length old
  pub pages : (q : ℕ) → q < length old → GoesOn (piece_at old q) (piece_at new q)

-- Pages grow by the records of frames that are sent, or by some of them where memory is refused.
pub record GrowBy (sents : List Sent) (old new : List (List ℕ)) (result : Result (Unit {0}) NoMemory) : Type 0 where
  pub adds : OnOk result (Adds sents old new)
  pub fronts : GoOn old new

-- The records of frames that are sent stand in the pages of their ports; where memory is refused the pages have what they had.
pub record Writes (sents : List Sent) (old new : List (Vec ℕ Global)) (result : Result (Unit {0}) NoMemory) : Type 0 where
  pub adds : OnOk result (Adds sents (items_in old) (items_in new))
  pub err : OnErr result (items_in new ≡ items_in old)
  pub count : length new ≡ length old
