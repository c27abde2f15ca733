-- The outputs between two lines and between two windows. No public clause cites this module.
use Rattle.std.specs.Prelude.{◌≡◌, ℕ, ◌+◌, ◌<◌, ◌^◌, IsTrue, List, [], ◌∷◌, ◌++◌, length, slice_get, Option, None, Some, Result, Ok, Err, OnOk, OnErr, IsErrOf, IfErr}
use Rattle.fab_base.specs.Ending.{end_by, SparesReads}
use Rattle.fab_base.specs.Seen.{Seen, Touches, Nothing, SameReadFaults, SameWriteFaults}
use Rattle.fab_base.specs.declared.values.Failed.{Failed}
use Rattle.fab_config.specs.Settings.{Settings}
use Rattle.pcap_file.specs.Capture.{head_bytes}
use Rattle.fab_policy.specs.Journal.{Journal}
use Rattle.fab_policy.specs.Outputs.{Sent}
use Rattle.fab_base.specs.Slots.{NameIn, slot_at}
use Rattle.fab_pages.specs.Pages.{piece_at}
use Rattle.fab_replay.specs.AllOutputs.{AreRead, IsFirst, OneRose, page_at}
use Rattle.fab_replay.specs.Counts.{check_end}
use Rattle.fab_replay.specs.FrontFrom.{Origin, capture_from}
use Rattle.fab_replay.specs.Outputs.{IsRead}
use Rattle.fab_replay.specs.declared.fault.CheckFault.{CheckFault}
use Rattle.fab_replay.specs.declared.fault.CheckFault.TheVariants as fault
use Rattle.fab_replay.specs.declared.outputs.Compared.{Compared}
use Rattle.fab_replay.specs.declared.owed.Owed.{Owed}

-- ---- pages

-- the moments of what is sent can be written
abbrev pub AreSoon : List Sent → Type 0
AreSoon [] = Unit {0}
AreSoon (s ∷ sents) = (s.moment < 2 ^ 53) × AreSoon sents

-- From some entries behind a state to others the pages of a forwarder's n ports grew by the records of what was sent between them: what
-- was, with the pages, the capture of the first, is with the pages that of the second.
pub record PagesGrow (c : Settings) (n : ℕ) (o : Origin) (J K : Journal) (old new : List (List ℕ)) : Type 0 where
  pub count : length new ≡ length old
  pub pages : (q : ℕ) → q < length old → (before : List ℕ) → capture_from c n o (q + 1) J ≡ before ++ piece_at old q → capture_from c n o (q + 1) K ≡ before ++ piece_at new q

-- ---- pages and outputs

-- as many pages as outputs are compared, and so many
pub record AreMany (n : ℕ) (o : Owed) : Type 0 where
  pub pages : length o.pages.items ≡ n
  pub all : length o.all.items ≡ n

-- Nothing was read of so many outputs, and each begins with the head of a capture.
pub record AreNew (n : ℕ) (o : Owed) : Type 0 where
  pub many : AreMany n o
  pub heads : (q : ℕ) → q < n → page_at o.pages.items q ≡ head_bytes
  pub fresh : (q : ℕ) (c : Compared) → slice_get o.all.items q ≡ Some c → (found : List ℕ) → IsRead c found found []

-- Each output, as it stood at the start, was read against the capture of entries but for what is on its page.
pub record IsOwed (c : Settings) (n : ℕ) (from : Origin) (start d : Seen) (outs : List ℕ) (J : Journal) (o : Owed) : Type 0 where
  pub before : ℕ → List ℕ
  pub read : AreRead d outs o.all.items (λ q. start.left (slot_at outs q)) before
  pub next : (q : ℕ) → q < length outs → capture_from c n from (q + 1) J ≡ before q ++ page_at o.pages.items q

-- Reading each output on against its page, and emptying the pages.
pub record ReadsOn (slots : List ℕ) (a b : Seen) (o o' : Owed) (result : Result (Unit {0}) Failed) : Type 0 where
  pub touches : Touches Nothing (NameIn a slots) a b
  pub many : AreMany (length slots) o'
  pub read : IsTrue a.told → OnOk result ((found wanted : ℕ → List ℕ) → AreRead a slots o.all.items found wanted → AreRead b slots o'.all.items found (λ q. wanted q ++ page_at o.pages.items q))
  pub empty : OnOk result ((q : ℕ) → page_at o'.pages.items q ≡ [])
  pub cause : OnErr result (OneRose slots a b)
  pub counts : OnOk result (SameReadFaults a b)
  pub writes : SameWriteFaults a b

-- ---- the end

-- what the outputs are at the end against what they should be
abbrev pub Tells : ℕ → (ℕ → List ℕ) → (ℕ → List ℕ) → Result (Unit {0}) CheckFault → Type 0
Tells n found wanted (Ok done) = IsFirst None n found wanted
Tells n found wanted (Err (fault.Output port at)) = IsFirst (Some (port, at)) n found wanted
Tells n found wanted (Err fault.Read) = Unit {0}
Tells n found wanted (Err _) = ⊥

-- what a check ends with by the first output that isn't as it should be
abbrev pub answer_by : Option (ℕ × ℕ) → Result (Unit {0}) CheckFault
answer_by None = Ok tt
answer_by (Some (port, at)) = Err (fault.Output port at)

-- an output that differs, or a fault of reading
abbrev pub IsOfOutput : CheckFault → Type 0
IsOfOutput (fault.Output port at) = Unit {0}
IsOfOutput fault.Read = Unit {0}
IsOfOutput _ = ⊥

-- Reading each output to its end.
pub record ReadsOut (slots : List ℕ) (a b : Seen) (o : Owed) (result : Result (Unit {0}) CheckFault) : Type 0 where
  pub touches : Touches Nothing (NameIn a slots) a b
  pub tells : IsTrue a.told → (found wanted : ℕ → List ℕ) → AreRead a slots o.all.items found wanted → Tells (length slots) found (λ q. wanted q ++ page_at o.pages.items q) result
  pub only : IfErr result IsOfOutput
  pub cause : IsErrOf result fault.Read → OneRose slots a b
  pub counts : SparesReads (end_by check_end result) a b × SameWriteFaults a b
