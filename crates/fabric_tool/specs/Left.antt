-- What `run` leaves in its outputs.
use Rattle.std.specs.Prelude.{◌≡◌, ℕ, ◌⊎◌, List, [], ◌∷◌, ◌++◌, length, map, get_or, Option, Some, None, true, false, IfSome, IsTrue}
use Rattle.fab_base.specs.Seen.{Seen, Rose, SameFiles}
use Rattle.fab_base.specs.declared.values.Caught.{Caught}
use Rattle.fab_config.specs.Settings.{Settings, is_in_range}
use Rattle.fab_policy.specs.Forwarding.{is_data_frame, forwards, IsForwardedTo, IsDroppedBy}
use Rattle.heard_frames.specs.Heard.{decoded, d_id}
use Rattle.fab_policy.specs.Journal.{Journal, followed, frame_count}
use Rattle.fab_policy.specs.Live.{NamesTheLive}
use Rattle.fab_policy.specs.Legal.{Legal}
use Rattle.window_records.specs.Looks.{Opened, all_records}
use Rattle.fab_policy.specs.Rules.{rule_for}
use Rattle.fab_policy.specs.Sound.{IsGrantable, HaveDifferentMacs}
use Rattle.fab_policy.specs.State.{Tables, tables_of, port_at, overdue, now_of}
use Rattle.fab_policy.specs.Steps.{InPool}
use Rattle.fab_policy.specs.Text.{text}
use Rattle.fab_policy.specs.Written.{HaveDifferentNames, before, egresses}
use Rattle.fab_policy.specs.declared.event.Event.{Event}
use Rattle.fab_policy.specs.declared.event.Event.TheVariants.{Frame}
use Rattle.fab_policy.specs.declared.verdict.Verdict.{Verdict}
use Rattle.fab_policy.specs.declared.verdict.Verdict.TheVariants.{Granted}
use Rattle.run_files.specs.declared.fault.RunFault.{RunFault}
use Rattle.fab_windows.specs.Files.{GoesOn, InOrder, captures, text_so_far, captures_so_far, file_bytes}
use Rattle.fab_windows.specs.Run.{IsRunOver}
use Rattle.fab_base.specs.Ending.{RoseIn}
pub use Rattle.fab_base.specs.Ending.{IsOldOrFront}
pub use Rattle.side_runs.specs.Bridged.{AreOldOrFront}
use Rattle.fabric_tool.specs.Command.{RunNames}
use Rattle.run_files.specs.Names.{Among}
use Rattle.fabric_tool.specs.Inputs.{AreCaptures, HasInputs, IsHeadUnread, StopsBy, stop_of, kept_of}

-- ---- files

-- the journal's file holds the text of this journal, and each output its capture
pub record HoldsAll (k : RunNames) (c : Settings) (d : Seen) (J : Journal) : Type 0 where
  pub lines : d.file k.journal ≡ Some (text J)
  pub captures : map (λ n. d.file n) k.outs ≡ map (λ l. Some l) (egresses c (length k.outs) J)

-- Nothing was written: of the outputs, which are opened in this order, the first are empty, and every other file is as it was.
pub record AreUnwritten (names : List (List ℕ)) (old new : Seen) : Type 0 where
  pub before : List (List ℕ)
  pub behind : List (List ℕ)
  pub are : names ≡ before ++ behind
  pub empty : (m : List ℕ) → Among before m → new.file m ≡ Some []
  pub same : (m : List ℕ) → ¬ Among before m → new.file m ≡ old.file m

-- The journal and then the outputs were written in port order, from nothing or from the whole text and the captures of an earlier
-- journal, so that no output is ahead of a journal that isn't whole.
pub record AreInOrder (k : RunNames) (c : Settings) (d : Seen) (J : Journal) : Type 0 where
  pub before : Option Journal
  pub begins : IfSome before (λ I. GoesOn I J)
  pub order : InOrder d k.journal (length k.outs) (λ q. get_or k.outs q []) (file_bytes (text_so_far before) (captures_so_far c (length k.outs) before)) (file_bytes (text J) (captures c (length k.outs) J))

-- Each output is as it was, or holds a front of the text of this journal or of its capture, written in order. The names are those of
-- all that is opened to be written.
pub record HoldsFronts (k : RunNames) (names : List (List ℕ)) (c : Settings) (old new : Seen) (J : Journal) : Type 0 where
  pub lines : IsOldOrFront old new k.journal (text J)
  pub captures : AreOldOrFront old new k.outs (egresses c (length k.outs) J)
  pub order : AreUnwritten names old new ⊎ AreInOrder k c new J

-- ---- a safe journal

-- Live addresses ascend, and so differ; and live N_Ports have different port names and different granted MACs.
pub record AreDistinct (c : Settings) (T : Tables) : Type 0 where
  pub addresses : InPool c T.ports
  pub names : HaveDifferentNames T.ports
  pub macs : HaveDifferentMacs c T.ports

-- What holds of a journal wherever it stands: `I` is what it was before some of its entries.
pub record IsSafe (c : Settings) (J : Journal) : Type 0 where
  pub legal : Legal c J
  -- addresses, names and MACs are distinct
  pub distinct : (I : Journal) (later : List Event) → J ≡ followed I later → AreDistinct c (tables_of c I)
  -- an address is granted where nobody holds it, or given back to its own name by a new FLOGI of its ENode
  pub grants : (I : Journal) (later : List Event) (port index a : ℕ) (caught : Caught) → J ≡ followed I (Frame port index caught (Granted a) ∷ later) → IsGrantable c I port caught a
  -- a data frame goes on exactly where its source MAC, its port, both logins and a zone allow it, and else is dropped by the
  -- first rule of the table
  pub data_frames : (I : Journal) (later : List Event) (port index : ℕ) (caught : Caught) (verdict : Verdict) → J ≡ followed I (Frame port index caught verdict ∷ later) → is_data_frame c caught ≡ true →
      (forwards c (tables_of c I) port caught ≡ true → IsForwardedTo (port_at (d_id caught) (tables_of c I).ports) verdict)
      × (forwards c (tables_of c I) port caught ≡ false → IsDroppedBy (rule_for c (tables_of c I) port caught (decoded caught)) verdict)
  -- whom an entry names in what it sends is logged in: who asks and is answered of, both ends of a frame that goes on, who is told of a
  -- state change and of whom, but for those whose login the entry ends
  pub named : (I : Journal) (e : Event) (later : List Event) → J ≡ followed I (e ∷ later) → NamesTheLive c I e
  -- nobody who is logged in is past the silence limit at the clock
  pub quiet : (I : Journal) (later : List Event) → J ≡ followed I later → overdue c (tables_of c I) (now_of (tables_of c I)) ≡ []

-- Each legal journal of a configuration is safe.
abbrev pub LegalIsSafe : Type 0
LegalIsSafe = (c : Settings) (J : Journal) → IsTrue (is_in_range c) → Legal c J → IsSafe c J

-- ---- how `run` ends

-- The headline. Of the files as the call found them, the configuration has a value and each input is a capture; and one
-- journal, the only one with that text, is a run over all their records, each port's frames once and in order, whose text and
-- captures stand in the outputs.
-- This journal is legal, with distinct addresses, data that goes on exactly where it may, and nobody past the silence limit.
pub record HasRun (k : RunNames) (frames entries : ℕ) (old new : Seen) : Type 0 where
  pub settings : Settings
  pub opened : List Opened
  pub inputs : HasInputs k old settings opened
  pub captures : AreCaptures old k.ins (all_records opened)
  pub none : stop_of settings opened ≡ None
  pub journal : Journal
  pub run : IsRunOver settings (all_records opened) journal
  pub one : (I : Journal) → IsRunOver settings (all_records opened) I → new.file k.journal ≡ Some (text I) → I ≡ journal
  pub safe : IsSafe settings journal
  pub files : HoldsAll k settings new journal
  pub frames_are : frames ≡ frame_count journal
  pub entries_are : entries ≡ length journal

-- The reading of the captures stops by this fault, and the outputs hold a run over the records that are kept.
pub record HasStopped (k : RunNames) (fault : RunFault) (old new : Seen) : Type 0 where
  pub stops : StopsBy k old fault
  pub journal : Journal
  pub run : IsRunOver stops.settings (kept_of stops.settings stops.opened) journal
  pub files : HoldsAll k stops.settings new journal

-- The outputs are told by a run over the kept records of windows that start before some moment.
pub record HasPart (k : RunNames) (old : Seen) (Files : Settings → Journal → Type 0) : Type 0 where
  pub settings : Settings
  pub opened : List Opened
  pub inputs : HasInputs k old settings opened
  pub moment : ℕ
  pub journal : Journal
  pub run : IsRunOver settings (before settings moment (kept_of settings opened)) journal
  pub files : Files settings journal

-- whole, or in part
abbrev pub HasWholePart : RunNames → Seen → Seen → Type 0
HasWholePart k old new = HasPart k old (λ c J. HoldsAll k c new J)

abbrev pub HasFrontPart : RunNames → Seen → Seen → Type 0
HasFrontPart k old new = HasPart k old (λ c J. HoldsFronts k (k.journal ∷ k.outs) c old new J)

-- Which input of `run` couldn't be read, where what is read before it has its form: the configuration, or a capture behind those of
-- lower ports, and no file has changed; or, behind the heads of all captures, a capture while the windows go by, and the outputs hold a
-- run over the windows before some moment.
abbrev pub IsRunUnread : RunNames → Seen → Seen → Type 0
IsRunUnread k old new =
    (SameFiles old new × Rose (old.read_faults k.config) (new.read_faults k.config))
    ⊎ ((SameFiles old new × IsHeadUnread k old new)
    ⊎ (RoseIn (Among k.ins) old.read_faults new.read_faults × HasWholePart k old new))
