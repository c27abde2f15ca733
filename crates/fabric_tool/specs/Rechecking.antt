-- What `replay` and `show` find of what a `run` or a `live` with status 0 wrote.
use Rattle.std.specs.Prelude.{◌≡◌, ℕ, ◌+◌, ◌*◌, ◌≤◌, ◌⊎◌, IsTrue, List, [], ◌∷◌, length, Some, None, String}
use Rattle.std.specs.declared.alloc.Global.{Global}
use Rattle.fab_base.specs.Seen.{Seen}
use Rattle.fab_base.specs.Sunk.{Sunk}
use Rattle.pcap_file.specs.Capture.{HEAD}
use Rattle.window_records.specs.Looks.{Opened, stop}
use Rattle.fab_policy.specs.Text.{text}
use Rattle.fabric_tool.specs.Checking.{budget_of}
use Rattle.fabric_tool.specs.Command.{RunNames, LiveWords, Command, Replay, Show, command}
use Rattle.run_files.specs.Names.{Among}
use Rattle.fabric_tool.specs.Inputs.{AreOpened, MOST_BYTES, MOST_FRAMES}
use Rattle.fabric_tool.specs.Left.{HasRun}
use Rattle.fabric_tool.specs.Living.{HasLived, session_of}
use Rattle.fabric_tool.specs.Statuses.{IsQuiet}

-- The outputs of a `run` of these names, one for each capture, stand as it wrote them with status 0, and the configuration and
-- the captures as it found them. The journal and the captures together are within the limits.
pub record HasWritten (k : RunNames) (d : Seen) : Type 0 where
  pub found : Seen
  pub frames : ℕ
  pub entries : ℕ
  pub run : HasRun k frames entries found d
  pub ports : length k.outs ≡ length k.ins
  pub kept : (m : List ℕ) → Among (k.config ∷ k.ins) m → d.file m ≡ found.file m
  pub within : length (text run.journal) + HEAD * length k.ins ≤ MOST_BYTES
  pub none : stop run.settings (budget_of (text run.journal) (length k.ins)).bytes MOST_FRAMES run.opened ≡ None

-- the names of `show` over the captures and the journal of a `run`
abbrev pub without_outputs : RunNames → RunNames
without_outputs k = record { config = k.config; journal = k.journal; ins = k.ins; outs = [] }

-- Words that are `replay` or `show` over what a `run` wrote, where nothing failed.
pub record IsRechecked (words : List (String Global)) (old new : Seen) (before after : Sunk) : Type 0 where
  pub k : RunNames
  pub written : HasWritten k old
  pub told : IsTrue old.told
  pub check : Command
  pub checks : (check ≡ Replay k) ⊎ (check ≡ Show (without_outputs k))
  pub is : command words ≡ Some check
  pub quiet : IsQuiet check old new before after

-- ---- the same of `live`

-- The outputs of a `live` of these names, two captures for each port, stand as it wrote them with status 0, and the configuration as
-- it found it. The journal and the captures together are within the limits, as `replay` counts them.
pub record HasRecorded (k : LiveWords) (d : Seen) : Type 0 where
  pub found : Seen
  pub frames : ℕ
  pub entries : ℕ
  pub lived : HasLived k frames entries found d
  pub ports : length k.outs ≡ length k.ins
  pub kept : d.file k.config ≡ found.file k.config
  pub within : length (text lived.session.journal) + HEAD * length k.ins ≤ MOST_BYTES
  pub opened : List Opened
  pub heads : AreOpened d k.ins opened
  pub none : stop lived.settings (budget_of (text lived.session.journal) (length k.ins)).bytes MOST_FRAMES opened ≡ None

-- Words that are `replay` or `show` over what a `live` recorded, where nothing failed.
pub record IsReplayed (words : List (String Global)) (old new : Seen) (before after : Sunk) : Type 0 where
  pub k : LiveWords
  pub recorded : HasRecorded k old
  pub told : IsTrue old.told
  pub check : Command
  pub checks : (check ≡ Replay (session_of k)) ⊎ (check ≡ Show (without_outputs (session_of k)))
  pub is : command words ≡ Some check
  pub quiet : IsQuiet check old new before after
