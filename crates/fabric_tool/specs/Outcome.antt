-- How a command ends, its status, and the line that it prints.
use Rattle.std.specs.Prelude.{ℕ, ◌+◌, List, ◌++◌, codes, decimal}
use Rattle.fab_base.specs.Ending as ending
use Rattle.fab_base.specs.Ending.{End}
use Rattle.fab_base.specs.Texts.{hex, hex_bytes}
use Rattle.fab_config.specs.declared.ConfigFault.{ConfigFault}
use Rattle.fab_config.specs.declared.ConfigWhy.{ConfigWhy}
use Rattle.fab_config.specs.declared.ConfigWhy.TheVariants as why
use Rattle.pcapng_file.specs.declared.fault.NgWhy.{NgWhy}
use Rattle.pcapng_file.specs.declared.fault.NgWhy.TheVariants as ng
use Rattle.pcapng_file.specs.declared.fault.NgLimit.{NgLimit}
use Rattle.pcapng_file.specs.declared.fault.NgLimit.TheVariants as limits
use Rattle.fabric_tool.specs.Help.{help_text, version_text}
use Rattle.window_records.specs.Looks.{MOST_SPAN}
use Rattle.pcap_file.specs.declared.fault.CapWhy.{CapWhy}
use Rattle.pcap_file.specs.declared.fault.CapWhy.TheVariants as caps
use Rattle.pcap_file.specs.declared.fault.LimitKind.{LimitKind}
use Rattle.pcap_file.specs.declared.fault.LimitKind.TheVariants as kinds
use Rattle.fab_replay.specs.declared.fault.LineWhy.{LineWhy}
use Rattle.fab_replay.specs.declared.fault.LineWhy.TheVariants as lines
use Rattle.fab_migrate.specs.declared.old.OldWhy.{OldWhy}
use Rattle.fab_migrate.specs.declared.old.OldWhy.TheVariants as olds
use Rattle.enode_core.specs.declared.node.Phase.{Phase}
use Rattle.enode_core.specs.declared.node.Phase.TheVariants as phase
use Rattle.fabric_tool.specs.Inputs.{MOST_BYTES, MOST_FRAMES}
use Rattle.fabric_tool.specs.declared.outcome.Outcome.{Outcome}
use Rattle.fabric_tool.specs.declared.outcome.Outcome.TheVariants.{Ran, Converted, Migrated, Legal, Shown, WrongLine, WrongOutput, Made, Bridged, Stood, Help, Version, Words, Config, Capture, BadBlock, BadStream, NoPort, BadLine, Limit, ReadFault, WriteFault, Memory}

abbrev pub status_of : Outcome → ℕ
status_of (Ran frames entries) = 0
status_of (Converted records) = 0
status_of (Migrated entries) = 0
status_of (Made frames) = 0
status_of (Bridged passed dropped) = 0
status_of (Stood last) = 0
status_of (Legal entries) = 0
status_of (Shown text) = 0
status_of (WrongLine line reason) = 1
status_of (WrongOutput port at) = 1
status_of Help = 0
status_of Version = 0
status_of (Config fault) = 1
status_of (Capture port at reason) = 1
status_of (BadBlock at fault) = 1
status_of (BadStream at fault) = 1
status_of (NoPort face) = 1
status_of (BadLine line fault) = 1
status_of Words = 2
status_of ReadFault = 3
status_of WriteFault = 4
status_of Memory = 5
status_of (Limit kind) = 6

-- what an outcome rests on
abbrev pub outcome_end : Outcome → End
outcome_end ReadFault = ending.Read
outcome_end WriteFault = ending.Write
outcome_end Memory = ending.Memory
outcome_end outcome = ending.Said

-- the line of a run
abbrev pub run_text : ℕ → ℕ → List ℕ
run_text frames entries = codes "frames " ++ decimal frames ++ codes " entries " ++ decimal entries ++ codes "\n"

-- the line of a capture that can't be taken from a place on
abbrev pub cap_word : CapWhy → List ℕ
cap_word caps.Short = codes "short"
cap_word caps.Magic = codes "magic"
cap_word caps.Version = codes "version"
cap_word caps.Link = codes "link"
cap_word caps.Cut = codes "cut"
cap_word caps.Long = codes "long"

abbrev pub capture_text : ℕ → ℕ → CapWhy → List ℕ
capture_text port at reason = codes "capture " ++ decimal port ++ codes " " ++ decimal at ++ codes " " ++ cap_word reason ++ codes "\n"

-- the line of a faulty configuration
abbrev pub why_word : ConfigWhy → List ℕ
why_word why.Long = codes "long"
why_word why.Ascii = codes "ascii"
why_word why.Key = codes "key"
why_word why.Twice = codes "twice"
why_word why.Value = codes "value"
why_word why.Limit = codes "limit"
why_word why.Missing = codes "missing"

abbrev pub config_text : ConfigFault → List ℕ
config_text fault = codes "config " ++ decimal fault.line ++ codes " " ++ why_word fault.why ++ codes "\n"

-- the line of a conversion, and of a pcapng file with a fault at a block
abbrev pub converted_text : ℕ → List ℕ
converted_text records = codes "records " ++ decimal records ++ codes "\n"

abbrev pub fault_word : NgWhy → List ℕ
fault_word ng.Cut = codes "cut"
fault_word ng.Section = codes "section"
fault_word ng.Order = codes "order"
fault_word ng.Length = codes "length"
fault_word ng.Version = codes "version"
fault_word ng.Simple = codes "simple"
fault_word ng.Options = codes "options"
fault_word ng.Interface = codes "interface"
fault_word ng.Link = codes "link"
fault_word ng.Resolution = codes "resolution"
fault_word ng.Offset = codes "offset"
fault_word ng.Time = codes "time"
fault_word ng.Long = codes "long"

abbrev pub block_text : ℕ → NgWhy → List ℕ
block_text at fault = codes "capture 1 " ++ decimal at ++ codes " " ++ fault_word fault ++ codes "\n"

-- the line of a stream with a fault at a block, and of a packet of an interface that is no port: the port that it would be of
abbrev pub stream_text : ℕ → NgWhy → List ℕ
stream_text at fault = codes "stream " ++ decimal at ++ codes " " ++ fault_word fault ++ codes "\n"

abbrev pub no_port_text : ℕ → List ℕ
no_port_text face = codes "stream port " ++ decimal (face + 1) ++ codes "\n"

-- which limit a pcapng file passes
abbrev pub kind_of : NgLimit → LimitKind
kind_of limits.Bytes = kinds.Bytes
kind_of limits.Frames = kinds.Frames

-- the line of a journal that was checked, of one with a line that is wrong, and of an output that differs
abbrev pub legal_text : ℕ → List ℕ
legal_text entries = codes "legal " ++ decimal entries ++ codes "\n"

abbrev pub line_word : LineWhy → List ℕ
line_word lines.Text = codes "text"
line_word lines.Tick = codes "tick"
line_word lines.Frame = codes "frame"
line_word (lines.Verdict found made) = codes "verdict"
line_word lines.Rest = codes "rest"

abbrev pub wrong_text : ℕ → LineWhy → List ℕ
wrong_text line reason = codes "journal " ++ decimal line ++ codes " " ++ line_word reason ++ codes "\n"

abbrev pub output_text : ℕ → ℕ → List ℕ
output_text port at = codes "output " ++ decimal port ++ codes " " ++ decimal at ++ codes "\n"

-- the line of a load
abbrev pub made_text : ℕ → List ℕ
made_text frames = codes "made " ++ decimal frames ++ codes "\n"

-- the line of a journal that was migrated, and of one with a fault at a line
abbrev pub migrated_text : ℕ → List ℕ
migrated_text entries = codes "migrated " ++ decimal entries ++ codes "\n"

abbrev pub old_word : OldWhy → List ℕ
old_word olds.Text = codes "text"
old_word olds.Tick = codes "tick"

abbrev pub journal_text : ℕ → OldWhy → List ℕ
journal_text line fault = codes "journal " ++ decimal line ++ codes " " ++ old_word fault ++ codes "\n"

-- the line of a bridge
abbrev pub bridged_text : ℕ → ℕ → List ℕ
bridged_text passed dropped = codes "passed " ++ decimal passed ++ codes " dropped " ++ decimal dropped ++ codes "\n"

-- the line of a node's last phase: an address of six digits, and a MAC of twelve
abbrev pub phase_text : Phase → List ℕ
phase_text phase.Asking = codes "asking\n"
phase_text phase.Looking = codes "looking\n"
phase_text (phase.Logging ox_id) = codes "logging\n"
phase_text (phase.Up address mac) = codes "up " ++ hex 6 address ++ codes " " ++ hex_bytes mac ++ codes "\n"

-- the line of inputs past a limit
abbrev pub limit_text : LimitKind → List ℕ
limit_text kinds.Bytes = codes "limit bytes " ++ decimal MOST_BYTES ++ codes "\n"
limit_text kinds.Frames = codes "limit frames " ++ decimal MOST_FRAMES ++ codes "\n"
limit_text kinds.Span = codes "limit span " ++ decimal MOST_SPAN ++ codes "\n"

-- what is printed: one line, but for the text of `--help` and the lines of `show`
unfoldable pub line_of : Outcome → List ℕ
line_of (Ran frames entries) = run_text frames entries
line_of (Config fault) = config_text fault
line_of (Capture port at reason) = capture_text port at reason
line_of (Converted records) = converted_text records
line_of (Migrated entries) = migrated_text entries
line_of (Made frames) = made_text frames
line_of (Bridged passed dropped) = bridged_text passed dropped
line_of (Stood last) = phase_text last
line_of (Legal entries) = legal_text entries
line_of (Shown text) = text
line_of (WrongLine line reason) = wrong_text line reason
line_of (WrongOutput port at) = output_text port at
line_of (BadBlock at fault) = block_text at fault
line_of (BadStream at fault) = stream_text at fault
line_of (NoPort face) = no_port_text face
line_of (BadLine line fault) = journal_text line fault
line_of (Limit kind) = limit_text kind
line_of Help = help_text
line_of Version = version_text
line_of Words = codes "words\n"
line_of ReadFault = codes "read fault\n"
line_of WriteFault = codes "write fault\n"
line_of Memory = codes "no memory\n"
