-- How `convert` and `migrate` end, which write what one file holds as another.
use Rattle.std.specs.Prelude.{◌≡◌, ℕ, ◌<◌, ◌≤◌, ◌↔◌, ◌++◌, [], ◌∷◌, Err, IsTrue, List, Ok, Result, Some, length}
use Rattle.fab_base.specs.Seen.{Seen}
use Rattle.fab_base.specs.Sunk.{Sunk}
use Rattle.pcap_file.specs.declared.Record.{Record}
use Rattle.pcapng_file.specs.Classic.{Converted, IsFront, SaysInput, timed}
use Rattle.pcapng_file.specs.File.{ng_read}
use Rattle.pcapng_file.specs.declared.NgRecord.{NgRecord}
use Rattle.pcapng_file.specs.declared.fault.NgError.{NgError}
use Rattle.pcapng_file.specs.declared.fault.NgLimit.{NgLimit}
use Rattle.fab_policy.specs.declared.line.Line.{Line}
use Rattle.fab_migrate.specs.Migrating.{IsNewFront, Migrated, SaysOld}
use Rattle.fab_migrate.specs.Old.{HasFirstFault, IsOld}
use Rattle.fabric_tool.specs.Command.{PairNames}
use Rattle.fabric_tool.specs.Ending.{Also, Ending, Leaves, Never, Unread, Untouched, Unwritten}
use Rattle.fabric_tool.specs.Inputs.{HasCapture, HasPackets, LIMITS, MOST_BYTES}
use Rattle.fabric_tool.specs.Meaning.{Meaning}
use Rattle.fabric_tool.specs.Outcome.{converted_text, kind_of, migrated_text}
use Rattle.fabric_tool.specs.Reading.{unconverted_by}
use Rattle.fabric_tool.specs.declared.outcome.Outcome.{Outcome}
use Rattle.fabric_tool.specs.declared.outcome.Outcome.TheVariants as ends
use Rattle.pcap_file.specs.declared.fault.LimitKind.TheVariants as kinds
use Rattle.pcapng_file.specs.declared.fault.NgError.TheVariants as ng
use Rattle.fab_migrate.specs.declared.old.OldError.TheVariants as olds

-- How `convert` ends. The output is opened only behind the whole input.
abbrev pub convert_ending : PairNames → Seen → Seen → Outcome → Ending
convert_ending k old new (ends.Converted records) = Leaves (Converted k.from k.to LIMITS old new records)
convert_ending k old new (ends.BadBlock at fault) = Untouched (SaysInput k.from LIMITS old (ng.Fault at fault))
convert_ending k old new (ends.Limit kind) = Untouched ((limit : NgLimit) × (kind ≡ kind_of limit) × SaysInput k.from LIMITS old (ng.Limit limit))
convert_ending k old new ends.ReadFault = Unread (Unit {0})
convert_ending k old new ends.WriteFault = Unwritten (IsFront k.from k.to LIMITS old new)
convert_ending k old new ends.Memory = Leaves (IsFront k.from k.to LIMITS old new)
convert_ending k old new _ = Never

-- How `migrate` ends. The output is opened only behind the whole journal.
abbrev pub migrate_ending : PairNames → Seen → Seen → Outcome → Ending
migrate_ending k old new (ends.Migrated entries) = Leaves (Migrated k.from k.to MOST_BYTES old new entries)
migrate_ending k old new (ends.BadLine line fault) = Untouched (SaysOld k.from MOST_BYTES old (olds.Fault line fault))
migrate_ending k old new (ends.Limit kind) = Also (kind ≡ kinds.Bytes) (Untouched (SaysOld k.from MOST_BYTES old olds.Bytes))
migrate_ending k old new ends.ReadFault = Unread (Unit {0})
migrate_ending k old new ends.WriteFault = Unwritten (IsNewFront k.from k.to MOST_BYTES old new)
migrate_ending k old new ends.Memory = Leaves (IsNewFront k.from k.to MOST_BYTES old new)
migrate_ending k old new _ = Never

-- ---- by status

-- Status 0 of `convert`: the input is a pcapng file of packets within the limits, the output is their capture, and the line
-- with their number was printed. What `run` finds in that output are these packets' records, with the greatest moment so
-- far in place of one that goes back, and nothing else.
pub record ConvertEnded (k : PairNames) (old new : Seen) (before after : Sunk) : Type 0 where
  pub count : ℕ
  pub done : Converted k.from k.to LIMITS old new count
  pub run_takes : (records : List Record) → HasCapture new k.to records ↔ (records ≡ timed 0 done.packets)
  pub printed : IsTrue before.told → after.written ≡ before.written ++ converted_text count

-- Status 0 of `migrate`: the input is a journal of format 1 within the limit, the output is the same in format 2, and the line
-- with the number of its entries was printed.
pub record MigrateEnded (k : PairNames) (old new : Seen) (before after : Sunk) : Type 0 where
  pub count : ℕ
  pub done : Migrated k.from k.to MOST_BYTES old new count
  pub printed : IsTrue before.told → after.written ≡ before.written ++ migrated_text count

-- ---- where nothing fails

-- the file of a `convert` has its form
pub record ConvertForms (k : PairNames) (d : Seen) : Type 0 where
  pub told : IsTrue d.told
  pub packets : List NgRecord
  pub input : HasPackets d k.from packets

-- The file of a `migrate` has its form: at most so many bytes, which are lines of format 1, of which the first, if any, is a
-- tick, and whose ticks rise.
pub record MigrateForms (k : PairNames) (d : Seen) : Type 0 where
  pub told : IsTrue d.told
  pub bytes : List ℕ
  pub lines : List Line
  pub file : d.file k.from ≡ Some bytes
  pub within : length bytes ≤ MOST_BYTES
  pub is : IsOld bytes lines

-- how `convert` ends by what it reads
abbrev pub ended_by : Result (List NgRecord) NgError → Outcome
ended_by (Ok packets) = ends.Converted (length packets)
ended_by (Err error) = unconverted_by error

-- how `migrate` ends by the bytes that it reads
abbrev pub MigrateSays : List ℕ → Outcome → Type 0
MigrateSays bytes (ends.Migrated entries) = (length bytes ≤ MOST_BYTES) × (lines : List Line) × IsOld bytes lines × (entries ≡ length lines)
MigrateSays bytes (ends.BadLine line fault) = (length bytes ≤ MOST_BYTES) × HasFirstFault bytes line fault
MigrateSays bytes (ends.Limit kind) = (MOST_BYTES < length bytes) × (kind ≡ kinds.Bytes)
MigrateSays bytes _ = ⊥

abbrev pub convert_meaning : PairNames → Meaning
convert_meaning k = record {
  reads = k.from ∷ [];
  writes = k.to ∷ [];
  end = convert_ending k;
  Done = λ old new before after. IsTrue old.told → ConvertEnded k old new before after;
  Front = IsFront k.from k.to LIMITS;
  Forms = ConvertForms k;
  Says = λ d outcome. (bytes : List ℕ) × (d.file k.from ≡ Some bytes) × (outcome ≡ ended_by (ng_read LIMITS bytes));
}

abbrev pub migrate_meaning : PairNames → Meaning
migrate_meaning k = record {
  reads = k.from ∷ [];
  writes = k.to ∷ [];
  end = migrate_ending k;
  Done = λ old new before after. IsTrue old.told → MigrateEnded k old new before after;
  Front = IsNewFront k.from k.to MOST_BYTES;
  Forms = MigrateForms k;
  Says = λ d outcome. (bytes : List ℕ) × (d.file k.from ≡ Some bytes) × MigrateSays bytes outcome;
}
