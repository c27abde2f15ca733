-- Answers of a reader against its steps.
use Rattle.std.proofs.Common.{◌≡◌, ◌≢◌, ℕ, ◌≤◌, subst, arith, List, Option, Some, None, Ok, Err, IsTrue, refl, sym}
use Rattle.std.specs.Prelude.{Result, MatchResult}
use Rattle.fab_base.specs.Seen.{Seen}
use Rattle.pcap_file.specs.declared.Budget.{Budget}
use Rattle.pcap_file.specs.declared.CapError.{CapError}
use Rattle.pcap_file.specs.declared.CapError.TheVariants as errors
use Rattle.pcap_file.specs.declared.Record.{Record}
use Rattle.fab_base.specs.declared.values.Failed.{Failed}
use Rattle.pcap_file.specs.declared.CapFault.{CapFault}
use Rattle.pcap_file.specs.declared.CapOpen.{CapOpen}
use Rattle.pcap_file.specs.declared.CapOpen.TheVariants as opens
use Rattle.pcap_file.specs.Capture.{head_decoded}
use Rattle.pcap_file.specs.Records.{Shows}
use Rattle.pcap_file.specs.Reading.{Reading, Step, Says, step_at, to_come, ReaderStand, ReadsRose, NextReads, OpensReader}

told_step : (step : Step) (rest : List ℕ) (result : Result (Option Record) CapError) → Says step rest result → ((f : Failed) → result ≢ Err (errors.Read f)) → result ≢ Err errors.Memory → Shows step rest result
told_step step rest (Ok (Some r)) says no_read no_memory = subst (λ x. Shows x rest (Ok (Some r))) (sym says) (refl, refl)
told_step step rest (Ok None) says no_read no_memory = subst (λ x. Shows x rest (Ok None)) (sym says.0) refl
told_step step rest (Err (errors.Cut at)) says no_read no_memory = subst (λ x. Shows x rest (Err (errors.Cut at))) (sym says) refl
told_step step rest (Err (errors.TooLong at len)) says no_read no_memory = subst (λ x. Shows x rest (Err (errors.TooLong at len))) (sym says) refl
told_step step rest (Err errors.Bytes) says no_read no_memory = subst (λ x. Shows x rest (Err errors.Bytes)) (sym says) refl
told_step step rest (Err errors.Frames) says no_read no_memory = subst (λ x. Shows x rest (Err errors.Frames)) (sym says) refl
told_step step rest (Err (errors.Read f)) says no_read no_memory = absurd (no_read f refl)
told_step step rest (Err errors.Memory) says no_read no_memory = absurd (no_memory refl)

pub step_is_answered : (slot : ℕ) (before after : ReaderStand) (result : Result (Option Record) CapError) → NextReads slot before after result → IsTrue before.depot.told → before.reader.kept ≡ None → ¬ ReadsRose slot before.depot after.depot → result ≢ Err errors.Memory → Shows (step_at slot before) (to_come after.reader after.depot slot) result
step_is_answered slot before after result reads told fresh calm memory = told_step _ (to_come after.reader after.depot slot) result (reads.says told fresh) (λ f is. calm (reads.cause fresh f is)) memory

pub head_is_answered : (slot : ℕ) (old new : Seen) (had left : Budget) (result : Result Reading CapOpen) → OpensReader slot old new had left result → IsTrue old.told → 24 ≤ had.bytes → ¬ ReadsRose slot old new → MatchResult result (λ r. head_decoded (old.left slot) ≡ Ok r.head) (λ e. (fault : CapFault) × (e ≡ opens.Head fault) × (head_decoded (old.left slot) ≡ Err fault))
head_is_answered slot old new had left (Ok r) o told room calm = (o.head told).0
head_is_answered slot old new had left (Err (opens.Head fault)) o told room calm = (fault, refl, o.refused told)
head_is_answered slot old new had left (Err (opens.Read f)) o told room calm = absurd (calm o.refused)
head_is_answered slot old new had left (Err opens.Bytes) o told room calm = let few = o.bytes.0 refl in absurd (omega arith)
