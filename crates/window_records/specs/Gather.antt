-- The next window of captures, with the most span.
use Rattle.std.specs.Prelude.{◌≡◌, ◌≢◌, ℕ, ◌+◌, ◌-◌, ◌↔◌, true, false, nat_lt, IsTrue, length, Some, Result, OnOk, OnErr, IfErr, IsErrOf}
use Rattle.fab_base.specs.Ending.{end_by, Uses}
use Rattle.fab_base.specs.Seen.{Nothing}
use Rattle.fab_config.specs.Settings.{Settings}
use Rattle.window_records.specs.Looks.{Stop, MOST_SPAN}
use Rattle.pcap_file.specs.declared.fault.LimitKind.TheVariants as limit
use Rattle.pcap_file.specs.declared.fault.GatherFault.{GatherFault}
use Rattle.pcap_file.specs.declared.fault.GatherFault.TheVariants as fault
use Rattle.pcap_file.specs.Faults.{gather_end, IsStopped}
use Rattle.window_records.specs.Port.{Spends, ending}
use Rattle.fab_base.specs.Slots.{NameIn}
use Rattle.window_records.specs.Ports.{slots_of, AreReady, OneKeeps, TakesFrom, Walk, TookAll, LeavesAll, counts_of, stop_after}

-- What gathering a window does: the looks to come stop where they stopped, or it ends as the first stop among them says.
-- A window that starts too late changes nothing.
pub record Gathers (c : Settings) (first w : ℕ) (old new : Walk) (result : Result (Unit {0}) GatherFault) : Type 0 where
  pub uses : Uses (NameIn old.seen (slots_of old.ins)) Nothing (end_by gather_end result) old.seen new.seen
  pub slots : slots_of new.ins ≡ slots_of old.ins
  pub count : length new.shelves ≡ length old.shelves
  pub ready : OnOk result (AreReady c (w + 1) new.ins new.shelves new.left)
  pub took : OnOk result (TookAll c w old new)
  pub spent : Spends old.left new.left (counts_of old.shelves) (counts_of new.shelves)
  pub leaves : OnErr result (LeavesAll c w old new)
  pub takes : TakesFrom old.ins new.ins old.left new.left
  pub looks : IsTrue old.seen.told → OnOk result (stop_after c first old ≡ stop_after c first new)
  pub stops : IsTrue old.seen.told → IfErr result (λ e. IsStopped e → (s : Stop) × (stop_after c first old ≡ Some s) × (ending s ≡ e) × (s.window ≡ Some w))
  pub fails : IfErr result (λ e. e ≢ fault.Memory → e ≢ fault.Limit limit.Span → OneKeeps new.ins e)
  pub late : IsErrOf result (fault.Limit limit.Span) ↔ (nat_lt MOST_SPAN (w - first) ≡ true)
  pub same : IsErrOf result (fault.Limit limit.Span) → (new.seen ≡ old.seen) × (new.ins ≡ old.ins) × (new.shelves ≡ old.shelves) × (new.left ≡ old.left)

-- What taking the records of a window of all ports does: for each first window to which it isn't too late, what gathering it does.
abbrev pub TakesAll : Settings → ℕ → Walk → Walk → Result (Unit {0}) GatherFault → Type 0
TakesAll c w old new result = (first : ℕ) → nat_lt MOST_SPAN (w - first) ≡ false → Gathers c first w old new result
