-- The laws are lemmas.
use Rattle.fab_windows.proofs.NothingLemmas.{nothing_is_first}
use Rattle.fab_windows.proofs.SofarLemmas.{entries_are_few, window_is_run_from, windows_are_early}
use Rattle.fab_windows.proofs.FromWholeLemmas as whole
use Rattle.fab_windows.proofs.steps.runs_go_on.Goals as goal

pub returns : goal.returns
returns c = record {
  goes_on = whole.runs_go_on;
  window = window_is_run_from c.entries_come_in_parts.ensures.followed c.entries_come_in_parts.ensures.ranged;
  few = entries_are_few;
  early = windows_are_early;
  nothing = nothing_is_first;
}
