-- What stands before a window from the state before anything happened stands there for the journal.
use Rattle.std.proofs.Common.{sym, ap, ◌∙◌}
use Rattle.fab_config.specs.Settings.{Settings}
use Rattle.fab_policy.specs.Journal.{followed}
use Rattle.fab_policy.specs.Outputs.{state_of}
use Rattle.fab_policy.specs.Standing.{sent_after}
use Rattle.fab_states.proofs.NothingLemmas.{run_nothing, state_nothing}
use Rattle.fab_windows.specs.Steps.{NothingIsFirst}

pub nothing_is_first : NothingIsFirst
nothing_is_first c n w taken K F s = (
  record { ranged = s.ranged; run = run_nothing c taken K s.run },
  record {
    state = s.state ∙ state_nothing c K ∙ ap (λ (d : Settings). state_of d K) (sym s.settings);
    older = K;
    events = sym (ap (followed K) s.events);
    outs = s.outs ∙ sym (ap (sent_after F.settings F.count K) s.events);
  },
)
