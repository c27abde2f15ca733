-- A run from a state over the records of earlier windows goes on by the ticks up to a window and all its frames.
use Rattle.std.proofs.Common.{◌≡◌, ℕ, ◌+◌, ◌≤◌, List, [], ◌∷◌, ◌++◌, length, unwrap_or, slice_get, sym, ap, ◌∙◌, subst, arith}
use Rattle.fab_config.specs.Settings.{Settings}
use Rattle.pcap_file.specs.declared.Record.{Record}
use Rattle.window_records.specs.Laws.{AllIn, HasSome}
use Rattle.fab_policy.specs.Growing.{with_more, AllBelow}
use Rattle.fab_policy.specs.Journal.{Journal, followed}
use Rattle.fab_policy.specs.Legal.{HasPorts, of_port}
use Rattle.fab_policy.specs.Outputs.{State}
use Rattle.fab_policy.specs.Standing.{AreFrames}
use Rattle.fab_policy.specs.declared.event.Event.{Event}
use Rattle.fab_states.specs.States.{LegalFrom, state_on}
use Rattle.fab_windows.specs.Window.{AreTicksBy, HoldBatches}
use Rattle.fab_windows.specs.Steps.{RunsGoOn}
use Rattle.fab_states.specs.Runs.{HoldsFrom, RunFrom, TimedFrom, counts_on}
use Rattle.fab_policy.proofs.FollowedLemmas.{of_port-followed, ports-followed}
use Rattle.fab_states.proofs.GrowLemmas.{timed_grows_from}
use Rattle.fab_windows.proofs.LeftLemmas.{all_below_to, all_from_window, length-with_more}
use Rattle.fab_windows.proofs.TimedLemmas.{AllAbove}
use Rattle.fab_windows.proofs.FromLeftLemmas.{holds_more, least_left}
use Rattle.fab_windows.proofs.FromTimedLemmas.{ticks_hold, ticks_ports, timed_ticks, timed_frames, AreBehind, held_behind, frames_of}

-- there is a next index for each port
width_of : (K : Journal) (p : ℕ) (firsts : List ℕ) (ins : List (List Record)) → HoldsFrom K p firsts ins → length firsts ≡ length ins
width_of K p [] [] h = omega arith
width_of K p [] (rs ∷ ins) h = absurd h
width_of K p (first ∷ firsts) [] h = absurd h
width_of K p (first ∷ firsts) (rs ∷ ins) h = let e = width_of K (p + 1) firsts ins h.1 in omega arith

module _ (c : Settings) (S : State) (firsts : List ℕ) (v w : ℕ) (taken batches : List (List Record)) (J : Journal) (run : RunFrom c S firsts taken J) (width : length batches ≡ length taken)
    (below : AllBelow c v taken) (soon : v ≤ w + 1) (own : AllIn c w batches) (some : HasSome batches) (ticks frames : List Event) (are_ticks : AreTicksBy c w (state_on c S J) ticks) (are_frames : AreFrames frames)
    (frame_ports : HasPorts (length taken) (followed [] frames)) (held : HoldBatches frames 1 (counts_on firsts taken) batches) (legal : LegalFrom c S (followed (followed J ticks) frames)) where
  abbrev ins : List (List Record)
  ins = with_more taken batches

  abbrev I : Journal
  I = followed J ticks

  abbrev K : Journal
  K = followed I frames

  ports_after : HasPorts (length ins) K
  ports_after =
      subst (λ (k : ℕ). HasPorts k K) (sym (length-with_more taken batches))
      (ports-followed (length taken) I frames (ticks_ports c w (length taken) (state_on c S J) J ticks are_ticks run.ports) frame_ports)

  frames_after : HoldsFrom K 1 firsts ins
  frames_after = holds_more 1 firsts taken batches J K frames width (λ q. of_port-followed q I frames ∙ ap (λ l. l ++ of_port q (followed [] frames)) (ticks_hold c w q (state_on c S J) J ticks are_ticks)) run.frames held

  timed_before : TimedFrom c S firsts ins J
  timed_before = timed_grows_from c S w firsts taken batches J run.ports run.frames run.timed (all_below_to c v (w + 1) taken soon below) (all_from_window c w batches own) width

  behind : AreBehind firsts taken frames
  behind q records at =
      subst (λ (k : ℕ). AllAbove (unwrap_or (slice_get firsts q) 0 + length records) (of_port k (followed [] frames))) (let e : 1 + q ≡ q + 1 = omega arith in e)
      (held_behind 1 q firsts taken batches frames records width (width_of J 1 firsts taken run.frames) held at)

  timed_after : TimedFrom c S firsts ins K
  timed_after =
      let at_window = timed_ticks c w S firsts ins J ticks (least_left c w firsts taken batches J width run.frames own some) are_ticks timed_before in
      timed_frames c w S firsts ins I frames (frames_of c w (length taken) firsts taken batches frames width own are_frames frame_ports behind) at_window.1 at_window.0

  run_on : RunFrom c S firsts ins K
  run_on = record { ports = ports_after; frames = frames_after; legal = legal; timed = timed_after }

pub runs_go_on : RunsGoOn
runs_go_on c S firsts v w taken batches K ticks frames run width below soon own some are_ticks are_frames frame_ports held legal =
    run_on c S firsts v w taken batches K run width below soon own some ticks frames are_ticks are_frames frame_ports held legal
