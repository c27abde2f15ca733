-- A run over the records of earlier windows goes on by the ticks up to a window and all its frames.
use Rattle.std.proofs.Common.{◌≡◌, ℕ, ◌+◌, ◌≤◌, List, [], ◌++◌, length, map, sym, ap, ◌∙◌, subst, arith}
use Rattle.fab_config.specs.Settings.{Settings}
use Rattle.pcap_file.specs.declared.Record.{Record}
use Rattle.window_records.specs.Laws.{AllIn, HasSome}
use Rattle.fab_policy.specs.Growing.{TimedGrows, with_more, AllBelow}
use Rattle.fab_policy.specs.Journal.{Journal, followed}
use Rattle.fab_policy.specs.Legal.{Legal, Timed, Run, HasPorts, HoldsFrames, of_port}
use Rattle.fab_policy.specs.Standing.{AreFrames}
use Rattle.fab_policy.specs.declared.event.Event.{Event}
use Rattle.fab_policy.proofs.FollowedLemmas.{of_port-followed, ports-followed}
use Rattle.fab_windows.specs.Run.{IsRunOver}
use Rattle.fab_windows.specs.Window.{AreTicksTo, HoldBatches}
use Rattle.fab_windows.proofs.LeftLemmas.{all_below_to, all_from_window, length-with_more, holds_more, least_left}
use Rattle.fab_windows.proofs.TimedLemmas.{ticks_hold, ticks_ports, timed_ticks, timed_frames, AllAbove, AreBehind, held_behind, frames_of}

module _ (grows : TimedGrows) (c : Settings) (v w : ℕ) (taken batches : List (List Record)) (J : Journal) (run : IsRunOver c taken J) (width : length batches ≡ length taken)
    (below : AllBelow c v taken) (soon : v ≤ w + 1) (own : AllIn c w batches) (some : HasSome batches) (ticks frames : List Event) (are_ticks : AreTicksTo c w J ticks) (are_frames : AreFrames frames)
    (frame_ports : HasPorts (length taken) (followed [] frames)) (held : HoldBatches frames 1 (map (λ records. length records) taken) batches) (legal : Legal c (followed (followed J ticks) frames)) where
  abbrev ins : List (List Record)
  ins = with_more taken batches

  abbrev I : Journal
  I = followed J ticks

  abbrev K : Journal
  K = followed I frames

  ports_after : HasPorts (length ins) K
  ports_after =
      subst (λ (k : ℕ). HasPorts k K) (sym (length-with_more taken batches))
      (ports-followed (length taken) I frames (ticks_ports c w (length taken) J ticks are_ticks run.run.ports) frame_ports)

  frames_after : HoldsFrames K 1 ins
  frames_after = holds_more 1 taken batches J K frames width (λ q. of_port-followed q I frames ∙ ap (λ l. l ++ of_port q (followed [] frames)) (ticks_hold c w q J ticks are_ticks)) run.run.frames held

  timed_before : Timed c ins J
  timed_before = grows c w taken batches J run.run.ports run.run.frames run.run.timed (all_below_to c v (w + 1) taken soon below) (all_from_window c w batches own) width

  behind : AreBehind taken frames
  behind q records at =
      subst (λ (k : ℕ). AllAbove (length records) (of_port k (followed [] frames))) (let e : 1 + q ≡ q + 1 = omega arith in e)
      (held_behind 1 q taken batches frames records width held at)

  timed_after : Timed c ins K
  timed_after =
      let at_window = timed_ticks c w ins J ticks (least_left c w taken batches J width run.run.frames own some) are_ticks timed_before in
      timed_frames c w ins I frames (frames_of c w (length taken) taken batches frames width own are_frames frame_ports behind) at_window.1 at_window.0

  pub run_on : Run c ins K
  run_on = record { ports = ports_after; frames = frames_after; legal = legal; timed = timed_after }
