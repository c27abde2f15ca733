-- What stands before the first packet.
use Rattle.std.proofs.Common.{◌≡◌, ℕ, zero, suc, ◌+◌, ◌≤◌, List, [], ◌∷◌, length, map, slice_get, Option, Some, None, IfSome, IsTrue, refl, sym, ap, ◌∙◌, subst, arith}
use Rattle.std.specs.Prelude.{replicate, unwrap_or}
use Rattle.fab_config.specs.Settings.{Settings}
use Rattle.pcap_file.specs.declared.Record.{Record}
use Rattle.fab_policy.specs.Legal.{Run}
use Rattle.fab_base.specs.Counting.{counting}
use Rattle.fab_policy.specs.Outputs.{State, state_of}
use Rattle.fab_windows.specs.Run.{IsRunOver}
use Rattle.fab_windows.specs.Turns.{Laws}
use Rattle.fab_live.specs.Arriving.{port_records, records_of}
use Rattle.fab_base.specs.Seen.{Seen}
use Rattle.fab_policy.specs.Legal.{window_start}
use Rattle.fab_windows.specs.Pages.{IsNothing, pending}
use Rattle.fab_live.specs.declared.live.Live.{Live}
use Rattle.fab_live.specs.Files.{LiveSlots, AreLive}
use Rattle.fab_live.specs.Live.{IsLiveRun, HoldLive}
use Rattle.fab_live.specs.From.{RunningFrom, reach}
use Rattle.fab_live.specs.Ready.{Running, nothing_of_live}
use Rattle.fab_live.proofs.FromLemmas.{packets_begin}
use Rattle.fab_live.proofs.NothingLemmas.{hold_nothing}
use Rattle.fab_live.proofs.TakeLemmas.{zeros_at}

nothing_in : (k n : ℕ) → map (λ (records : List Record). []) (map (port_records []) (counting k n)) ≡ map (port_records []) (counting k n)
nothing_in k zero = refl
nothing_in k (suc n) = ap (λ (l : List (List Record)). [] ∷ l) (nothing_in (k + 1) n)

pub nothing_run : Laws → (c : Settings) (n : ℕ) → IsRunOver c (records_of n []) []
nothing_run laws c n = record { ranged = tt; run = subst (λ (l : List (List Record)). Run c l []) (nothing_in 0 n) (laws.nothing_run c (records_of n [])).0 }

pub live_nothing : Laws → (c : Settings) (n : ℕ) → IsLiveRun c n [] []
live_nothing laws c n = record { run = nothing_run laws c n; faces = tt; span = tt; kept = tt }

-- ---- what is kept before the first packet

-- nothing came so far
pub running_first : (f : LiveSlots) (d : Seen) (l : Live) → AreLive d f → length f.ins ≡ length f.outs → length f.outs ≤ 64 → l.fabric.count ≡ length f.outs → l.fabric.state ≡ state_of l.fabric.settings [] → l.fabric.events ≡ [] → l.fabric.outs ≡ []
    → l.counts.items ≡ replicate (length f.outs) 0 → l.first ≡ None → l.greatest ≡ 0 → l.done.frames ≡ 0 → l.done.entries ≡ 0 → IsNothing (pending l.pages) → length l.pages.records.items ≡ length f.outs → (IsTrue d.told → HoldLive l.fabric.settings d f [] [])
    → Running l.fabric.settings (nothing_of_live l.fabric.settings (length f.outs)) f [] [] l d
running_first f d l files width few count state events outs counts first greatest frames entries nothing pages hold = record {
  ready = record {
    files = files;
    width = width;
    few = few;
    count = count;
    events = events;
    outs = outs;
    range = omega (arith, greatest);
    clock = subst (λ (o : Option ℕ). IfSome o (λ t. t ≡ window_start l.fabric.settings l.greatest)) (sym no_clock) tt;
    size = ap length counts ∙ length-zeros (length f.outs);
    nothing = nothing;
    pages = pages;
  };
  goes = record {
    running = subst (λ (S : State). RunningFrom l.fabric.settings S (replicate (length f.outs) 0) 0 (length f.outs) (reach l.fabric) [] [] l.fabric) state
        (packets_begin l.fabric (replicate (length f.outs) 0) 0 (length f.outs) events outs count (length-zeros (length f.outs)) (subst (λ (o : Option ℕ). IfSome o (λ t. t ≡ window_start l.fabric.settings 0)) (sym no_clock) tt));
    greatest = greatest;
    counts = λ q lt.
        ap (λ (v : List ℕ). slice_get v q) counts ∙ zeros_at (length f.outs) q lt ∙ ap (λ (o : Option ℕ). Some (unwrap_or o 0 + 0)) (sym (zeros_at (length f.outs) q lt));
  };
  faces = tt;
  span = tt;
  kept = tt;
  first = first;
  frames = frames;
  entries = entries;
  hold = λ told. hold_nothing l.fabric.settings d f (hold told);
}
  where
    no_clock : l.fabric.state.tables.clock ≡ None
    no_clock = ap (λ (S : State). S.tables.clock) state

    length-zeros : (n : ℕ) → length {A = ℕ} (replicate n 0) ≡ n
    length-zeros zero = refl
    length-zeros (suc n) = ap suc (length-zeros n)
