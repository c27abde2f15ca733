-- A run goes on by the ticks and the frames of a window.
use Rattle.std.proofs.Common.{◌≡◌, ℕ, suc, ◌+◌, ◌<◌, List, [], ◌∷◌, ◌++◌, length, length-append, get_or, refl, arith}
use Rattle.std.specs.Prelude.{option_to_list}
use Rattle.fab_config.specs.Settings.{Settings}
use Rattle.fab_base.specs.Seen.{Seen}
use Rattle.window_records.specs.Reads.{HasRead, first_index}
use Rattle.window_records.specs.declared.shelf.Input.{Input}
use Rattle.window_records.specs.declared.shelf.Shelf.{Shelf}
use Rattle.window_records.specs.Looks.{Opened}
use Rattle.fab_policy.specs.Ranged.{IsRanged, IsRangedEvent}
use Rattle.fab_policy.specs.declared.event.Event.{Event}
use Rattle.pcap_file.specs.declared.Record.{Record}
use Rattle.fab_windows.specs.Steps.{FirstsAreTaken}

-- ---- ranges

pub ranged_each : (es : List Event) → ((k : ℕ) (d : Event) → k < length es → IsRangedEvent (get_or es k d)) → IsRanged es
ranged_each [] h = tt
ranged_each (e ∷ es) h = (ranged_each es (λ k d lt. h (suc k) d (omega arith)), h 0 e (omega arith))

-- ---- the shelves

first_taken : (c : Settings) (w : ℕ) (o : Opened) (records : List Record) (i : Input) (s : Shelf) (d : Seen) → HasRead c w o (records ++ s.batch.items) i s d → first_index s ≡ length records
first_taken c w o records i s d h =
    let count = h.count in
    omega (arith, length-append (records ++ s.batch.items) (option_to_list s.next), length-append records s.batch.items)

pub firsts_are_taken : FirstsAreTaken
firsts_are_taken c w opened [] ins [] d e h = refl
firsts_are_taken c w opened [] ins (s ∷ shelves) d e h = absurd (omega arith)
firsts_are_taken c w opened (records ∷ taken) ins [] d e h = absurd (omega arith)
firsts_are_taken c w [] (records ∷ taken) ins (s ∷ shelves) d e h = absurd h
firsts_are_taken c w (o ∷ opened) (records ∷ taken) [] (s ∷ shelves) d e h = absurd h
firsts_are_taken c w (o ∷ opened) (records ∷ taken) (i ∷ ins) (s ∷ shelves) d e h =
    (λ j. first_taken c w o records i s d h.0 j ∷ firsts_are_taken c w opened taken ins shelves d (omega arith) h.1 j)
