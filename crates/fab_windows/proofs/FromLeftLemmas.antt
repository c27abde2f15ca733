-- The records of a window behind those that were taken before, and the windows that are left of them, with indexes from some on.
use Rattle.std.proofs.Common.{◌≡◌, ℕ, ◌+◌, List, [], ◌∷◌, ◌++◌, length, drop, map, refl, sym, ap, ◌∙◌, subst, arith}
use Rattle.fab_config.specs.Settings.{Settings}
use Rattle.window_records.specs.Laws.{AllIn, HasSome}
use Rattle.fab_policy.specs.Growing.{with_more}
use Rattle.fab_policy.specs.Journal.{Journal, followed}
use Rattle.fab_policy.specs.Legal.{IsLeastOf, numbered_from, of_port, window_start, windows_left}
use Rattle.fab_policy.specs.declared.event.Event.{Event}
use Rattle.pcap_file.specs.declared.Record.{Record}
use Rattle.fab_windows.specs.Window.{HoldBatches}
use Rattle.fab_policy.proofs.GrowLemmas.{length-numbered, numbered-append}
use Rattle.fab_windows.proofs.LeftLemmas.{all_in, any_in, drop_front, windows_in}
use Rattle.fab_states.specs.Runs.{HoldsFrom, counts_on}

-- ---- the frames of each port

-- the batches stand behind what was taken
pub holds_more : (p : ℕ) (firsts : List ℕ) (taken batches : List (List Record)) (J K : Journal) (frames : List Event) → length batches ≡ length taken
    → ((q : ℕ) → of_port q K ≡ of_port q J ++ of_port q (followed [] frames)) → HoldsFrom J p firsts taken → HoldBatches frames p (counts_on firsts taken) batches → HoldsFrom K p firsts (with_more taken batches)
holds_more p [] [] batches J K frames e both held own = tt
holds_more p [] (records ∷ taken) batches J K frames e both held own = absurd held
holds_more p (first ∷ firsts) [] batches J K frames e both held own = absurd held
holds_more p (first ∷ firsts) (records ∷ taken) [] J K frames e both held own = absurd (omega arith)
holds_more p (first ∷ firsts) (records ∷ taken) (batch ∷ batches) J K frames e both held own = (
  both p
      ∙ ap (λ l. l ++ of_port p (followed [] frames)) held.0
      ∙ ap (λ l. numbered_from first records ++ l) own.0
      ∙ sym (numbered-append first records batch),
  holds_more (p + 1) firsts taken batches J K frames (omega arith) both held.1 own.1,
)

-- ---- the windows that are left

-- where all that was taken has entries, the batches are left
left_in : (c : Settings) (p : ℕ) (firsts : List ℕ) (taken batches : List (List Record)) (J : Journal) → length batches ≡ length taken → HoldsFrom J p firsts taken → windows_left c p (with_more taken batches) J ≡ windows_in c batches
left_in c p firsts [] [] J e held = refl
left_in c p firsts [] (batch ∷ batches) J e held = absurd (omega arith)
left_in c p firsts (records ∷ taken) [] J e held = absurd (omega arith)
left_in c p [] (records ∷ taken) (batch ∷ batches) J e held = absurd held
left_in c p (first ∷ firsts) (records ∷ taken) (batch ∷ batches) J e held =
    let size : length (of_port p J) ≡ length records = ap length held.0 ∙ length-numbered first records in
    ap (λ (n : ℕ). map (λ (r : Record). window_start c r.moment) (drop n (records ++ batch)) ++ windows_left c (p + 1) (with_more taken batches) J) size
    ∙ ap (λ l. map (λ (r : Record). window_start c r.moment) l ++ windows_left c (p + 1) (with_more taken batches) J) (drop_front records batch)
    ∙ ap (λ l. map (λ (r : Record). window_start c r.moment) batch ++ l) (left_in c (p + 1) firsts taken batches J (omega arith) held.1)

pub least_left : (c : Settings) (w : ℕ) (firsts : List ℕ) (taken batches : List (List Record)) (J : Journal) → length batches ≡ length taken → HoldsFrom J 1 firsts taken → AllIn c w batches → HasSome batches → IsLeastOf (windows_left c 1 (with_more taken batches) J) w
least_left c w firsts taken batches J e held own some =
    subst (λ l. IsLeastOf l w) (sym (left_in c 1 firsts taken batches J e held)) (any_in c w batches some.0 some.1 some.2 own some.3, all_in c w batches own)
