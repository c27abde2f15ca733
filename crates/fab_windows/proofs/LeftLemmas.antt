-- The records of a window behind those that were taken before, and the windows that are left of them.
use Rattle.std.proofs.Common.{◌≡◌, ℕ, zero, suc, ◌+◌, ◌≤◌, Bool, true, false, eqb, leb, ◌&&◌, ◌||◌, List, [], ◌∷◌, ◌++◌, length, drop, map, slice_get, Some, refl, sym, ap, ◌∙◌, subst, arith}
use Rattle.std.specs.List.{list_any, list_all}
use Rattle.std.proofs.lemmas.Bool.{eq-eqb, le-leb}
use Rattle.std.proofs.lemmas.List.Folds.{list_any-append, list_all-append}
use Rattle.fab_config.specs.Settings.{Settings}
use Rattle.window_records.specs.Laws.{AllIn, HasSome}
use Rattle.window_records.specs.Port.{AreIn}
use Rattle.fab_policy.specs.Growing.{with_more, AreBelow, AllBelow, AreFrom, AllFrom}
use Rattle.fab_policy.specs.Journal.{Journal, followed}
use Rattle.fab_policy.specs.Legal.{HoldsFrames, IsLeastOf, numbered_from, of_port, window_start, windows_left}
use Rattle.fab_policy.specs.declared.event.Event.{Event}
use Rattle.pcap_file.specs.declared.Record.{Record}
use Rattle.fab_policy.proofs.GrowLemmas.{length-numbered, numbered-append}
use Rattle.fab_windows.specs.Window.{HoldBatches}

-- ---- records of a window, behind earlier ones

below_more : (c : Settings) (w : ℕ) (records batch : List Record) → AreBelow c (w + 1) records → AreIn c w batch → AreBelow c (w + 1) (records ++ batch)
below_more c w [] [] below own = tt
below_more c w [] (r ∷ batch) below own = (let e = own.0 in omega arith, below_more c w [] batch tt own.1)
below_more c w (r ∷ records) batch below own = (below.0, below_more c w records batch below.1 own)

pub all_below_more : (c : Settings) (w : ℕ) (taken batches : List (List Record)) → length batches ≡ length taken → AllBelow c (w + 1) taken → AllIn c w batches → AllBelow c (w + 1) (with_more taken batches)
all_below_more c w [] batches e below own = tt
all_below_more c w (records ∷ taken) [] e below own = absurd (omega arith)
all_below_more c w (records ∷ taken) (batch ∷ batches) e below own = (below_more c w records batch below.0 own.0, all_below_more c w taken batches (omega arith) below.1 own.1)

below_to : (c : Settings) (v w : ℕ) (records : List Record) → v ≤ w → AreBelow c v records → AreBelow c w records
below_to c v w [] le below = tt
below_to c v w (r ∷ records) le below = (let e = below.0 in omega arith, below_to c v w records le below.1)

pub all_below_to : (c : Settings) (v w : ℕ) (taken : List (List Record)) → v ≤ w → AllBelow c v taken → AllBelow c w taken
all_below_to c v w [] le below = tt
all_below_to c v w (records ∷ taken) le below = (below_to c v w records le below.0, all_below_to c v w taken le below.1)

from_window : (c : Settings) (w : ℕ) (batch : List Record) → AreIn c w batch → AreFrom c w batch
from_window c w [] own = tt
from_window c w (r ∷ batch) own = (let e = own.0 in omega arith, from_window c w batch own.1)

pub all_from_window : (c : Settings) (w : ℕ) (batches : List (List Record)) → AllIn c w batches → AllFrom c w batches
all_from_window c w [] own = tt
all_from_window c w (batch ∷ batches) own = (from_window c w batch own.0, all_from_window c w batches own.1)

pub length-with_more : (taken batches : List (List Record)) → length (with_more taken batches) ≡ length taken
length-with_more [] batches = refl
length-with_more (records ∷ taken) [] = refl
length-with_more (records ∷ taken) (batch ∷ batches) = let h = length-with_more taken batches in omega arith

-- ---- the frames of each port

-- the batches stand behind what was taken
pub holds_more : (p : ℕ) (taken batches : List (List Record)) (J K : Journal) (frames : List Event) → length batches ≡ length taken
    → ((q : ℕ) → of_port q K ≡ of_port q J ++ of_port q (followed [] frames)) → HoldsFrames J p taken → HoldBatches frames p (map (λ records. length records) taken) batches → HoldsFrames K p (with_more taken batches)
holds_more p [] batches J K frames e both held own = tt
holds_more p (records ∷ taken) [] J K frames e both held own = absurd (omega arith)
holds_more p (records ∷ taken) (batch ∷ batches) J K frames e both held own = (
  both p
      ∙ ap (λ l. l ++ of_port p (followed [] frames)) held.0
      ∙ ap (λ l. numbered_from 0 records ++ l) own.0
      ∙ ap (λ (n : ℕ). numbered_from 0 records ++ numbered_from n batch) (let f : length records ≡ 0 + length records = omega arith in f)
      ∙ sym (numbered-append 0 records batch),
  holds_more (p + 1) taken batches J K frames (omega arith) both held.1 own.1,
)

-- ---- the windows that are left

abbrev pub windows_in : Settings → List (List Record) → List ℕ
windows_in c [] = []
windows_in c (batch ∷ batches) = map (λ (r : Record). window_start c r.moment) batch ++ windows_in c batches

pub drop_front : (records batch : List Record) → drop (length records) (records ++ batch) ≡ batch
drop_front [] batch = refl
drop_front (r ∷ records) batch = drop_front records batch

-- where all that was taken has entries, the batches are left
left_in : (c : Settings) (p : ℕ) (taken batches : List (List Record)) (J : Journal) → length batches ≡ length taken → HoldsFrames J p taken → windows_left c p (with_more taken batches) J ≡ windows_in c batches
left_in c p [] [] J e held = refl
left_in c p [] (batch ∷ batches) J e held = absurd (omega arith)
left_in c p (records ∷ taken) [] J e held = absurd (omega arith)
left_in c p (records ∷ taken) (batch ∷ batches) J e held =
    let size : length (of_port p J) ≡ length records = ap length held.0 ∙ length-numbered 0 records in
    ap (λ (n : ℕ). map (λ (r : Record). window_start c r.moment) (drop n (records ++ batch)) ++ windows_left c (p + 1) (with_more taken batches) J) size
    ∙ ap (λ l. map (λ (r : Record). window_start c r.moment) l ++ windows_left c (p + 1) (with_more taken batches) J) (drop_front records batch)
    ∙ ap (λ l. map (λ (r : Record). window_start c r.moment) batch ++ l) (left_in c (p + 1) taken batches J (omega arith) held.1)

both_true : {a b : Bool} → a ≡ true → b ≡ true → (a && b) ≡ true
both_true {a} {b} e f = (λ i. e i && f i)

or_true : (a b : Bool) → b ≡ true → (a || b) ≡ true
or_true true b e = refl
or_true false b e = e

all_of : (c : Settings) (w : ℕ) (batch : List Record) → AreIn c w batch → list_all (λ m. leb w m) (map (λ (r : Record). window_start c r.moment) batch) ≡ true
all_of c w [] own = refl
all_of c w (r ∷ batch) own = both_true (le-leb w (window_start c r.moment) (let e = own.0 in omega arith)) (all_of c w batch own.1)

pub all_in : (c : Settings) (w : ℕ) (batches : List (List Record)) → AllIn c w batches → list_all (λ m. leb w m) (windows_in c batches) ≡ true
all_in c w [] own = refl
all_in c w (batch ∷ batches) own =
    list_all-append (λ m. leb w m) (map (λ (r : Record). window_start c r.moment) batch) (windows_in c batches) ∙ both_true (all_of c w batch own.0) (all_in c w batches own.1)

pub any_in : (c : Settings) (w : ℕ) (batches : List (List Record)) (q : ℕ) (r : Record) (records : List Record) → AllIn c w batches → slice_get batches q ≡ Some (r ∷ records) → list_any (λ m. eqb m w) (windows_in c batches) ≡ true
any_in c w [] q r records own at = absurd (cc)
any_in c w (batch ∷ batches) zero r records own at =
    let is : batch ≡ r ∷ records = cc in
    let here : window_start c r.moment ≡ w = (subst (AreIn c w) is own.0).0 in
    ap (λ l. list_any (λ m. eqb m w) (map (λ (s : Record). window_start c s.moment) l ++ windows_in c batches)) is
    ∙ ap (λ b. b || list_any (λ m. eqb m w) (map (λ (s : Record). window_start c s.moment) records ++ windows_in c batches)) (eq-eqb (window_start c r.moment) w here)
any_in c w (batch ∷ batches) (suc q) r records own at =
    list_any-append (λ m. eqb m w) (map (λ (s : Record). window_start c s.moment) batch) (windows_in c batches) ∙ or_true _ _ (any_in c w batches q r records own.1 at)

pub least_left : (c : Settings) (w : ℕ) (taken batches : List (List Record)) (J : Journal) → length batches ≡ length taken → HoldsFrames J 1 taken → AllIn c w batches → HasSome batches → IsLeastOf (windows_left c 1 (with_more taken batches) J) w
least_left c w taken batches J e held own some =
    subst (λ l. IsLeastOf l w) (sym (left_in c 1 taken batches J e held)) (any_in c w batches some.0 some.1 some.2 own some.3, all_in c w batches own)
