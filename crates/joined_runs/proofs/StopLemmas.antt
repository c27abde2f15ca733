-- What `run` reads to its end is within its limits.
use Rattle.std.proofs.Common.{◌≡◌, ℕ, zero, suc, ◌+◌, ◌-◌, ◌*◌, ◌≤◌, Bool, true, false, cond, ◌⊎◌, inl, inr, List, [], ◌∷◌, ◌++◌, length, length-drop, drop, Option, Some, None, refl, sym, ap, ◌∙◌, arith}
use Rattle.std.proofs.lemmas.Bool.{eqb-true}
use Rattle.fab_base.specs.Seen.{Seen}
use Rattle.fab_base.specs.declared.values.Caught.{Caught}
use Rattle.fab_config.specs.Settings.{Settings}
use Rattle.pcap_file.specs.declared.CaptureHead.{CaptureHead}
use Rattle.pcap_file.specs.declared.Record.{Record}
use Rattle.pcap_file.specs.Capture.{HEAD, Next, End, Found, CutHead, TooLong, CutBytes, IsCapture, next, records_from, is_whole_from}
use Rattle.pcap_file.specs.Reading.{Why, failure}
use Rattle.pcap_file.specs.Records.{size_of}
use Rattle.pcap_file.proofs.lemmas.Chains.{found_stands, end_is, go_on, whole_on}
use Rattle.window_records.specs.Looks.{Opened, Look, Spot, Stop, Fails, Span, looks_from, looks, looks_of, found_at, behind, first_spot, with_look, in_order, comes_before, taken, count_of, is_too_late, stop_at, stop_in, first_window, stop, records_in, all_records}
use Rattle.fabric_tool.specs.Inputs.{AreCaptures, MOST_BYTES, MOST_FRAMES, stop_of}
use Rattle.joined_runs.specs.Box.{IsAt}
use Rattle.joined_runs.proofs.TakenLemmas.{enough_bytes}

-- the bytes of all records that are looked at
total : List Look → ℕ
total [] = 0
total (x ∷ looks) = taken x.found + total looks

-- ---- what isn't stopped

one_fits : (bytes frames : ℕ) (x : Next) → failure bytes frames x ≡ None → taken x ≤ bytes
one_fits bytes frames (Found moment caught rest) e = enough_bytes bytes frames (length caught.bytes) e
one_fits bytes frames End e = omega arith
one_fits bytes frames CutHead e = absurd (cc)
one_fits bytes frames (TooLong len) e = absurd (cc)
one_fits bytes frames (CutBytes len) e = absurd (cc)

unstopped : (first bytes frames : ℕ) (looks : List Look) → stop_in first bytes frames looks ≡ None → total looks ≤ bytes
unfolding total
unstopped first bytes frames [] e = omega arith
unstopped first bytes frames (x ∷ looks) e = by_window (is_too_late first x.window) e (unstopped first (bytes - taken x.found) (frames - count_of x.found) looks)
  where
    by_failure : (o : Option Why) → failure bytes frames x.found ≡ o →
        (elim o as (λ _. Option Stop) [ Some why ↦ Some (stop_at (Fails why) x) | None ↦ stop_in first (bytes - taken x.found) (frames - count_of x.found) looks ]) ≡ None →
        (stop_in first (bytes - taken x.found) (frames - count_of x.found) looks ≡ None → total looks ≤ bytes - taken x.found) → taken x.found + total looks ≤ bytes
    by_failure (Some why) is e more = absurd (cc)
    by_failure None is e more = let one = one_fits bytes frames x.found is in let rest = more e in omega arith

    by_window : (b : Bool) →
        (elim b as (λ _. Option Stop) [
          | true ↦ Some (stop_at Span x)
          | false ↦ elim (failure bytes frames x.found) as (λ _. Option Stop) [ Some why ↦ Some (stop_at (Fails why) x) | None ↦ stop_in first (bytes - taken x.found) (frames - count_of x.found) looks ]
        ]) ≡ None → (stop_in first (bytes - taken x.found) (frames - count_of x.found) looks ≡ None → total looks ≤ bytes - taken x.found) → taken x.found + total looks ≤ bytes
    by_window true e more = absurd (cc)
    by_window false e more = by_failure (failure bytes frames x.found) refl e more

-- ---- whatever the order

total_with : (x : Look) (looks : List Look) → total (with_look x looks) ≡ taken x.found + total looks
unfolding total
total_with x [] = refl
total_with x (y ∷ looks) = by_test (comes_before x y) (total_with x looks)
  where
    by_test : (b : Bool) → total (with_look x looks) ≡ taken x.found + total looks → total (cond b (x ∷ y ∷ looks) (y ∷ with_look x looks)) ≡ taken x.found + (taken y.found + total looks)
    by_test true more = refl
    by_test false more = omega arith

total_ordered : (looks : List Look) → total (in_order looks) ≡ total looks
unfolding total
total_ordered [] = refl
total_ordered (x ∷ looks) = let more = total_ordered looks in let one = total_with x (in_order looks) in omega arith

total_append : (xs ys : List Look) → total (xs ++ ys) ≡ total xs + total ys
unfolding total
total_append [] ys = omega arith
total_append (x ∷ xs) ys = let more = total_append xs ys in omega arith

-- ---- of one capture

total_from : (c : Settings) (port n : ℕ) (s : Spot) → total (looks_from c port n s) ≡ size_of (records_from n s.head s.greatest s.bytes)
unfolding total
total_from c port zero s = refl
total_from c port (suc n) s = by_found (found_at s) (λ moment caught rest. total_from c port n (behind c s moment caught rest))
  where
    by_found : (x : Next) → ((moment : ℕ) (caught : Caught) (rest : List ℕ) → total (looks_from c port n (behind c s moment caught rest)) ≡ size_of (records_from n s.head moment rest)) →
        taken x + total (elim x as (λ _. List Look) [ Found moment caught rest ↦ looks_from c port n (behind c s moment caught rest) | _ ↦ [] ]) ≡ size_of (go_on n s.head x)
    by_found (Found moment caught rest) more = let m = more moment caught rest in omega arith
    by_found End more = refl
    by_found CutHead more = refl
    by_found (TooLong len) more = refl
    by_found (CutBytes len) more = refl

total_in : (c : Settings) (port : ℕ) (o : Opened) → total (looks c port (first_spot o)) ≡ size_of (records_in o)
unfolding looks
total_in c port o = total_from c port (suc (length o.body)) (first_spot o)

-- whole bytes are those of their records
whole_size : (n : ℕ) (h : CaptureHead) (g : ℕ) (l : List ℕ) → is_whole_from n h g l ≡ true → length l ≡ size_of (records_from n h g l)
whole_size zero h g l e = eqb-true (length l) 0 e
whole_size (suc n) h g l e = go (next h g l) refl e (λ moment rest. whole_size n h moment rest)
  where
    go : (x : Next) → next h g l ≡ x → whole_on n h x ≡ true → ((moment : ℕ) (rest : List ℕ) → is_whole_from n h moment rest ≡ true → length rest ≡ size_of (records_from n h moment rest)) → length l ≡ size_of (go_on n h x)
    go (Found moment caught rest) is e more = let size = (found_stands h g l moment caught rest is).size in let m = more moment rest e in omega (arith, size)
    go End is e more = ap length (end_is h g l is)
    go CutHead is e more = absurd (cc)
    go (TooLong len) is e more = absurd (cc)
    go (CutBytes len) is e more = absurd (cc)

file_size : (h : CaptureHead) (records : List Record) (l : List ℕ) → IsCapture h records l → length l ≤ HEAD + size_of records
file_size h records l is =
    let size = whole_size (length l) h 0 (drop HEAD l) is.whole in
    let same : size_of (records_from (length l) h 0 (drop HEAD l)) ≡ size_of records = ap size_of is.says in
    let n = length-drop HEAD l in
    omega arith

-- ---- of all ports

input_size : (c : Settings) (d : Seen) (first k port : ℕ) (names : List (List ℕ)) (opened : List Opened) (name l : List ℕ) → AreCaptures d names (all_records opened) → IsAt first names port name → d.file name ≡ Some l →
    length l ≤ HEAD + total (looks_of c k opened)
input_size c d first k port [] opened name l are at found = absurd at
input_size c d first k port (n ∷ names) [] name l are at found = absurd are
input_size c d first k port (n ∷ names) (o ∷ opened) name l are at found = by_place at (λ later. input_size c d (first + 1) (k + 1) port names opened name l are.1 later found)
  where
    parts : total (looks_of c k (o ∷ opened)) ≡ size_of (records_in o) + total (looks_of c (k + 1) opened)
    parts = total_append (looks c k (first_spot o)) (looks_of c (k + 1) opened) ∙ ap (λ m. m + total (looks_of c (k + 1) opened)) (total_in c k o)

    one : (m : List ℕ) → d.file n ≡ Some m → d.file n ≡ Some l → m ≡ l
    one m e f = cc

    by_place : ((port ≡ first) × (name ≡ n)) ⊎ IsAt (first + 1) names port name → (IsAt (first + 1) names port name → length l ≤ HEAD + total (looks_of c (k + 1) opened)) → length l ≤ HEAD + total (looks_of c k (o ∷ opened))
    by_place (inl is) more =
        let same : are.0.bytes ≡ l = one are.0.bytes are.0.file (ap d.file (sym is.1) ∙ found) in
        let size = file_size are.0.head (records_in o) are.0.bytes are.0.capture in
        let long : length are.0.bytes ≡ length l = ap length same in
        let p = parts in
        omega arith
    by_place (inr later) more = let m = more later in let p = parts in omega arith

-- an input of a run that ended is no longer than this
pub input_within : (c : Settings) (d : Seen) (port : ℕ) (names : List (List ℕ)) (opened : List Opened) (name l : List ℕ) → AreCaptures d names (all_records opened) → stop_of c opened ≡ None → IsAt 1 names port name → d.file name ≡ Some l →
    length l ≤ HEAD + MOST_BYTES
unfolding stop
input_within c d port names opened name l are none at found =
    let all = looks_of c 1 opened in
    let most = unstopped (first_window (in_order all)) (MOST_BYTES - HEAD * length opened) MOST_FRAMES (in_order all) none in
    let same = total_ordered all in
    let size = input_size c d 1 1 port names opened name l are at found in
    omega arith
