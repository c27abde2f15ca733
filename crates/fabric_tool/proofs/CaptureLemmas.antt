-- Whole captures, by their heads and the bytes behind them.
use Rattle.std.proofs.Common.{◌≡◌, ℕ, zero, suc, ◌+◌, ◌<◌, ◌≤◌, List, [], ◌∷◌, length, length-drop, true, Some, Ok, sym, ap, ◌∙◌, subst, arith, refl, inl, inr}
use Rattle.std.proofs.lemmas.Bool.{lt-ltb}
use Rattle.std.specs.Prelude.{Result, drop}
use Rattle.std.specs.List.{All}
use Rattle.std.proofs.lemmas.List.Elements.{All-head, All-tail, All-nil, All-cons}
use Rattle.fab_base.specs.Seen.{Seen}
use Rattle.pcap_file.specs.Capture.{HEAD, Next, Found, End, CutHead, TooLong, CutBytes, next, records_from, is_whole_from, head_decoded}
use Rattle.pcap_file.specs.declared.CapFault.{CapFault}
use Rattle.pcap_file.specs.declared.CaptureHead.{CaptureHead}
use Rattle.pcap_file.specs.declared.Record.{Record}
use Rattle.pcap_file.proofs.lemmas.Chains.{found_stands, go_on}
use Rattle.pcap_file.proofs.lemmas.Numbers.{le_or_lt}
use Rattle.window_records.specs.Looks.{Opened, records_in, all_records}
use Rattle.window_records.specs.Reads.{IsWhole}
use Rattle.fabric_tool.specs.Inputs.{HasCapture, AreCaptures, IsOpened, AreOpened}

-- a head has its 24 bytes
head_enough : (l : List ℕ) (h : CaptureHead) → head_decoded l ≡ Ok h → 24 ≤ length l
unfolding head_decoded
head_enough l h is = elim (le_or_lt 24 (length l)) [ inl le ↦ le | inr lt ↦ let short = lt-ltb (length l) 24 lt in absurd (cc (rw (short, head_decoded) at is)) ]

enough_on : (n m : ℕ) (h : CaptureHead) (g : ℕ) (l : List ℕ) → length l < suc n → length l < suc m → ((f : ℕ) (k : List ℕ) → length k < n → length k < m → records_from n h f k ≡ records_from m h f k) →
    (x : Next) → next h g l ≡ x → go_on n h x ≡ go_on m h x
enough_on n m h g l few few' more (Found moment caught rest) e =
    let shorter = (found_stands h g l moment caught rest e).size in
    ap (λ (rs : List Record). record { moment = moment; caught = caught } ∷ rs) (more moment rest (omega arith) (omega arith))
enough_on n m h g l few few' more End e = refl
enough_on n m h g l few few' more CutHead e = refl
enough_on n m h g l few few' more (TooLong len) e = refl
enough_on n m h g l few few' more (CutBytes len) e = refl

-- more steps than bytes are enough
enough : (n m : ℕ) (h : CaptureHead) (g : ℕ) (l : List ℕ) → length l < n → length l < m → records_from n h g l ≡ records_from m h g l
enough zero m h g l few few' = absurd (omega arith)
enough (suc n) zero h g l few few' = absurd (omega arith)
enough (suc n) (suc m) h g l few few' = enough_on n m h g l few few' (λ f k. enough n m h f k) (next h g l) refl

whole_capture : (d : Seen) (name : List ℕ) (o : Opened) → IsOpened d name o → IsWhole o → HasCapture d name (records_in o)
whole_capture d name o i whole =
    let many = head_enough i.bytes o.head i.head in
    let count : length o.body + HEAD ≡ length i.bytes = omega (arith, ap length i.body, length-drop HEAD i.bytes) in
    record {
      bytes = i.bytes;
      file = i.file;
      head = o.head;
      capture = record {
        head = i.head;
        whole = subst (λ (l : List ℕ). is_whole_from (length i.bytes) o.head 0 l ≡ true) i.body (subst (λ (n : ℕ). is_whole_from n o.head 0 o.body ≡ true) count whole);
        says = ap (λ (l : List ℕ). records_from (length i.bytes) o.head 0 l) (sym i.body) ∙ enough (length i.bytes) (suc (length o.body)) o.head 0 o.body (omega arith) (omega arith);
      };
    }

-- captures whose heads were read, and which are whole, are captures of their records
pub whole_captures : (d : Seen) (names : List (List ℕ)) (opened : List Opened) → AreOpened d names opened → All IsWhole opened → AreCaptures d names (all_records opened)
whole_captures d [] [] are whole = tt
whole_captures d [] (o ∷ opened) are whole = absurd are
whole_captures d (n ∷ names) [] are whole = absurd are
whole_captures d (n ∷ names) (o ∷ opened) are whole = (whole_capture d n o are.0 (All-head IsWhole o opened whole), whole_captures d names opened are.1 (All-tail IsWhole o opened whole))

-- a capture whose head was read, and which is whole, is whole behind that head
whole_again : (d : Seen) (name : List ℕ) (o : Opened) (rs : List Record) → IsOpened d name o → HasCapture d name rs → IsWhole o
whole_again d name o rs i h =
    let file : Some h.bytes ≡ Some i.bytes = sym h.file ∙ i.file in
    let same : h.bytes ≡ i.bytes = cc in
    let both : (let r : Result CaptureHead CapFault = Ok h.head in r) ≡ Ok o.head = sym h.capture.head ∙ ap head_decoded same ∙ i.head in
    let head : h.head ≡ o.head = cc in
    let many = head_enough i.bytes o.head i.head in
    let count : length i.bytes ≡ length o.body + HEAD = omega (arith, ap length i.body, length-drop HEAD i.bytes) in
    let there = subst (λ (l : List ℕ). is_whole_from (length l) h.head 0 (drop HEAD l) ≡ true) same h.capture.whole in
    let headed = subst (λ (x : CaptureHead). is_whole_from (length i.bytes) x 0 (drop HEAD i.bytes) ≡ true) head there in
    let behind = subst (λ (l : List ℕ). is_whole_from (length i.bytes) o.head 0 l ≡ true) (sym i.body) headed in
    subst (λ (n : ℕ). is_whole_from n o.head 0 o.body ≡ true) count behind

-- the same of all
pub whole_all : (d : Seen) (names : List (List ℕ)) (opened : List Opened) (ins : List (List Record)) → AreOpened d names opened → AreCaptures d names ins → All IsWhole opened
whole_all d [] [] ins are captures = All-nil IsWhole
whole_all d [] (o ∷ opened) ins are captures = absurd are
whole_all d (n ∷ names) [] ins are captures = absurd are
whole_all d (n ∷ names) (o ∷ opened) [] are captures = absurd captures
whole_all d (n ∷ names) (o ∷ opened) (rs ∷ ins) are captures = All-cons IsWhole o opened (whole_again d n o rs are.0 captures.0) (whole_all d names opened ins are.1 captures.1)
