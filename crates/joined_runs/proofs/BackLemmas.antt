-- What is read of a capture was written there.
use Rattle.std.proofs.Common.{◌≡◌, ℕ, zero, suc, ◌+◌, ◌^◌, ◌<◌, ◌≤◌, max, Bool, true, false, cond, not, nat_lt, ltb, eqb, inl, inr, List, [], ◌∷◌, ◌++◌, length, length-append, drop, flat_map, refl, sym, ap, ◌∙◌, subst, append_assoc, arith}
use Rattle.std.proofs.lemmas.Bool.{ne_eqb, le-ltb, lt-ltb}
use Rattle.fab_base.proofs.LayoutLemmas.{little_endian-spelled}
use Rattle.pcap_file.specs.declared.CaptureHead.{CaptureHead}
use Rattle.pcap_file.specs.declared.Record.{Record}
use Rattle.pcap_file.specs.Capture.{at_place, milliseconds, stored, caught_in, Found, End, CutHead, TooLong, CutBytes, next, head_bytes, record_front, record_bytes, records_from, is_whole_from, IsCapture}
use Rattle.pcap_file.proofs.lemmas.Chains.{go_on, whole_on, same_ok}
use Rattle.pcap_file.proofs.lemmas.Numbers.{le_or_lt}
use Rattle.pcap_file.proofs.lemmas.Written.{front_whole, head_read, next_end}
use Rattle.enode_core.specs.Laws.{IsAmong, whole}
use Rattle.enode_core.proofs.Sources.{Each}

-- the head that is written
abbrev pub low : CaptureHead
low = record { big = false; nano = false }

-- bytes of less than 4 GiB, whose number four bytes can say
abbrev pub IsShort : List ℕ → Type 0
IsShort l = length l < 2 ^ 32

-- ---- one record

module _ (g moment : ℕ) (bytes rest : List ℕ) where
  len_is : IsShort bytes → stored low (record_front moment (length bytes)) ≡ length bytes
  len_is short = little_endian-spelled 4 (length bytes) (omega arith)

  original_is : IsShort bytes → at_place false (record_front moment (length bytes)) 12 4 ≡ length bytes
  original_is short = little_endian-spelled 4 (length bytes) (omega arith)

  record_there : length bytes ≤ 65535 → (t : ℕ) × (next low g (record_bytes moment bytes ++ rest) ≡ Found t (whole bytes) rest)
  record_there small =
      let short : IsShort bytes = omega arith in
      let m = max g (milliseconds low (record_front moment (length bytes))) in (
        m,
        ap (next low g) (append_assoc (record_front moment (length bytes)) bytes rest)
            ∙ front_whole low g (record_front moment (length bytes)) (bytes ++ rest) refl bytes rest refl (sym (len_is short)) (omega (arith, len_is short))
            ∙ (λ i. Found m (record { bytes = bytes; whole = not (nat_lt (len_is short i) (original_is short i)) }) rest)
            ∙ ap (λ (b : Bool). Found m (record { bytes = bytes; whole = not b }) rest) (le-ltb (length bytes) (length bytes) (omega arith)),
      )

-- the tests of what stands there, of which these come before a record
record_long : (h : CaptureHead) (g : ℕ) (l : List ℕ) → 16 ≤ length l → 65535 < stored h l → next h g l ≡ TooLong (stored h l)
unfolding next
record_long h g l le long =
    let some : eqb (length l) 0 ≡ false = ne_eqb (length l) 0 (λ e. omega arith) in
    λ i. elim (some i) [
      | true ↦ End
      | false ↦ elim (le-ltb (length l) 16 le i) [
        | true ↦ CutHead
        | false ↦ cond (lt-ltb 65535 (stored h l) long i) (TooLong (stored h l)) (cond (ltb (length l) (16 + stored h l)) (CutBytes (stored h l)) (Found (max g (milliseconds h l)) (caught_in h l) (drop (16 + stored h l) l)))
      ]
    ]

-- a record of more bytes than one stores
record_over : (g moment : ℕ) (bytes rest : List ℕ) → IsShort bytes → 65535 < length bytes → (len : ℕ) × (next low g (record_bytes moment bytes ++ rest) ≡ TooLong len)
record_over g moment bytes rest short long =
    let front = record_front moment (length bytes) in
    let l = record_bytes moment bytes ++ rest in
    let same : stored low l ≡ length bytes = ap (stored low) (append_assoc front bytes rest) ∙ len_is g moment bytes rest short in
    (stored low l, record_long low g l (omega (arith, length-append (front ++ bytes) rest, length-append front bytes)) (omega (arith, same)))

-- ---- all records

module _ {X : Type 0} (moment : X → ℕ) (bytes : X → List ℕ) where
  -- records of these, one after another
  abbrev pub written_of : List X → List ℕ
  written_of xs = flat_map (λ x. record_bytes (moment x) (bytes x)) xs

  abbrev AreShort : List X → Type 0
  AreShort xs = Each (λ x. IsShort (bytes x)) xs

  read_there : (xs : List X) (n g : ℕ) → AreShort xs → is_whole_from n low g (written_of xs) ≡ true → (r : Record) → IsAmong r (records_from n low g (written_of xs)) → (x : X) × IsAmong x xs × (r.caught ≡ whole (bytes x))
  read_there xs zero g short is r among = absurd among
  read_there [] (suc n) g short is r among = absurd (subst (λ (rs : List Record). IsAmong r rs) (ap (go_on n low) (next_end low g)) among)
  read_there (x ∷ xs) (suc n) g short is r among = elim (le_or_lt (length (bytes x)) 65535) [
    | inl small ↦
        let there = record_there g (moment x) (bytes x) (written_of xs) small in
        let more : is_whole_from n low there.0 (written_of xs) ≡ true = sym (ap (whole_on n low) there.1) ∙ is in
        by x xs there.0 n (subst (λ (rs : List Record). IsAmong r rs) (ap (go_on n low) there.1) among) (λ later. read_there xs n there.0 short.1 more r later)
    | inr long ↦
        let over = record_over g (moment x) (bytes x) (written_of xs) short.0 long in
        let no : false ≡ true = sym (ap (whole_on n low) over.1) ∙ is in
        absurd (cc)
  ]
    where
      by : (x : X) (xs : List X) (t n : ℕ) → IsAmong r (record { moment = t; caught = whole (bytes x) } ∷ records_from n low t (written_of xs))
          → (IsAmong r (records_from n low t (written_of xs)) → (y : X) × IsAmong y xs × (r.caught ≡ whole (bytes y))) → (y : X) × IsAmong y (x ∷ xs) × (r.caught ≡ whole (bytes y))
      by x xs t n (inl same) later = (x, inl refl, ap (λ (q : Record). q.caught) same)
      by x xs t n (inr there) later = let l = later there in (l.0, inr l.1, l.2)

  pub back : (xs : List X) → AreShort xs → (h : CaptureHead) (rs : List Record) → IsCapture h rs (head_bytes ++ written_of xs) → (r : Record) → IsAmong r rs → (x : X) × IsAmong x xs × (r.caught ≡ whole (bytes x))
  back xs short h rs is r among =
      let file = head_bytes ++ written_of xs in
      let same : h ≡ low = same_ok h low file is.head (head_read (written_of xs)) in
      read_there xs (length file) 0 short (ap (λ (k : CaptureHead). is_whole_from (length file) k 0 (written_of xs)) (sym same) ∙ is.whole) r
      (subst (λ (qs : List Record). IsAmong r qs) (sym is.says ∙ ap (λ (k : CaptureHead). records_from (length file) k 0 (written_of xs)) same) among)

  -- the records of a short file are short
  pub short_in : (xs : List X) → IsShort (written_of xs) → AreShort xs
  short_in [] h = tt
  short_in (x ∷ xs) h =
      let size = length-append (record_bytes (moment x) (bytes x)) (written_of xs) in
      let one = length-append (record_front (moment x) (length (bytes x))) (bytes x) in
      (omega (arith, size, one), short_in xs (omega (arith, size)))
