-- What stands at a place of a capture, by the bytes there.
use Rattle.std.proofs.Common.{◌≡◌, ℕ, ◌+◌, ◌*◌, ◌/◌, if◌then◌else◌, ◌<◌, ◌≤◌, max, Bool, true, false, ltb, eqb, nat_lt, not, List, [], ◌++◌, length, length-append, length-drop, take, drop, refl, sym, ap, ◌∙◌, arith}
use Rattle.std.proofs.lemmas.Bool.{ne_eqb, le-ltb, lt-ltb}
use Rattle.std.proofs.lemmas.List.{take_at, drop_at, take-append-le, drop-append-le, drop-drop}
use Rattle.fab_base.specs.Layout.{field}
use Rattle.pcap_file.specs.declared.CaptureHead.{CaptureHead}
use Rattle.pcap_file.specs.Capture.{ordered, at_place, milliseconds, stored, caught_in, Next, Found, End, CutHead, TooLong, CutBytes, next}

-- a number in a front
pub at_front : (big : Bool) (front rest : List ℕ) (from count : ℕ) → from + count ≤ length front → at_place big (front ++ rest) from count ≡ at_place big front from count
at_front big front rest from count le =
    ap (ordered big) (ap (take count) (drop-append-le from front rest (omega arith)) ∙ take-append-le count (drop from front) rest (omega (arith, length-drop from front)))

pub next_end : (h : CaptureHead) (g : ℕ) → next h g [] ≡ End
unfolding next
next_end h g = refl

-- the ladder of the tests
abbrev pub ladder : Bool → Bool → Bool → Bool → ℕ → Next → Next
ladder empty short long cut len found = elim empty [
  | true ↦ End
  | false ↦ elim short [ true ↦ CutHead | false ↦ if long then TooLong len else if cut then CutBytes len else found ]
]

abbrev pub found_at : CaptureHead → ℕ → List ℕ → Next
found_at h g l = Found (max g (milliseconds h l)) (caught_in h l) (drop (16 + stored h l) l)

pub next_is : (h : CaptureHead) (g : ℕ) (l : List ℕ) → next h g l ≡ ladder (eqb (length l) 0) (ltb (length l) 16) (ltb 65535 (stored h l)) (ltb (length l) (16 + stored h l)) (stored h l) (found_at h g l)
unfolding next
next_is h g l = refl

module _ (h : CaptureHead) (g : ℕ) (l : List ℕ) where
  some : 0 < length l → eqb (length l) 0 ≡ false
  some pos = ne_eqb (length l) 0 (λ e. omega arith)

  pub next_short : 0 < length l → length l < 16 → next h g l ≡ CutHead
  next_short pos lt = next_is h g l ∙ (λ i. ladder (some pos i) (lt-ltb (length l) 16 lt i) (ltb 65535 (stored h l)) (ltb (length l) (16 + stored h l)) (stored h l) (found_at h g l))

  pub next_long : 16 ≤ length l → 65535 < stored h l → next h g l ≡ TooLong (stored h l)
  next_long le long = next_is h g l ∙ (λ i. ladder (some (omega arith) i) (le-ltb (length l) 16 le i) (lt-ltb 65535 (stored h l) long i) (ltb (length l) (16 + stored h l)) (stored h l) (found_at h g l))

  pub next_cut : 16 ≤ length l → stored h l ≤ 65535 → length l < 16 + stored h l → next h g l ≡ CutBytes (stored h l)
  next_cut le small cut = next_is h g l ∙ (λ i. ladder (some (omega arith) i) (le-ltb (length l) 16 le i) (le-ltb 65535 (stored h l) small i) (lt-ltb (length l) (16 + stored h l) cut i) (stored h l) (found_at h g l))

  pub next_whole : 16 ≤ length l → stored h l ≤ 65535 → 16 + stored h l ≤ length l → next h g l ≡ found_at h g l
  next_whole le small fits = next_is h g l ∙ (λ i. ladder (some (omega arith) i) (le-ltb (length l) 16 le i) (le-ltb 65535 (stored h l) small i) (le-ltb (length l) (16 + stored h l) fits i) (stored h l) (found_at h g l))

-- a record head in front of what is behind it
module _ (h : CaptureHead) (g : ℕ) (front m : List ℕ) (sized : length front ≡ 16) where
  long_enough : length (front ++ m) ≡ 16 + length m
  long_enough = omega (arith, length-append front m)

  number : (from : ℕ) → from + 4 ≤ 16 → at_place h.big (front ++ m) from 4 ≡ at_place h.big front from 4
  number from le = at_front h.big front m from 4 (omega arith)

  len_is : stored h (front ++ m) ≡ stored h front
  len_is = number 8 (omega arith)

  pub front_long : 65535 < stored h front → next h g (front ++ m) ≡ TooLong (stored h front)
  front_long long = next_long h g (front ++ m) (omega (arith, long_enough)) (omega (arith, len_is)) ∙ ap (λ (n : ℕ). TooLong n) len_is

  pub front_cut : stored h front ≤ 65535 → length m < stored h front → next h g (front ++ m) ≡ CutBytes (stored h front)
  front_cut small cut = next_cut h g (front ++ m) (omega (arith, long_enough)) (omega (arith, len_is)) (omega (arith, len_is, long_enough)) ∙ ap (λ (n : ℕ). CutBytes n) len_is

  milliseconds_is : milliseconds h (front ++ m) ≡ milliseconds h front
  milliseconds_is = λ i. number 0 (omega arith) i * 1000 + number 4 (omega arith) i / (if h.nano then 1000000 else 1000)

  module _ (body k : List ℕ) (is : m ≡ body ++ k) (len : length body ≡ stored h front) where
    bytes_are : field (front ++ m) 16 (stored h (front ++ m)) ≡ body
    bytes_are = (λ i. take (len_is i) (drop_at front m 16 sized i)) ∙ ap (take (stored h front)) is ∙ take_at body k (stored h front) len

    rest_is : drop (16 + stored h (front ++ m)) (front ++ m) ≡ k
    rest_is =
        sym (drop-drop (stored h (front ++ m)) 16 (front ++ m)) ∙ (λ i. drop (len_is i) (drop_at front m 16 sized i)) ∙ ap (drop (stored h front)) is ∙ drop_at body k (stored h front) len

    caught_is : caught_in h (front ++ m) ≡ record { bytes = body; whole = not (nat_lt (stored h front) (at_place h.big front 12 4)) }
    caught_is = λ i. record { bytes = bytes_are i; whole = not (nat_lt (len_is i) (number 12 (omega arith) i)) }

    pub front_whole : stored h front ≤ 65535 → next h g (front ++ m) ≡ Found (max g (milliseconds h front)) (record { bytes = body; whole = not (nat_lt (stored h front) (at_place h.big front 12 4)) }) k
    front_whole small =
        next_whole h g (front ++ m) (omega (arith, long_enough)) (omega (arith, len_is)) (omega (arith, len_is, long_enough, ap length is, length-append body k, len))
        ∙ (λ i. Found (max g (milliseconds_is i)) (caught_is i) (rest_is i))
