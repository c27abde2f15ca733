-- What a reading says of the bytes as a file.
use Rattle.std.proofs.Common.{◌≡◌, ℕ, zero, suc, ◌+◌, ◌≤◌, ◌%◌, ◌⊎◌, inl, inr, Bool, true, false, not, ◌&&◌, ◌||◌, if◌then◌else◌, eqb, ltb, List, [], ◌∷◌, ◌++◌, length, length-append, length-drop, take, drop, Option, Some, None, Ok, Err, refl, sym, ap, ◌∙◌, arith}
use Rattle.std.specs.Prelude.{Result, is_some}
use Rattle.std.proofs.lemmas.Bool.{lt-ltb, le-ltb, eqb-true}
use Rattle.pcap_file.specs.declared.Budget.{Budget}
use Rattle.pcap_file.proofs.lemmas.Numbers.{le_or_lt, none_is}
use Rattle.pcapng_file.specs.declared.fault.NgWhy.{NgWhy}
use Rattle.pcapng_file.specs.declared.fault.NgWhy.TheVariants as why
use Rattle.pcapng_file.specs.declared.fault.NgLimit.TheVariants as limits
use Rattle.pcapng_file.specs.declared.fault.NgError.{NgError}
use Rattle.pcapng_file.specs.declared.fault.NgError.TheVariants as errors
use Rattle.pcapng_file.specs.declared.block.Head.{Head}
use Rattle.pcapng_file.specs.declared.block.Kind.{Kind}
use Rattle.pcapng_file.specs.declared.block.Kind.TheVariants as kinds
use Rattle.pcapng_file.specs.declared.packet.Content.{Content}
use Rattle.pcapng_file.specs.declared.reading.Block.{Block}
use Rattle.pcapng_file.specs.declared.NgRecord.{NgRecord}
use Rattle.pcapng_file.specs.Block.{Test, first, NoneHolds, unless, least, size_of, kind_of, head_of, head_tests, head_read, body_tests, body_read, content_of}
use Rattle.pcapng_file.specs.File.{Section, before_all, front_tests, head_at, whole_tests, content_at, after, found, Blocks, IsNg, at_fault, and_then, frames_of, counted, step_of, less, in_front, go_on, read_from, ng_read}
use Rattle.pcapng_file.proofs.StepLemmas.{step_end, step_cut, step_bad, step_bytes, step_short, step_whole, both_left}
use Rattle.pcapng_file.proofs.GoingLemmas.{read_is}

-- ---- tests

none_first : (ts : List Test) → NoneHolds ts → first ts ≡ None
none_first [] n = refl
none_first (t ∷ ts) n = (λ i. if n.0 i then Some t.tells else first ts) ∙ none_first ts n.1

first_cases : (b : Bool) (fault : NgWhy) (rest : Option NgWhy) → (if b then Some fault else rest) ≡ None → (b ≡ false) × (rest ≡ None)
first_cases true fault rest e = absurd (cc)
first_cases false fault rest e = (refl, e)

first_none : (ts : List Test) → first ts ≡ None → NoneHolds ts
first_none [] e = tt
first_none (t ∷ ts) e = let h = first_cases t.holds t.tells (first ts) e in (h.0, first_none ts h.1)

option_cases : {A : Type 0} → (o : Option A) → (o ≡ None) ⊎ ((a : A) × (o ≡ Some a))
option_cases None = inl refl
option_cases (Some a) = inr (a, refl)

bool_cases : (b : Bool) → (b ≡ true) ⊎ (b ≡ false)
bool_cases true = inl refl
bool_cases false = inr refl

-- ---- heads and bodies

head_is : (order : Option Bool) (b : List ℕ) → head_read order b ≡ unless (first (head_tests order b)) (head_of order b)
unfolding head_read
head_is order b = refl

body_is : (h : Head) (s : Section) (b : List ℕ) → body_read h s.faces b ≡ unless (first (body_tests h s.faces b)) (content_of h.kind h.big s.faces b)
unfolding body_read
body_is h s b = refl

-- a whole block at a place
pub record Stands (s : Section) (l : List ℕ) : Type 0 where
  pub front : NoneHolds (front_tests s l)
  pub whole : NoneHolds (whole_tests s l)

right_false : (x y : Bool) → (x || y) ≡ false → y ≡ false
right_false true y e = absurd (cc)
right_false false y e = e

ltb_false : (a b : ℕ) → ltb a b ≡ false → b ≤ a
ltb_false a b e = elim (le_or_lt b a) [ inl le ↦ le | inr lt ↦ let no : ltb a b ≡ true = lt-ltb a b lt in absurd (cc) ]

least_bound : (k : Kind) → 12 ≤ least k
least_bound kinds.Section = omega arith
least_bound kinds.Interface = omega arith
least_bound kinds.Packet = omega arith
least_bound kinds.Simple = omega arith
least_bound kinds.Other = omega arith

module _ (s : Section) (l : List ℕ) (st : Stands s l) where
  pub long_enough : 12 ≤ length l
  long_enough = ltb_false (length l) 12 st.front.0

  pub size_fits : (head_at s l).size ≤ length l
  size_fits = ltb_false (length l) (head_at s l).size st.whole.0

  pub size_least : 12 ≤ (head_at s l).size
  size_least =
      let big_enough : least (kind_of s.order (take 12 l)) ≤ size_of s.order (take 12 l) = ltb_false (size_of s.order (take 12 l)) (least (kind_of s.order (take 12 l))) (right_false (not (eqb (size_of s.order (take 12 l) % 4) 0)) (ltb (size_of s.order (take 12 l)) (least (kind_of s.order (take 12 l)))) st.front.1.1.1.0) in
      let some = least_bound (kind_of s.order (take 12 l)) in
      omega arith

  head_stands : head_read s.order (take 12 l) ≡ Ok (head_at s l)
  head_stands = head_is s.order (take 12 l) ∙ ap (λ o. unless o (head_at s l)) (none_first (head_tests s.order (take 12 l)) st.front.1)

  body_stands : body_read (head_at s l) s.faces (take (head_at s l).size l) ≡ Ok (content_at s l)
  body_stands = body_is (head_at s l) s (take (head_at s l).size l) ∙ ap (λ o. unless o (content_at s l)) (none_first (body_tests (head_at s l) s.faces (take (head_at s l).size l)) st.whole.1)

-- ---- the step

-- the block at a place
abbrev pub block_at : Section → List ℕ → Block
block_at s l = record { size = (head_at s l).size; content = content_at s l }

-- what a step is: the end, an error, or a block within the limits
pub record Ended (budget : Budget) (at : ℕ) (s : Section) (l : List ℕ) : Type 0 where
  pub none : l ≡ []
  pub some : is_some s.order ≡ true
  pub is : step_of budget at s l ≡ Ok None

pub record Passed (budget : Budget) (at : ℕ) (s : Section) (l : List ℕ) : Type 0 where
  pub stands : Stands s l
  pub room : (head_at s l).size ≤ budget.bytes
  pub frames : frames_of (content_at s l) ≤ budget.frames
  pub is : step_of budget at s l ≡ Ok (Some (block_at s l))

abbrev Errs : Budget → ℕ → Section → List ℕ → Type 0
Errs budget at s l = (e : NgError) × (step_of budget at s l ≡ Err e)

both_right : (x y : Bool) → (x && y) ≡ true → y ≡ true
both_right true y e = e
both_right false y e = absurd (cc)

module _ (budget : Budget) (at : ℕ) (s : Section) (l : List ℕ) where
  pub step_stands : (st : Stands s l) → (head_at s l).size ≤ budget.bytes → frames_of (content_at s l) ≤ budget.frames → Passed budget at s l
  step_stands st room le = record {
    stands = st;
    room = room;
    frames = le;
    is =
        step_whole budget at s l (long_enough s l st) (head_at s l) (head_stands s l st) room (size_fits s l st)
        ∙ ap (λ (x : Result Content NgWhy). and_then (at_fault at x) (counted budget (head_at s l).size)) (body_stands s l st)
        ∙ (λ i. if le-ltb budget.frames (frames_of (content_at s l)) le i then Err (errors.Limit limits.Frames) else Ok (Some (block_at s l)));
  }

  module _ (le : 12 ≤ length l) (head : first (head_tests s.order (take 12 l)) ≡ None) where
    head_ok : head_read s.order (take 12 l) ≡ Ok (head_at s l)
    head_ok = head_is s.order (take 12 l) ∙ ap (λ o. unless o (head_at s l)) head

    module _ (room : (head_at s l).size ≤ budget.bytes) (fits : (head_at s l).size ≤ length l) where
      at_body : (o : Option NgWhy) → first (body_tests (head_at s l) s.faces (take (head_at s l).size l)) ≡ o → step_of budget at s l ≡ and_then (at_fault at (unless o (content_at s l))) (counted budget (head_at s l).size)
      at_body o is =
          step_whole budget at s l le (head_at s l) head_ok room fits
          ∙ ap (λ (x : Result Content NgWhy). and_then (at_fault at x) (counted budget (head_at s l).size)) (body_is (head_at s l) s (take (head_at s l).size l) ∙ ap (λ p. unless p (content_at s l)) is)

      by_body : Errs budget at s l ⊎ Passed budget at s l
      by_body = elim (option_cases (first (body_tests (head_at s l) s.faces (take (head_at s l).size l)))) [
        | inr p ↦ inl (errors.Fault at p.0, at_body (Some p.0) p.1)
        | inl none ↦ elim (le_or_lt (frames_of (content_at s l)) budget.frames) [
          | inr lt ↦ inl (errors.Limit limits.Frames, at_body None none ∙ (λ i. if lt-ltb budget.frames (frames_of (content_at s l)) lt i then Err (errors.Limit limits.Frames) else Ok (Some (block_at s l))))
          | inl le_frames ↦
              let st : Stands s l = record {
                front = (le-ltb (length l) 12 le, first_none (head_tests s.order (take 12 l)) head);
                whole = (le-ltb (length l) (head_at s l).size fits, first_none (body_tests (head_at s l) s.faces (take (head_at s l).size l)) none);
              } in
              inr (step_stands st room le_frames)
        ]
      ]

    by_size : Errs budget at s l ⊎ Passed budget at s l
    by_size = elim (le_or_lt (head_at s l).size budget.bytes) [
      | inr lt ↦ inl (errors.Limit limits.Bytes, step_bytes budget at s l le (head_at s l) head_ok lt)
      | inl room ↦ elim (le_or_lt (head_at s l).size (length l)) [
        | inr lt ↦ inl (errors.Fault at why.Cut, step_short budget at s l le (head_at s l) head_ok room lt)
        | inl fits ↦ by_body room fits
      ]
    ]

  by_head : (eqb (length l) 0 && is_some s.order) ≡ false → Errs budget at s l ⊎ Passed budget at s l
  by_head more = elim (le_or_lt 12 (length l)) [
    | inr lt ↦ inl (errors.Fault at why.Cut, step_cut budget at s l lt more)
    | inl le ↦ elim (option_cases (first (head_tests s.order (take 12 l)))) [
      | inr p ↦ inl (errors.Fault at p.0, step_bad budget at s l le p.0 (head_is s.order (take 12 l) ∙ ap (λ o. unless o (head_at s l)) p.1))
      | inl none ↦ by_size le none
    ]
  ]

  pub steps : Ended budget at s l ⊎ (Errs budget at s l ⊎ Passed budget at s l)
  steps = elim (bool_cases (eqb (length l) 0 && is_some s.order)) [
    | inl ended ↦ inl (record {
      none = none_is l (eqb-true (length l) 0 (both_left (eqb (length l) 0) (is_some s.order) ended));
      some = both_right (eqb (length l) 0) (is_some s.order) ended;
      is = step_end budget at s l ended;
    })
    | inr more ↦ inr (by_head more)
  ]

-- ---- the file

abbrev on_from : ℕ → Budget → ℕ → Section → List ℕ → Result (Option Block) NgError → Result (List NgRecord) NgError
on_from n budget at s l x = go_on (λ b. in_front (found b.content) (read_from n (less budget b) (at + b.size) (after s b.content) (drop b.size l))) x

front_ok : (v w : List NgRecord) (x : Result (List NgRecord) NgError) → in_front v x ≡ Ok w → (u : List NgRecord) × (x ≡ Ok u) × (w ≡ v ++ u)
front_ok v w (Ok u) e = (u, refl, cc)
front_ok v w (Err f) e = absurd (cc)

-- what is read is a file within the limits
pub record Read (budget : Budget) (s : Section) (v : List NgRecord) (l : List ℕ) : Type 0 where
  pub file : (n : ℕ) × Blocks n s v l
  pub bytes : length l ≤ budget.bytes
  pub frames : length v ≤ budget.frames

pub read_is_file : (n : ℕ) (budget : Budget) (at : ℕ) (s : Section) (l : List ℕ) (v : List NgRecord) → read_from n budget at s l ≡ Ok v → Read budget s v l
read_is_file zero budget at s l v e = absurd (cc)
read_is_file (suc n) budget at s l v e = elim (steps budget at s l) [
  | inl ended ↦
      let nothing : v ≡ [] = let ok : Ok [] ≡ Ok v = sym (ap (on_from n budget at s l) ended.is) ∙ e in cc in
      let none = ended.none in
      record { file = (zero, (ended.some, nothing, none)); bytes = omega (arith, ap length none); frames = omega (arith, ap length nothing) }
  | inr other ↦ elim other [
    | inl bad ↦ let no : Err bad.0 ≡ Ok v = sym (ap (on_from n budget at s l) bad.1) ∙ e in absurd (cc)
    | inr passed ↦
        let inside = front_ok (found (content_at s l)) v (read_from n (less budget (block_at s l)) (at + (head_at s l).size) (after s (content_at s l)) (drop (head_at s l).size l)) (sym (ap (on_from n budget at s l) passed.is) ∙ e) in
        let more : Read (less budget (block_at s l)) (after s (content_at s l)) inside.0 (drop (head_at s l).size l) = read_is_file n (less budget (block_at s l)) (at + (head_at s l).size) (after s (content_at s l)) (drop (head_at s l).size l) inside.0 inside.1 in
        let joined : v ≡ found (content_at s l) ++ inside.0 = inside.2 in
        record {
          file = (suc more.file.0, (passed.stands.front, passed.stands.whole, inside.0, joined, more.file.1));
          bytes = omega (arith, more.bytes, passed.room, length-drop (head_at s l).size l, size_fits s l passed.stands);
          frames = omega (arith, more.frames, passed.frames, ap length joined, length-append (found (content_at s l)) inside.0);
        }
  ]
]

file_go : (m n : ℕ) (budget : Budget) (at : ℕ) (s : Section) (l : List ℕ) (v : List NgRecord) → Blocks m s v l → length l ≤ budget.bytes → length v ≤ budget.frames → length l ≤ n → read_from (suc n) budget at s l ≡ Ok v
file_go zero n budget at s l v (some, nothing, none) bytes frames room =
    let ended : (eqb (length l) 0 && is_some s.order) ≡ true = (λ i. eqb (length (none i)) 0 && some i) in
    ap (on_from n budget at s l) (step_end budget at s l ended) ∙ ap (λ (w : List NgRecord). Ok w) (sym nothing)
file_go (suc m) zero budget at s l v (front, whole, w, joined, more) bytes frames room =
    let st : Stands s l = record { front = front; whole = whole } in
    let long = long_enough s l st in
    absurd (omega arith)
file_go (suc m) (suc n) budget at s l v (front, whole, w, joined, more) bytes frames room =
    let st : Stands s l = record { front = front; whole = whole } in
    let fits = size_fits s l st in
    let least_size = size_least s l st in
    let shorter = length-drop (head_at s l).size l in
    let all = length-append (found (content_at s l)) w in
    let passed : Passed budget at s l = step_stands budget at s l st (omega arith) (omega (arith, ap length joined, all)) in
    let rest : read_from (suc n) (less budget (block_at s l)) (at + (head_at s l).size) (after s (content_at s l)) (drop (head_at s l).size l) ≡ Ok w = file_go m n (less budget (block_at s l)) (at + (head_at s l).size) (after s (content_at s l)) (drop (head_at s l).size l) w more (omega arith) (omega (arith, ap length joined, all)) (omega arith) in
    ap (on_from (suc n) budget at s l) passed.is ∙ ap (in_front (found (content_at s l))) rest ∙ ap (λ (u : List NgRecord). Ok u) (sym joined)

pub file_is_read : (budget : Budget) (v : List NgRecord) (l : List ℕ) → IsNg v l → length l ≤ budget.bytes → length v ≤ budget.frames → ng_read budget l ≡ Ok v
file_is_read budget v l is bytes frames = read_is budget l ∙ file_go is.0 (length l) budget 0 before_all l v is.1 bytes frames (omega arith)

pub one_list : (v w : List NgRecord) (l : List ℕ) → IsNg v l → IsNg w l → v ≡ w
one_list v w l a b =
    let budget : Budget = record { bytes = length l; frames = length v + length w } in
    let first_read : ng_read budget l ≡ Ok v = file_is_read budget v l a (omega arith) (omega arith) in
    let second_read : ng_read budget l ≡ Ok w = file_is_read budget w l b (omega arith) (omega arith) in
    let same : Ok v ≡ Ok w = sym first_read ∙ second_read in
    cc
