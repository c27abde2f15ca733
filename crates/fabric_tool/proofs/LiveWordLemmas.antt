-- The names of `live`, and its outputs as they are opened: two for each port, one port after the other.
use Rattle.std.proofs.Common.{◌≡◌, ℕ, suc, ◌+◌, ◌-◌, ◌*◌, ◌/◌, ◌%◌, ◌<◌, ◌≤◌, ◌⊎◌, List, [], ◌∷◌, ◌++◌, length, true, ◌&&◌, Ok, Err, refl, sym, ap, ◌∙◌, subst, arith, inl, inr}
use Rattle.std.specs.Prelude.{String, map, nat_le, ◌==◌, codes}
use Rattle.std.specs.Str.{bytes_eq}
use Rattle.std.proofs.lemmas.Bool.{leb-true, eqb-true}
use Rattle.std.specs.declared.alloc.Global.{Global}
use Rattle.fab_base.specs.Places.{name_at}
use Rattle.fab_base.specs.Seen.{Seen, OpensOut}
use Rattle.fab_base.specs.declared.values.Failed.{Failed}
use Rattle.fab_base.specs.Counting.{counting}
use Rattle.run_files.specs.Names.{Among}
use Rattle.run_files.specs.Opening.{AreEmptyOutputs}
use Rattle.run_files.proofs.NameLemmas.{among_counted, among_split, split_names, length-counted}
use Rattle.run_files.proofs.OpenLemmas.{OpenedSoFar, opened_none, opened_more, opened_failed}
use Rattle.fabric_tool.specs.Command.{has_both, are_names, names_from, is_live, live_count, came_at, sent_at, live_of, by_port}
use Rattle.fabric_tool.specs.Opening.{RecordedOpened}
use Rattle.fabric_tool.proofs.NameLemmas.{and_true, one_name}

-- ---- how many words

-- the words of `live` are four and two for each port
pub record Both (words : List (String Global)) : Type 0 where
  pub fits : 2 * live_count words + 4 ≡ length words
  pub some : 1 ≤ live_count words
  pub few : live_count words ≤ 64
  pub names : are_names (names_from 1 words) ≡ true
  pub has : has_both words ≡ true

both_of : (n : ℕ) → 6 ≤ n → n ≤ 132 → n % 2 ≡ 0 → (2 * ((n - 4) / 2) + 4 ≡ n) × (1 ≤ (n - 4) / 2) × ((n - 4) / 2 ≤ 64)
both_of n least most even = (omega arith, omega arith, omega arith)

pub both : (words : List (String Global)) → is_live words ≡ true → Both words
both words is =
    let n = length words in
    let named = and_true (has_both words && are_names (names_from 1 words)) (bytes_eq (name_at words 0) (codes "live")) is in
    let parts = and_true (has_both words) (are_names (names_from 1 words)) named.0 in
    let even = and_true (nat_le 6 n && nat_le n 132) (n % 2 == 0) parts.0 in
    let ends = and_true (nat_le 6 n) (nat_le n 132) even.0 in
    let all = both_of n (leb-true 6 n ends.0) (leb-true n 132 ends.1) (eqb-true (n % 2) 0 even.1) in
    record { fits = all.0; some = all.1; few = all.2; names = parts.1; has = parts.0 }

-- ---- two lists, port by port

pub by_port_split : {A : Type 0} (xs ys vs ws : List A) (x y : A) → length xs ≡ length ys → by_port (xs ++ x ∷ vs) (ys ++ y ∷ ws) ≡ by_port xs ys ++ x ∷ y ∷ by_port vs ws
by_port_split [] [] vs ws x y e = refl
by_port_split [] (b ∷ ys) vs ws x y e = absurd (omega arith)
by_port_split (a ∷ xs) [] vs ws x y e = absurd (omega arith)
by_port_split (a ∷ xs) (b ∷ ys) vs ws x y e = ap (λ l. a ∷ b ∷ l) (by_port_split xs ys vs ws x y (omega arith))

pub among_ports : (xs ys : List (List ℕ)) (m : List ℕ) → Among (by_port xs ys) m → Among xs m ⊎ Among ys m
among_ports [] ys m a = absurd a
among_ports (x ∷ xs) [] m a = absurd a
among_ports (x ∷ xs) (y ∷ ys) m (inl is) = inl (inl is)
among_ports (x ∷ xs) (y ∷ ys) m (inr (inl is)) = inr (inl is)
among_ports (x ∷ xs) (y ∷ ys) m (inr (inr a)) = elim (among_ports xs ys m a) [ inl l ↦ inl (inr l) | inr r ↦ inr (inr r) ]

pub among_came : (xs ys : List (List ℕ)) (m : List ℕ) → length xs ≡ length ys → Among xs m → Among (by_port xs ys) m
among_came [] ys m e a = absurd a
among_came (x ∷ xs) [] m e a = absurd (omega arith)
among_came (x ∷ xs) (y ∷ ys) m e (inl is) = inl is
among_came (x ∷ xs) (y ∷ ys) m e (inr a) = inr (inr (among_came xs ys m (omega arith) a))

pub among_sent : (xs ys : List (List ℕ)) (m : List ℕ) → length xs ≡ length ys → Among ys m → Among (by_port xs ys) m
among_sent xs [] m e a = absurd a
among_sent [] (y ∷ ys) m e a = absurd (omega arith)
among_sent (x ∷ xs) (y ∷ ys) m e (inl is) = inr (inl is)
among_sent (x ∷ xs) (y ∷ ys) m e (inr a) = inr (inr (among_sent xs ys m (omega arith) a))

pub outputs_split : (d : Seen) (xs ys : List (List ℕ)) (ss ts : List ℕ) → length xs ≡ length ys → length ss ≡ length xs → length ts ≡ length ys → AreEmptyOutputs d (by_port xs ys) (by_port ss ts) → AreEmptyOutputs d xs ss × AreEmptyOutputs d ys ts
outputs_split d [] [] [] [] e f g are = (tt, tt)
outputs_split d (x ∷ xs) (y ∷ ys) (s ∷ ss) (t ∷ ts) e f g are =
    let rest = outputs_split d xs ys ss ts (omega arith) (omega arith) (omega arith) are.1.1 in
    ((are.0, rest.0), (are.1.0, rest.1))
outputs_split d xs ys ss ts e f g are = absurd (omega arith)

two_more : {A : Type 0} (l : List A) (x y : A) (r : List A) → (l ++ x ∷ []) ++ y ∷ r ≡ l ++ x ∷ y ∷ r
two_more [] x y r = refl
two_more (a ∷ l) x y r = ap (λ m. a ∷ m) (two_more l x y r)

-- ---- the names

-- the journal, and the captures of these ports
abbrev pub live_names : List (String Global) → ℕ → List (List ℕ)
live_names words p = name_at words 2 ∷ by_port (map (came_at words) (counting 0 p)) (map (sent_at words) (counting 0 p))

module _ (words : List (String Global)) (live : is_live words ≡ true) where
  abbrev n : ℕ
  n = live_count words

  fits : 2 * live_count words + 4 ≡ length words
  fits = (both words live).fits

  -- names at two places are one name only where the places are one
  pub place : (i j : ℕ) → 1 ≤ i → i < 2 * live_count words + 4 → 1 ≤ j → j < 2 * live_count words + 4 → name_at words i ≡ name_at words j → i ≡ j
  place i j some lt some' lt' same = one_name words i j (both words live).names some (omega (arith, lt, fits)) some' (omega (arith, lt', fits)) same

  pub came_once : (p q : ℕ) → p < n → q < n → came_at words p ≡ came_at words q → p ≡ q
  came_once p q lp lq same = let e = place (2 * p + 4) (2 * q + 4) (omega arith) (omega arith) (omega arith) (omega arith) same in omega arith

  pub sent_once : (p q : ℕ) → p < n → q < n → sent_at words p ≡ sent_at words q → p ≡ q
  sent_once p q lp lq same = let e = place (2 * p + 5) (2 * q + 5) (omega arith) (omega arith) (omega arith) (omega arith) same in omega arith

  pub came_sent : (p q : ℕ) → p < n → q < n → came_at words p ≡ sent_at words q → ⊥
  came_sent p q lp lq same = let e = place (2 * p + 4) (2 * q + 5) (omega arith) (omega arith) (omega arith) (omega arith) same in absurd (omega arith)

  -- the first three names are no captures
  pub came_first : (i p : ℕ) → 1 ≤ i → i ≤ 3 → p < n → came_at words p ≡ name_at words i → ⊥
  came_first i p some few lt same = let e = place (2 * p + 4) i (omega arith) (omega arith) (omega arith) (omega arith) same in absurd (omega arith)

  pub sent_first : (i p : ℕ) → 1 ≤ i → i ≤ 3 → p < n → sent_at words p ≡ name_at words i → ⊥
  sent_first i p some few lt same = let e = place (2 * p + 5) i (omega arith) (omega arith) (omega arith) (omega arith) same in absurd (omega arith)

  pub first_two : (i j : ℕ) → 1 ≤ i → i < j → j ≤ 3 → name_at words i ≡ name_at words j → ⊥
  first_two i j some lt few same = let e = place i j (omega arith) (omega arith) (omega arith) (omega arith) same in absurd (omega arith)

  -- the configuration and the stream are no outputs
  pub config_apart : Among (live_names words n) (name_at words 1) → ⊥
  config_apart (inl is) = first_two 1 2 (omega arith) (omega arith) (omega arith) is
  config_apart (inr a) = elim (among_ports (map (came_at words) (counting 0 n)) (map (sent_at words) (counting 0 n)) (name_at words 1) a) [
    | inl c ↦ let at = among_counted (came_at words) 0 n (name_at words 1) c in let lt = at.2 in came_first 1 at.0 (omega arith) (omega arith) (omega arith) (sym at.3)
    | inr s ↦ let at = among_counted (sent_at words) 0 n (name_at words 1) s in let lt = at.2 in sent_first 1 at.0 (omega arith) (omega arith) (omega arith) (sym at.3)
  ]

  pub stream_apart : Among (live_names words n) (name_at words 3) → ⊥
  stream_apart (inl is) = first_two 2 3 (omega arith) (omega arith) (omega arith) (sym is)
  stream_apart (inr a) = elim (among_ports (map (came_at words) (counting 0 n)) (map (sent_at words) (counting 0 n)) (name_at words 3) a) [
    | inl c ↦ let at = among_counted (came_at words) 0 n (name_at words 3) c in let lt = at.2 in came_first 3 at.0 (omega arith) (omega arith) (omega arith) (sym at.3)
    | inr s ↦ let at = among_counted (sent_at words) 0 n (name_at words 3) s in let lt = at.2 in sent_first 3 at.0 (omega arith) (omega arith) (omega arith) (sym at.3)
  ]

  -- a capture is none of the outputs before it
  pub new_came : (q : ℕ) → q < n → Among (live_names words q) (came_at words q) → ⊥
  new_came q lt (inl is) = came_first 2 q (omega arith) (omega arith) lt is
  new_came q lt (inr a) = elim (among_ports (map (came_at words) (counting 0 q)) (map (sent_at words) (counting 0 q)) (came_at words q) a) [
    | inl c ↦ let at = among_counted (came_at words) 0 q (came_at words q) c in let less = at.2 in let e = came_once q at.0 lt (omega arith) at.3 in absurd (omega arith)
    | inr s ↦ let at = among_counted (sent_at words) 0 q (came_at words q) s in let less = at.2 in came_sent q at.0 lt (omega arith) at.3
  ]

  pub new_sent : (q : ℕ) → q < n → Among (live_names words q ++ came_at words q ∷ []) (sent_at words q) → ⊥
  new_sent q lt a = elim (among_split (live_names words q) (came_at words q ∷ []) (sent_at words q) a) [
    | inl before ↦ elim before [
      | inl is ↦ sent_first 2 q (omega arith) (omega arith) lt is
      | inr b ↦ elim (among_ports (map (came_at words) (counting 0 q)) (map (sent_at words) (counting 0 q)) (sent_at words q) b) [
        | inl c ↦ let at = among_counted (came_at words) 0 q (sent_at words q) c in let less = at.2 in came_sent at.0 q (omega arith) lt (sym at.3)
        | inr s ↦ let at = among_counted (sent_at words) 0 q (sent_at words q) s in let less = at.2 in let e = sent_once q at.0 lt (omega arith) at.3 in absurd (omega arith)
      ]
    ]
    | inr own ↦ elim own [ inl is ↦ came_sent q q lt lt (sym is) | inr none ↦ absurd none ]
  ]

-- the names up to a port, its own, and those behind it
names_at_port : (words : List (String Global)) (n p : ℕ) → p < n → live_names words n ≡ live_names words p ++ came_at words p ∷ sent_at words p ∷ by_port (map (came_at words) (counting (p + 1) (n - (p + 1)))) (map (sent_at words) (counting (p + 1) (n - (p + 1))))
names_at_port words n p lt =
    let came = came_at words in
    let sent = sent_at words in
    let same : length (map came (counting 0 p)) ≡ length (map sent (counting 0 p)) = length-counted came 0 p ∙ sym (length-counted sent 0 p) in
    ap (λ l. name_at words 2 ∷ l)
    (ap (λ l. by_port l (map sent (counting 0 n))) (split_names came n p lt)
    ∙ ap (λ l. by_port (map came (counting 0 p) ++ came p ∷ map came (counting (p + 1) (n - (p + 1)))) l) (split_names sent n p lt)
    ∙ by_port_split (map came (counting 0 p)) (map sent (counting 0 p)) (map came (counting (p + 1) (n - (p + 1)))) (map sent (counting (p + 1) (n - (p + 1)))) (came p) (sent p) same)

names_more : (words : List (String Global)) (p : ℕ) → live_names words (p + 1) ≡ live_names words p ++ came_at words p ∷ sent_at words p ∷ []
names_more words p =
    let none : p + 1 - (p + 1) ≡ 0 = omega arith in
    names_at_port words (p + 1) p (omega arith)
    ∙ ap (λ (m : ℕ). live_names words p ++ came_at words p ∷ sent_at words p ∷ by_port (map (came_at words) (counting (p + 1) m)) (map (sent_at words) (counting (p + 1) m))) none

-- ---- the loop that opens them

-- what stands when the captures of so many ports are open
pub record PortsOpened (words : List (String Global)) (p : ℕ) (a b : Seen) (journal : ℕ) (ins outs : List ℕ) : Type 0 where
  pub opened : OpenedSoFar (live_names words p) a b (journal ∷ by_port ins outs)
  pub ins_ : length ins ≡ p
  pub outs_ : length outs ≡ p

pub live_journal : (words : List (String Global)) (a d : Seen) (s : ℕ) → OpensOut {E = Failed} (name_at words 2) a d (Ok s) → PortsOpened words 0 a d s [] []
live_journal words a d s o = record { opened = opened_more [] a a [] (opened_none a) (name_at words 2) d s (λ x. x) o; ins_ = refl; outs_ = refl }

pub live_no_journal : (words : List (String Global)) (a d : Seen) (e : Failed) → OpensOut {E = Failed} (name_at words 2) a d (Err e) → RecordedOpened (live_of words) a d (Err e)
live_no_journal words a d e o =
    let k = live_of words in
    let f = opened_failed [] a a [] (opened_none a) (name_at words 2) d (k.journal ∷ by_port k.ins k.outs) (by_port k.ins k.outs) refl e o in
    record { opens = f.0; slots = tt; cause = f.1; counts = tt }

module _ (words : List (String Global)) (live : is_live words ≡ true) (p : ℕ) (lt : p < live_count words) (a b : Seen) (journal : ℕ) (ins outs : List ℕ) (h : PortsOpened words p a b journal ins outs) where
  abbrev behind : List (List ℕ)
  behind = by_port (map (came_at words) (counting (p + 1) (live_count words - (p + 1)))) (map (sent_at words) (counting (p + 1) (live_count words - (p + 1))))

  pub came_failed : (d : Seen) (e : Failed) → OpensOut {E = Failed} (came_at words p) b d (Err e) → RecordedOpened (live_of words) a d (Err e)
  came_failed d e o =
      let f = opened_failed (live_names words p) a b (journal ∷ by_port ins outs) h.opened (came_at words p) d (live_names words (live_count words)) (sent_at words p ∷ behind) (names_at_port words (live_count words) p lt) e o in
      record { opens = f.0; slots = tt; cause = f.1; counts = tt }

  module _ (c : Seen) (s : ℕ) (came : OpensOut {E = Failed} (came_at words p) b c (Ok s)) where
    came_open : OpenedSoFar (live_names words p ++ came_at words p ∷ []) a c ((journal ∷ by_port ins outs) ++ s ∷ [])
    came_open = opened_more (live_names words p) a b (journal ∷ by_port ins outs) h.opened (came_at words p) c s (new_came words live p lt) came

    pub sent_failed : (d : Seen) (e : Failed) → OpensOut {E = Failed} (sent_at words p) c d (Err e) → RecordedOpened (live_of words) a d (Err e)
    sent_failed d e o =
        let all = names_at_port words (live_count words) p lt ∙ sym (two_more (live_names words p) (came_at words p) (sent_at words p) behind) in
        let f = opened_failed (live_names words p ++ came_at words p ∷ []) a c ((journal ∷ by_port ins outs) ++ s ∷ []) came_open (sent_at words p) d (live_names words (live_count words)) behind all e o in
        record { opens = f.0; slots = tt; cause = f.1; counts = tt }

    pub both_opened : (d : Seen) (t : ℕ) → OpensOut {E = Failed} (sent_at words p) c d (Ok t) → PortsOpened words (p + 1) a d journal (ins ++ s ∷ []) (outs ++ t ∷ [])
    both_opened d t o =
        let all = opened_more (live_names words p ++ came_at words p ∷ []) a c ((journal ∷ by_port ins outs) ++ s ∷ []) came_open (sent_at words p) d t (new_sent words live p lt) o in
        let names = two_more (live_names words p) (came_at words p) (sent_at words p) [] ∙ sym (names_more words p) in
        let slots = two_more (journal ∷ by_port ins outs) s t [] ∙ ap (λ l. journal ∷ l) (sym (by_port_split ins outs [] [] s t (h.ins_ ∙ sym h.outs_))) in
        record {
          opened = subst (λ l. OpenedSoFar l a d (journal ∷ by_port (ins ++ s ∷ []) (outs ++ t ∷ []))) names (subst (λ l. OpenedSoFar ((live_names words p ++ came_at words p ∷ []) ++ sent_at words p ∷ []) a d l) slots all);
          ins_ = one_more ins s h.ins_;
          outs_ = one_more outs t h.outs_;
        }
      where
        longer : (l : List ℕ) (x : ℕ) → length (l ++ x ∷ []) ≡ suc (length l)
        longer [] x = refl
        longer (y ∷ l) x = ap suc (longer l x)

        one_more : (l : List ℕ) (x : ℕ) {p : ℕ} → length l ≡ p → length (l ++ x ∷ []) ≡ p + 1
        one_more l x e = let h = longer l x in omega arith

-- those of all ports are open
pub live_opened : (words : List (String Global)) (a b : Seen) (journal : ℕ) (ins outs : List ℕ) → PortsOpened words (live_count words) a b journal ins outs →
    (length ins ≡ length (live_of words).ins) × (length outs ≡ length (live_of words).outs)
live_opened words a b journal ins outs h = (h.ins_ ∙ sym (length-counted (came_at words) 0 (live_count words)), h.outs_ ∙ sym (length-counted (sent_at words) 0 (live_count words)))
