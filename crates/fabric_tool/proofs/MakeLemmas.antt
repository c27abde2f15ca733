-- The nine files of `make`: opened one after another, and written.
use Rattle.std.proofs.Common.{◌≡◌, ◌≢◌, ℕ, suc, ◌+◌, ◌-◌, ◌<◌, ◌≤◌, List, [], ◌∷◌, ◌++◌, length, true, ◌&&◌, codes, Ok, Err, IsTrue, refl, sym, ap, ◌∙◌, subst, arith, inl, inr}
use Rattle.std.specs.Prelude.{String, Result, map, slice_index, ◌==◌}
use Rattle.std.proofs.lemmas.Bool.{eqb-true}
use Rattle.std.specs.Str.{bytes_eq}
use Rattle.std.specs.declared.alloc.Global.{Global}
use Rattle.fab_base.specs.Places.{name_at}
use Rattle.fab_base.specs.Seen.{Seen, SameWriteFaults, OpensOut}
use Rattle.fab_base.specs.declared.values.Failed.{Failed}
use Rattle.fab_base.proofs.EndingLemmas.{none_then}
use Rattle.fab_base.specs.Counting.{counting}
use Rattle.fab_base.specs.Slots.{NameIn}
use Rattle.pcap_file.proofs.lemmas.Numbers.{le_or_lt}
use Rattle.fab_vectors.specs.Making.{AreNine, Makes, file_text}
use Rattle.fab_vectors.specs.declared.MakeFault.{MakeFault}
use Rattle.fab_vectors.specs.declared.MakeFault.TheVariants as faults
use Rattle.fabric_tool.specs.Command.{Make, is_make, files_of, make_of, file_at, names_from, are_names}
use Rattle.run_files.specs.Names.{Among}
use Rattle.fabric_tool.specs.Ends.{Holds, KeepsOthers, TouchesOwn}
use Rattle.fabric_tool.specs.Load.{HasLoadFront, file_name}
use Rattle.fabric_tool.specs.Opening.{FilesOpened}
use Rattle.run_files.specs.Opening.{AreEmptyOutputs, Opens}
use Rattle.fabric_tool.specs.declared.making.LoadFiles.{LoadFiles}
use Rattle.fabric_tool.specs.declared.outcome.Outcome.TheVariants as ends
use Rattle.fabric_tool.proofs.AmongLemmas.{none_among}
use Rattle.run_files.proofs.NameLemmas.{among_counted, counted_among, rose_since, split_names, push_name}
use Rattle.fabric_tool.proofs.NameLemmas.{and_true, words_differ, name_counted}
use Rattle.fabric_tool.proofs.TouchLemmas.{own_then, own_wider, own_written}
use Rattle.run_files.proofs.OpenLemmas.{At, OpenedSoFar, opened_more, opened_failed, slots_count, there, up_to_rose}

-- ---- the words

make_form : (words : List (String Global)) → is_make words ≡ true → (length words ≡ 11) × (are_names (names_from 2 words) ≡ true)
make_form words is =
    let worded = and_true (length words == 11 && bytes_eq (name_at words 0) (codes "make")) (are_names (names_from 2 words)) is in
    let counted = and_true (length words == 11) (bytes_eq (name_at words 0) (codes "make")) worded.0 in
    (eqb-true (length words) 11 counted.0, worded.1)

files_differ : (words : List (String Global)) (i j : ℕ) → are_names (names_from 2 words) ≡ true → i < j → j + 2 < length words → file_at words i ≢ file_at words j
files_differ [] i j names lt within = absurd (omega arith)
files_differ (w ∷ []) i j names lt within = absurd (omega arith)
files_differ (w ∷ v ∷ ws) i j names lt within = λ same. words_differ ws i j names lt (omega arith) (sym (behind i) ∙ same ∙ behind j)
  where
    behind : (q : ℕ) → name_at (w ∷ v ∷ ws) (q + 2) ≡ name_at ws q
    behind q = ap (name_at (w ∷ v ∷ ws)) (let e : q + 2 ≡ suc (suc q) = omega arith in e)

-- names at two places are one name only where the places are one
one_file : (words : List (String Global)) → is_make words ≡ true → (i j : ℕ) → i < 9 → j < 9 → file_at words i ≡ file_at words j → i ≡ j
one_file words make i j within within' same =
    let form = make_form words make in
    let count = form.0 in
    elim (le_or_lt i j) [
      | inl le ↦ elim (le_or_lt j i) [ inl ge ↦ omega arith | inr lt ↦ absurd (files_differ words i j form.1 lt (omega arith) same) ]
      | inr gt ↦ absurd (files_differ words j i form.1 gt (omega arith) (sym same))
    ]

-- the files before this one
abbrev pub file_names : List (String Global) → ℕ → List (List ℕ)
file_names words p = map (file_at words) (counting 0 p)

-- ---- opening them

new_file : (words : List (String Global)) → is_make words ≡ true → (q : ℕ) → q < 9 → Among (map (file_at words) (counting 0 q)) (file_at words q) → ⊥
new_file words make q lt among =
    let at = among_counted (file_at words) 0 q (file_at words q) among in
    let few = at.2 in
    let same = one_file words make q at.0 lt (omega arith) at.3 in
    absurd (omega arith)

module _ (words : List (String Global)) (make : is_make words ≡ true) (p : ℕ) (lt : p < 9) (a b d : Seen) (slots : List ℕ) (h : OpenedSoFar (map (file_at words) (counting 0 p)) a b slots) where
  pub file_more : (s : ℕ) → OpensOut {E = Failed} (file_at words p) b d (Ok s) → OpenedSoFar (map (file_at words) (counting 0 (p + 1))) a d (slots ++ s ∷ [])
  file_more s o =
      subst (λ names. OpenedSoFar names a d (slots ++ s ∷ [])) (sym (push_name (file_at words) p))
      (opened_more (map (file_at words) (counting 0 p)) a b slots h (file_at words p) d s (new_file words make p lt) o)

  pub file_failed : (e : Failed) → OpensOut {E = Failed} (file_at words p) b d (Err e) → FilesOpened (files_of words) a d (Err e)
  file_failed e o =
      let f = opened_failed (map (file_at words) (counting 0 p)) a b slots h (file_at words p) d (files_of words) (map (file_at words) (counting (p + 1) (9 - (p + 1)))) (split_names (file_at words) 9 p lt) e o in
      record { opens = f.0; slots = tt; cause = f.1; counts = tt }

pub files_count : (words : List (String Global)) (p : ℕ) (a b : Seen) (slots : List ℕ) → OpenedSoFar (map (file_at words) (counting 0 p)) a b slots → length slots ≡ p
files_count words p a b slots h = slots_count b (file_at words) p slots h.are

pub files_opened : (words : List (String Global)) (p : ℕ) (a b : Seen) (files : LoadFiles) → 9 ≤ p → p ≤ 9 → OpenedSoFar (map (file_at words) (counting 0 p)) a b files.slots.items → FilesOpened (files_of words) a b (Ok files)
files_opened words p a b files le most h =
    let all : p ≡ 9 = omega arith in
    let o = subst (λ (n : ℕ). OpenedSoFar (map (file_at words) (counting 0 n)) a b files.slots.items) all h in
    record { opens = o.opens; slots = o.are; cause = tt; counts = o.counts }

-- ---- writing them

module _ (words : List (String Global)) (make : is_make words ≡ true) (b : Seen) (slots : List ℕ) (are : AreEmptyOutputs b (files_of words) slots) where
  nine : length slots ≡ 9
  nine = slots_count b (file_at words) 9 slots are

  a_file : (q : ℕ) → q < 9 → At b (file_at words q) (slice_index slots q)
  a_file q lt = there b (file_at words) 9 slots are q lt

  pub are_nine : AreNine b slots
  are_nine = record {
    count = nine;
    outputs = λ q lt. (a_file q lt).output;
    differ = λ p q lp lq same. one_file words make p q lp lq (sym (a_file p lp).name_is ∙ same ∙ (a_file q lq).name_is);
    empty = λ told q lt. ap b.file (a_file q lt).name_is ∙ (a_file q lt).empty told;
  }

  named_among : (m : List ℕ) → NameIn b slots m → Among (files_of words) m
  named_among m named =
      let count = nine in
      let lt = named.1 in
      let within : named.0 < 9 = omega arith in
      subst (Among (files_of words)) (sym (named.2 ∙ (a_file named.0 within).name_is)) (counted_among (file_at words) 0 9 named.0 (omega arith) within)

  -- the name of a file by its place
  name_of_file : (number q : ℕ) → q < 9 → b.name (slice_index slots q) ≡ file_name (make_of number words) q
  name_of_file number q lt = (a_file q lt).name_is ∙ sym (name_counted (file_at words) 9 q lt)

  module _ (number : ℕ) {a d : Seen} (opens : Opens (files_of words) a b) (same : SameWriteFaults a b) {r : Result ℕ MakeFault} (m : Makes number slots b d r) where
    keeps : KeepsOthers (Make (make_of number words)) a d
    keeps n none =
        let not_one = none_among (files_of words) n none in
        m.uses.touches.files n (λ named. not_one (named_among n named)) ∙ opens.touches.files n not_one

    told_on : IsTrue a.told → IsTrue b.told
    told_on told = subst IsTrue (sym opens.touches.told) told

    fronts : IsTrue a.told → HasLoadFront (make_of number words) a d
    fronts told q lt =
        let h = m.front (told_on told) q lt in
        inr (h.0, sym (ap d.file (name_of_file number q lt)) ∙ h.1, h.2)

    pub made_own : TouchesOwn (Make (make_of number words)) a d
    made_own =
        let k = Make (make_of number words) in
        own_then k a b d (own_written k a b opens.touches) (own_wider k _ _ b d named_among (λ n x. elim x [ inl none ↦ absurd none | inr named ↦ inr (named_among n named) ]) m.uses.touches)

    pub made_whole : (frames : ℕ) → r ≡ Ok frames → Holds (Make (make_of number words)) a d (ends.Made frames)
    made_whole frames is =
        let n = subst (λ x. Makes number slots b d x) is m in
        (n.count, (keeps, λ told q lt. sym (ap d.file (name_of_file number q lt)) ∙ n.whole (told_on told) q lt, none_then a b d (opens.reads, same) n.uses.counts))

    pub made_memory : r ≡ Err faults.Memory → Holds (Make (make_of number words)) a d ends.Memory
    made_memory is =
        let n = subst (λ x. Makes number slots b d x) is m in
        (keeps, fronts, none_then a b d (opens.reads, same) n.uses.counts)

    pub made_failed : r ≡ Err faults.Write → Holds (Make (make_of number words)) a d ends.WriteFault
    made_failed is =
        let n = subst (λ x. Makes number slots b d x) is m in
        let one = n.uses.counts.0 in
        (keeps, fronts, (rose_since a.write_faults b.write_faults d.write_faults opens.touches.writes_rise (files_of words) (one.0, named_among one.0 one.1, one.2), λ x. n.uses.counts.1 x ∙ opens.reads x))

-- an output that couldn't be opened
pub not_opened : (number : ℕ) (words : List (String Global)) (a b : Seen) (e : Failed) → FilesOpened (files_of words) a b (Err e) → Holds (Make (make_of number words)) a b ends.WriteFault
not_opened number words a b e o = (
  λ m none. o.opens.touches.files m (none_among (files_of words) m none),
  λ told q lt. elim (o.opens.each told (file_name (make_of number words) q)) [
    | inl same ↦ inl same
    | inr empty ↦ inr ([], empty, (file_text number q, refl))
  ],
  (up_to_rose (files_of words) a b o.cause, o.opens.reads),
)

-- a number and slots as they were handed on
pub makes_as : {n m : ℕ} {s t : List ℕ} {b d : Seen} {r : Result ℕ MakeFault} → n ≡ m → s ≡ t → Makes n s b d r → Makes m t b d r
makes_as {n} {m} {s} {t} {b} {d} {r} e f x = subst (λ l. Makes m l b d r) f (subst (λ (k : ℕ). Makes k s b d r) e x)
