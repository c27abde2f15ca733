-- Several outputs, one after another.
use Rattle.std.proofs.Common.{◌≡◌, ◌≢◌, ℕ, zero, suc, ◌+◌, ◌<◌, ◌≤◌, ◌⊎◌, inl, inr, List, [], ◌∷◌, ◌++◌, length, set, slice_get, get_or, Option, None, Some, Ok, Err, IsTrue, refl, sym, ◌∙◌, ap, subst, arith}
use Rattle.std.specs.Prelude.{Vec}
use Rattle.std.specs.declared.alloc.Global.{Global}
use Rattle.std.proofs.lemmas.List.{append-nil}
use Rattle.std.proofs.lemmas.Option.{slice_get_within}
use Rattle.fab_base.specs.Seen.{Seen, Reads, Rose, Touches, Nothing, Only, SameReadFaults, SameWriteFaults}
use Rattle.fab_base.specs.declared.values.Failed.{Failed}
use Rattle.fab_base.proofs.SeenLemmas.{rose_later, touches_refl, touches_trans, touches_wider, reads_touches}
use Rattle.fab_replay.specs.AllOutputs.{page_at, AreRead, OneRose, FeedsEach, FinishesEach}
use Rattle.fab_replay.specs.Outputs.{IsRead, GoesPart, Feeds, Finishes}
use Rattle.fab_replay.proofs.OutputLemmas.{part_none}
use Rattle.fab_base.specs.Slots.{slot_at, name_of, NameIn}
use Rattle.window_records.specs.Ports.{AreInputs}
use Rattle.window_records.proofs.SlotLemmas.{get_set_same, get_set_other}
use Rattle.fab_replay.specs.declared.outputs.Compared.{Compared}

-- ---- places in lists

length-set : {A : Type 0} (l : List A) (k : ℕ) (v : A) → length (set l k v) ≡ length l
length-set [] k v = refl
length-set (x ∷ l) zero v = refl
length-set (x ∷ l) (suc k) v = ap suc (length-set l k v)

pub page-item : (l : List (Vec ℕ Global)) (i : ℕ) (v : Vec ℕ Global) → i < length l → v ≡ get_or l i v → v.items ≡ page_at l i
page-item [] i v lt is = absurd (omega arith)
page-item (x ∷ l) zero v lt is = ap (λ (y : Vec ℕ Global). y.items) is
page-item (x ∷ l) (suc i) v lt is = page-item l i v (omega arith) is

before_or_at : (q k : ℕ) → q < k + 1 → (q < k) ⊎ (q ≡ k)
before_or_at q k lt = grind arith

-- ---- one slot of several is read

module _ (slots : List ℕ) (k : ℕ) (a b d : Seen) (are : AreInputs a slots) (lt : k < length slots) (touches : Touches Nothing (NameIn a slots) a b) where
  abbrev s : ℕ
  s = slot_at slots k

  same_input : (q : ℕ) → q < length slots → IsTrue (b.input (slot_at slots q))
  same_input q less = subst IsTrue (sym (touches.slots (slot_at slots q) (inl (are.inputs q less))).input) (are.inputs q less)

  same_name : (q : ℕ) → q < length slots → b.name (slot_at slots q) ≡ name_of a slots q
  same_name q less = (touches.slots (slot_at slots q) (inl (are.inputs q less))).name

  pub input_on : IsTrue (b.input s)
  input_on = same_input k lt

  pub told_on : IsTrue a.told → IsTrue b.told
  told_on told = subst IsTrue (sym touches.told) told

  module _ (reads : Reads (b.name s) b d) where
    pub touches_on : Touches Nothing (NameIn a slots) a d
    touches_on =
        touches_trans Nothing (NameIn a slots) a b d touches
        (touches_wider Nothing (Only (b.name s)) Nothing (NameIn a slots) b d (λ m none. none) (λ m e. (k, lt, e ∙ same_name k lt)) (reads_touches (b.name s) b d reads))

    pub others_left : (q : ℕ) → q ≢ k → q < length slots → d.left (slot_at slots q) ≡ b.left (slot_at slots q)
    others_left q ne less = reads.keeps.left (slot_at slots q) (same_input q less) (λ e. ne (are.differ q k less lt (sym (same_name q less) ∙ e ∙ same_name k lt)))

  pub rose_on : Rose (b.read_faults (b.name s)) (d.read_faults (b.name s)) → OneRose slots a d
  rose_on rose = (name_of a slots k, (k, lt, refl), rose_later _ _ _ (touches.reads_rise (name_of a slots k)) (subst (λ n. Rose (b.read_faults n) (d.read_faults n)) (same_name k lt) rose))

-- ---- pages

-- The outputs before a place were read on, and the others are as they were.
pub record Feeding (slots : List ℕ) (pages : List (Vec ℕ Global)) (k : ℕ) (a b : Seen) (all all' : List Compared) : Type 0 where
  pub touches : Touches Nothing (NameIn a slots) a b
  pub count : length all' ≡ length all
  pub done : IsTrue a.told → (q : ℕ) → q < k → q < length slots → (c c' : Compared) → slice_get all q ≡ Some c → slice_get all' q ≡ Some c' →
      (found wanted : List ℕ) → IsRead c found (a.left (slot_at slots q)) wanted → IsRead c' found (b.left (slot_at slots q)) (wanted ++ page_at pages q)
  pub rest : (q : ℕ) → k ≤ q → slice_get all' q ≡ slice_get all q
  pub left : (q : ℕ) → k ≤ q → q < length slots → b.left (slot_at slots q) ≡ a.left (slot_at slots q)
  pub counts : SameReadFaults a b
  pub writes : SameWriteFaults a b

pub feeding_none : (slots : List ℕ) (pages : List (Vec ℕ Global)) (a : Seen) (all : List Compared) → Feeding slots pages 0 a a all all
feeding_none slots pages a all = record {
  touches = touches_refl Nothing (NameIn a slots) a;
  count = refl;
  done = λ told q lt less c c' at at' found wanted r. absurd (omega arith);
  rest = λ q le. refl;
  left = λ q le lt. refl;
  counts = λ m. refl;
  writes = λ m. refl;
}

some_is : {A : Type 0} (o : Option A) (x y : A) → o ≡ Some x → o ≡ Some y → x ≡ y
some_is o x y e f = let g : Some x ≡ Some y = sym e ∙ f in cc

module _ (slots : List ℕ) (pages : List (Vec ℕ Global)) (k : ℕ) (a b d : Seen) (all all' : List Compared) (are : AreInputs a slots) (same : length slots ≡ length all) (lt : k < length slots) (f : Feeding slots pages k a b all all') (x y : Compared) (at_k : slice_get all' k ≡ Some x) where
  pub feed_more : (page : List ℕ) → page ≡ page_at pages k → Feeds (slot_at slots k) page b d x y (Ok tt) → Feeding slots pages (k + 1) a d all (set all' k y)
  feed_more page is feeds = record {
    touches = touches_on slots k a b d are lt f.touches feeds.reads;
    count = length-set all' k y ∙ f.count;
    done = λ told q less within c c' at at' found wanted r. elim (before_or_at q k less) [
      | inl before ↦
          let ne : q ≢ k = λ e. omega arith in
          subst (λ l. IsRead c' found l (wanted ++ page_at pages q)) (sym (others_left slots k a b d are lt f.touches feeds.reads q ne within))
          (f.done told q before within c c' at (sym (get_set_other all' k q y ne) ∙ at') found wanted r)
      | inr here ↦ own told q here c c' at at' found wanted r
    ];
    rest = λ q le. get_set_other all' k q y (λ e. omega arith) ∙ f.rest q (omega arith);
    left = λ q le within. others_left slots k a b d are lt f.touches feeds.reads q (λ e. omega arith) within ∙ f.left q (omega arith) within;
    counts = λ m. feeds.goes_on.counts m ∙ f.counts m;
    writes = λ m. feeds.reads.writes m ∙ f.writes m;
  }
    where
      at_own : IsTrue a.told → (c c' : Compared) → slice_get all k ≡ Some c → slice_get (set all' k y) k ≡ Some c' → (found wanted : List ℕ) → IsRead c found (a.left (slot_at slots k)) wanted → IsRead c' found (d.left (slot_at slots k)) (wanted ++ page_at pages k)
      at_own told c c' at at' found wanted r =
          let was : c ≡ x = some_is (slice_get all' k) c x (f.rest k (omega arith) ∙ at) at_k in
          let now : y ≡ c' = some_is (slice_get (set all' k y) k) y c' (get_set_same all' k y (let n = f.count in omega arith)) at' in
          subst (λ z. IsRead z found (d.left (slot_at slots k)) (wanted ++ page_at pages k)) now
          (subst (λ l. IsRead y found (d.left (slot_at slots k)) (wanted ++ l)) is (feeds.goes_on.read (told_on slots k a b d are lt f.touches told) found wanted
          (subst (λ z. IsRead z found (b.left (slot_at slots k)) wanted) was (subst (λ l. IsRead c found l wanted) (sym (f.left k (omega arith) lt)) r))))

      own : IsTrue a.told → (q : ℕ) → q ≡ k → (c c' : Compared) → slice_get all q ≡ Some c → slice_get (set all' k y) q ≡ Some c' → (found wanted : List ℕ) → IsRead c found (a.left (slot_at slots q)) wanted → IsRead c' found (d.left (slot_at slots q)) (wanted ++ page_at pages q)
      own told q e = subst (λ (n : ℕ). (c c' : Compared) → slice_get all n ≡ Some c → slice_get (set all' k y) n ≡ Some c' → (found wanted : List ℕ) → IsRead c found (a.left (slot_at slots n)) wanted → IsRead c' found (d.left (slot_at slots n)) (wanted ++ page_at pages n)) (sym e) (at_own told)

  pub feed_failed : (page : List ℕ) (e : Failed) → page ≡ page_at pages k → Feeds (slot_at slots k) page b d x y (Err e) → FeedsEach slots pages a d all (set all' k y) (Err e)
  feed_failed page e is feeds = record {
    touches = touches_on slots k a b d are lt f.touches feeds.reads;
    count = length-set all' k y ∙ f.count;
    read = λ told. tt;
    part = λ q c c' at at'. elim (less_or_more q k) [
      | inl before ↦ earlier q c c' before at (sym (get_set_other all' k q y (λ e. omega arith)) ∙ at')
      | inr (inl here) ↦ own q here c c' at at'
      | inr (inr behind) ↦
          let same_c : c ≡ c' = some_is (slice_get all q) c c' at (sym (f.rest q (omega arith)) ∙ (sym (get_set_other all' k q y (λ e. omega arith)) ∙ at')) in
          subst (GoesPart (slot_at slots q) (page_at pages q) a c) same_c (part_none (slot_at slots q) (page_at pages q) a c)
    ];
    cause = rose_on slots k a b d are lt f.touches feeds.cause;
    counts = tt;
    writes = λ m. feeds.reads.writes m ∙ f.writes m;
  }
    where
      less_or_more : (q n : ℕ) → (q < n) ⊎ ((q ≡ n) ⊎ (n < q))
      less_or_more q n = grind arith

      earlier : (q : ℕ) (c c' : Compared) → q < k → slice_get all q ≡ Some c → slice_get all' q ≡ Some c' → GoesPart (slot_at slots q) (page_at pages q) a c c'
      earlier q c c' before at at' = record {
        front = page_at pages q;
        rest = [];
        parts = sym (append-nil (page_at pages q));
        left = b.left (slot_at slots q);
        read = λ told found wanted r. f.done told q before (omega arith) c c' at at' found wanted r;
      }

      at_own : (c c' : Compared) → slice_get all k ≡ Some c → slice_get (set all' k y) k ≡ Some c' → GoesPart (slot_at slots k) (page_at pages k) a c c'
      at_own c c' at at' =
          let was : c ≡ x = some_is (slice_get all' k) c x (f.rest k (omega arith) ∙ at) at_k in
          let now : y ≡ c' = some_is (slice_get (set all' k y) k) y c' (get_set_same all' k y (let n = f.count in omega arith)) at' in
          let p = feeds.part in
          record {
            front = p.front;
            rest = p.rest;
            parts = sym is ∙ p.parts;
            left = p.left;
            read = λ told found wanted r.
                subst (λ z. IsRead z found p.left (wanted ++ p.front)) now
                (p.read (told_on slots k a b d are lt f.touches told) found wanted
                (subst (λ z. IsRead z found (b.left (slot_at slots k)) wanted) was (subst (λ l. IsRead c found l wanted) (sym (f.left k (omega arith) lt)) r)));
          }

      own : (q : ℕ) → q ≡ k → (c c' : Compared) → slice_get all q ≡ Some c → slice_get (set all' k y) q ≡ Some c' → GoesPart (slot_at slots q) (page_at pages q) a c c'
      own q e = subst (λ (n : ℕ). (c c' : Compared) → slice_get all n ≡ Some c → slice_get (set all' k y) n ≡ Some c' → GoesPart (slot_at slots n) (page_at pages n) a c c') (sym e) at_own

pub feed_all_of : (slots : List ℕ) (pages : List (Vec ℕ Global)) (k : ℕ) (a b : Seen) (all all' : List Compared) → length slots ≡ length all → length slots ≤ k → Feeding slots pages k a b all all' → FeedsEach slots pages a b all all' (Ok tt)
feed_all_of slots pages k a b all all' same le f = record {
  touches = f.touches;
  count = f.count;
  read = λ told found wanted are q c' at'.
      let within : q < length all' = slice_get_within all' q c' at' in
      let first : q < length all = let n = f.count in omega arith in
      let was = item_at all q first in
      f.done told q (omega arith) (omega arith) was.0 c' was.1 at' (found q) (wanted q) (are q was.0 was.1);
  part = tt;
  cause = tt;
  counts = f.counts;
  writes = f.writes;
}
  where
    item_at : (l : List Compared) (q : ℕ) → q < length l → (c : Compared) × (slice_get l q ≡ Some c)
    item_at [] q less = absurd (omega arith)
    item_at (c ∷ l) zero less = (c, refl)
    item_at (c ∷ l) (suc q) less = item_at l q (omega arith)

-- ---- the end

-- The outputs before a place are as they should be, and the others are read no further.
pub record Finishing (slots : List ℕ) (k : ℕ) (a b : Seen) (all : List Compared) : Type 0 where
  pub touches : Touches Nothing (NameIn a slots) a b
  pub done : IsTrue a.told → (found wanted : ℕ → List ℕ) → AreRead a slots all found wanted → (q : ℕ) → q < k → q < length all → found q ≡ wanted q
  pub left : (q : ℕ) → k ≤ q → q < length slots → b.left (slot_at slots q) ≡ a.left (slot_at slots q)
  pub counts : SameReadFaults a b
  pub writes : SameWriteFaults a b

pub finishing_none : (slots : List ℕ) (a : Seen) (all : List Compared) → Finishing slots 0 a a all
finishing_none slots a all = record {
  touches = touches_refl Nothing (NameIn a slots) a;
  done = λ told found wanted are q lt less. absurd (omega arith);
  left = λ q le lt. refl;
  counts = λ m. refl;
  writes = λ m. refl;
}

module _ (slots : List ℕ) (k : ℕ) (a b d : Seen) (all : List Compared) (are : AreInputs a slots) (same : length slots ≡ length all) (lt : k < length slots) (f : Finishing slots k a b all) (x : Compared) (at_k : slice_get all k ≡ Some x) where
  own_read : (found wanted : ℕ → List ℕ) → AreRead a slots all found wanted → IsRead x (found k) (b.left (slot_at slots k)) (wanted k)
  own_read found wanted r = subst (λ l. IsRead x (found k) l (wanted k)) (sym (f.left k (omega arith) lt)) (r k x at_k)

  pub finish_more : (r : Option ℕ) → r ≡ None → Finishes (slot_at slots k) b d x (Ok r) → Finishing slots (k + 1) a d all
  finish_more r none fin_r = let fin = subst (λ o. Finishes (slot_at slots k) b d x (Ok o)) none fin_r in record {
    touches = touches_on slots k a b d are lt f.touches fin.reads;
    done = λ told found wanted read q less within. elim (before_or_at q k less) [
      | inl before ↦ f.done told found wanted read q before within
      | inr here ↦ subst (λ (n : ℕ). found n ≡ wanted n) (sym here) (fin.compared (told_on slots k a b d are lt f.touches told) (found k) (wanted k) (own_read found wanted read))
    ];
    left = λ q le within. others_left slots k a b d are lt f.touches fin.reads q (λ e. omega arith) within ∙ f.left q (omega arith) within;
    counts = λ m. fin.counts m ∙ f.counts m;
    writes = λ m. fin.reads.writes m ∙ f.writes m;
  }

  pub finish_differs : (port place : ℕ) (r : Option ℕ) → port ≡ k + 1 → r ≡ Some place → Finishes (slot_at slots k) b d x (Ok r) → FinishesEach slots a d all (Ok (Some (port, place)))
  finish_differs port place r is some fin_r = let fin = subst (λ o. Finishes (slot_at slots k) b d x (Ok o)) some fin_r in record {
    touches = touches_on slots k a b d are lt f.touches fin.reads;
    first = λ told found wanted read. (k, is, omega arith, fin.compared (told_on slots k a b d are lt f.touches told) (found k) (wanted k) (own_read found wanted read), (λ q less. f.done told found wanted read q less (omega arith)));
    cause = tt;
    counts = λ m. fin.counts m ∙ f.counts m;
    writes = λ m. fin.reads.writes m ∙ f.writes m;
  }

  pub finish_failed : (e : Failed) → Finishes (slot_at slots k) b d x (Err e) → FinishesEach slots a d all (Err e)
  finish_failed e fin = record {
    touches = touches_on slots k a b d are lt f.touches fin.reads;
    first = λ told. tt;
    cause = rose_on slots k a b d are lt f.touches fin.cause;
    counts = tt;
    writes = λ m. fin.reads.writes m ∙ f.writes m;
  }

pub finish_all_of : (slots : List ℕ) (k : ℕ) (a b : Seen) (all : List Compared) → length slots ≡ length all → length slots ≤ k → Finishing slots k a b all → FinishesEach slots a b all (Ok None)
finish_all_of slots k a b all same le f = record {
  touches = f.touches;
  first = λ told found wanted r q less. f.done told found wanted r q (omega arith) less;
  cause = tt;
  counts = f.counts;
  writes = f.writes;
}
