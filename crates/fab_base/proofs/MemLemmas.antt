-- What a change at one name's place keeps of a depot in memory.
use Rattle.std.proofs.Common.{◌≡◌, ◌≢◌, ℕ, zero, suc, ◌+◌, ◌-◌, ◌<◌, ◌≤◌, List, [], ◌∷◌, ◌++◌, length, length-drop, OnSome, get_or, set, slice_get, slice_index, drop, take, Option, Some, None, Ok, true, false, Bool, IsTrue, is_some, is_none, refl, sym, ◌∙◌, ap, subst, arith, String, Vec, inl, inr, ◌⊎◌}
use Rattle.std.proofs.lemmas.Option.{slice_get_past}
use Rattle.std.proofs.lemmas.List.{take_all, take_at, length-take-le, take-append-drop, drop-drop}
use Rattle.std.specs.declared.alloc.Global.{Global}
use Rattle.fab_base.specs.declared.desk.DeskSlot.{DeskSlot}
use Rattle.fab_base.specs.declared.desk.Desk.{Desk}
use Rattle.fab_base.specs.Seen.{Keeps, Reads, Rose, OpensIn, OpensOut, Puts, bytes_of}
use Rattle.fab_base.specs.Places.{place, name_at, slot_file, slot_at, is_input, is_output}
use Rattle.fab_base.specs.Contents.{capacity_of, capacity_at, content_at, content_in, content_bytes}
use Rattle.fab_base.specs.Desk.{KeepsAll, place_of, file_of, at_of, name, count_at, one_more, Stays, KeepsOtherSlots, KeepsCounts}
use Rattle.fab_base.specs.MemDepot.{spare_at, seen_of, left_by, CountsReads, CountsWrites}
use Rattle.fab_base.proofs.PlaceLemmas.{place_at}
use Rattle.fab_base.proofs.SlotLemmas.{same_slots, other_slots, keeps_others, same_reads, same_writes}

-- a slot that is an input, or an output, is one of the slots
pub input_within : (slots : List DeskSlot) (s : ℕ) → IsTrue (is_input (slice_get slots s)) → s < length slots
input_within [] s h = absurd (cc)
input_within (x ∷ xs) zero h = omega arith
input_within (x ∷ xs) (suc s) h = let r = input_within xs s h in omega arith

pub output_within : (slots : List DeskSlot) (s : ℕ) → IsTrue (is_output (slice_get slots s)) → s < length slots
output_within [] s h = absurd (cc)
output_within (x ∷ xs) zero h = omega arith
output_within (x ∷ xs) (suc s) h = let r = output_within xs s h in omega arith

pub open_within : (slots : List DeskSlot) (s : ℕ) → IsTrue (is_input (slice_get slots s)) ⊎ IsTrue (is_output (slice_get slots s)) → s < length slots
open_within slots s (inl h) = input_within slots s h
open_within slots s (inr h) = output_within slots s h

-- two names at one place are one
apart : (names : List (String Global)) (m n : List ℕ) (i f : ℕ) → place n names ≡ Some f → place m names ≡ Some i → m ≢ n → i ≢ f
apart names m n i f is_n is_m ne e = ne (sym (place_at m names i is_m).is ∙ ap (name_at names) e ∙ (place_at n names f is_n).is)

module _ (n : List ℕ) (f : ℕ) (old new : Desk) (was now : List (Option (Vec ℕ Global))) (at : place_of old n ≡ Some f) (stays : Stays f old new) (others : (i : ℕ) → i ≢ f → content_at now i ≡ content_at was i) where
  same_place : (m : List ℕ) → place_of new m ≡ place_of old m
  same_place m = ap (place m) stays.names

  files_by : (m : List ℕ) (o : Option ℕ) → place_of old m ≡ o → m ≢ n → content_in now o ≡ content_in was o
  files_by m None e ne = refl
  files_by m (Some i) e ne = others i (apart old.names.items m n i f at e ne)

  reads_by : (m : List ℕ) (o : Option ℕ) → place_of old m ≡ o → m ≢ n → count_at new.reads.items o ≡ count_at old.reads.items o
  reads_by m None e ne = refl
  reads_by m (Some i) e ne = stays.reads i (apart old.names.items m n i f at e ne)

  writes_by : (m : List ℕ) (o : Option ℕ) → place_of old m ≡ o → m ≢ n → count_at new.writes.items o ≡ count_at old.writes.items o
  writes_by m None e ne = refl
  writes_by m (Some i) e ne = stays.writes i (apart old.names.items m n i f at e ne)

  same_name : (s : ℕ) → s < length old.slots.items → name new s ≡ name old s
  same_name s lt = ap (λ l. name_at l (file_of new s)) stays.names ∙ ap (name_at old.names.items) (stays.slots s lt).file

  left_stays : (s : ℕ) → s < length old.slots.items → name old s ≢ n → (seen_of new now).left s ≡ (seen_of old was).left s
  left_stays s lt ne =
      let other : file_of old s ≢ f = λ e. ne (ap (name_at old.names.items) e ∙ (place_at n old.names.items f at).is) in
      ap (λ k. drop k (bytes_of (content_at now (file_of new s)))) (stays.ats s lt other)
      ∙ ap (λ k. drop (at_of old s) (bytes_of (content_at now k))) (stays.slots s lt).file
      ∙ ap (λ c. drop (at_of old s) (bytes_of c)) (others (file_of old s) other)

  pub mem_keeps : Keeps n (seen_of old was) (seen_of new now)
  mem_keeps = record {
    told = refl;
    knows = λ m. ap is_some (same_place m);
    slots = λ s h.
        let lt = open_within old.slots.items s h in
        record { input = (stays.slots s lt).input; output = (stays.slots s lt).output; name = same_name s lt };
    files = λ m ne. ap (content_in now) (same_place m) ∙ files_by m (place_of old m) refl ne;
    left = λ s h ne. left_stays s (input_within old.slots.items s h) ne;
    reads = λ m ne. ap (count_at new.reads.items) (same_place m) ∙ reads_by m (place_of old m) refl ne;
    writes = λ m ne. ap (count_at new.writes.items) (same_place m) ∙ writes_by m (place_of old m) refl ne;
    reads_rise = let before : (seen_of old was).read_faults n ≡ slice_index old.reads.items f = ap (count_at old.reads.items) at in let after : (seen_of new now).read_faults n ≡ slice_index new.reads.items f = ap (count_at new.reads.items) (same_place n ∙ at) in omega (arith, before, after, stays.reads_rise);
    writes_rise = let before : (seen_of old was).write_faults n ≡ slice_index old.writes.items f = ap (count_at old.writes.items) at in let after : (seen_of new now).write_faults n ≡ slice_index new.writes.items f = ap (count_at new.writes.items) (same_place n ∙ at) in omega (arith, before, after, stays.writes_rise);
  }

pub stays_trans : (f : ℕ) (a b c : Desk) → Stays f a b → Stays f b c → Stays f a c
stays_trans f a b c k l = record {
  names = l.names ∙ k.names;
  no_fewer = omega (arith, k.no_fewer, l.no_fewer);
  slots = λ s lt. let m = l.slots s (omega (arith, k.no_fewer)) in let j = k.slots s lt in record { file = m.file ∙ j.file; input = m.input ∙ j.input; output = m.output ∙ j.output };
  ats = λ s lt ne. l.ats s (omega (arith, k.no_fewer)) (λ e. ne (sym (k.slots s lt).file ∙ e)) ∙ k.ats s lt ne;
  reads = λ i ne. l.reads i ne ∙ k.reads i ne;
  writes = λ i ne. l.writes i ne ∙ k.writes i ne;
  reads_rise = omega (arith, k.reads_rise, l.reads_rise);
  writes_rise = omega (arith, k.writes_rise, l.writes_rise);
}

pub content_at-get_or : (xs : List (Option (Vec ℕ Global))) (i : ℕ) (d : Option (Vec ℕ Global)) → i < length xs → content_at xs i ≡ content_bytes (get_or xs i d)
content_at-get_or [] i d h = absurd (omega arith)
content_at-get_or (x ∷ xs) zero d h = refl
content_at-get_or (x ∷ xs) (suc i) d h = content_at-get_or xs i d (omega arith)

capacity_at-get_or : (xs : List (Option (Vec ℕ Global))) (i : ℕ) (d : Option (Vec ℕ Global)) → i < length xs → capacity_at xs i ≡ capacity_of (get_or xs i d)
capacity_at-get_or [] i d h = absurd (omega arith)
capacity_at-get_or (x ∷ xs) zero d h = refl
capacity_at-get_or (x ∷ xs) (suc i) d h = capacity_at-get_or xs i d (omega arith)

pub content_at-set_same : (xs : List (Option (Vec ℕ Global))) (i : ℕ) (y : Option (Vec ℕ Global)) → i < length xs → content_at (set xs i y) i ≡ content_bytes y
content_at-set_same [] i y h = absurd (omega arith)
content_at-set_same (x ∷ xs) zero y h = refl
content_at-set_same (x ∷ xs) (suc i) y h = content_at-set_same xs i y (omega arith)

pub content_at-set_other : (xs : List (Option (Vec ℕ Global))) (i j : ℕ) (y : Option (Vec ℕ Global)) → j ≢ i → content_at (set xs i y) j ≡ content_at xs j
content_at-set_other [] i j y ne = refl
content_at-set_other (x ∷ xs) zero zero y ne = absurd (ne refl)
content_at-set_other (x ∷ xs) zero (suc j) y ne = refl
content_at-set_other (x ∷ xs) (suc i) zero y ne = refl
content_at-set_other (x ∷ xs) (suc i) (suc j) y ne = content_at-set_other xs i j y (λ e. ne (ap suc e))

pub there_at : (xs : List (Option (Vec ℕ Global))) (i : ℕ) (x : Option (Vec ℕ Global)) → i < length xs → x ≡ get_or xs i x → is_none x ≡ false → (bytes : List ℕ) × (content_at xs i ≡ Some bytes)
there_at xs i None lt is none = absurd (cc)
there_at xs i (Some v) lt is none = (v.items, content_at-get_or xs i (Some v) lt ∙ ap content_bytes (sym is))

pub none_at : (xs : List (Option (Vec ℕ Global))) (i : ℕ) (x : Option (Vec ℕ Global)) → i < length xs → x ≡ get_or xs i x → is_none x ≡ true → content_at xs i ≡ None
none_at xs i None lt is none = content_at-get_or xs i None lt ∙ ap content_bytes (sym is)
none_at xs i (Some v) lt is none = absurd (cc)

-- the same names, counts and slots are kept at each place
pub stays_all : (f : ℕ) (old new : Desk) → KeepsAll old new → Stays f old new
stays_all f old new k = record {
  names = k.names;
  no_fewer = omega (arith, ap (λ (l : List DeskSlot). length l) k.slots);
  slots = λ s lt. let same = ap (λ l. slice_get l s) k.slots in record { file = ap slot_file same; input = ap is_input same; output = ap is_output same };
  ats = λ s lt ne. ap (λ l. slot_at (slice_get l s)) k.slots;
  reads = λ i ne. ap (λ l. slice_index l i) k.reads;
  writes = λ i ne. ap (λ l. slice_index l i) k.writes;
  reads_rise = omega (arith, ap (λ l. slice_index l f) k.reads);
  writes_rise = omega (arith, ap (λ l. slice_index l f) k.writes);
}

pub keeps_same : (old new : Desk) → new ≡ old → KeepsAll old new
keeps_same old new e = record {
  names = ap (λ d. d.names.items) e;
  reads = ap (λ d. d.reads.items) e;
  writes = ap (λ d. d.writes.items) e;
  slots = ap (λ d. d.slots.items) e;
}

pub stays_same : (f : ℕ) (old new : Desk) → new ≡ old → Stays f old new
stays_same f old new e = stays_all f old new (keeps_same old new e)

-- a new slot was none before
pub fresh_slot : (slots : List DeskSlot) (s : ℕ) → s ≡ length slots → (is_input (slice_get slots s) ≡ false) × (is_output (slice_get slots s) ≡ false)
fresh_slot slots s e = let past : slice_get slots s ≡ None = slice_get_past slots s (omega arith) in (ap is_input past, ap is_output past)

module _ (n : List ℕ) (f : ℕ) (old new : Desk) (was now : List (Option (Vec ℕ Global))) (at : place_of old n ≡ Some f) (stays : Stays f old new) where
  file_is : (seen_of new now).file n ≡ content_at now f
  file_is = ap (content_in now) (ap (place n) stays.names ∙ at)

  file_was : (seen_of old was).file n ≡ content_at was f
  file_was = ap (content_in was) at

  reads_are : (seen_of old was).read_faults n ≡ slice_index old.reads.items f
  reads_are = ap (count_at old.reads.items) at

  reads_now : (seen_of new now).read_faults n ≡ slice_index new.reads.items f
  reads_now = ap (count_at new.reads.items) (ap (place n) stays.names ∙ at)

  writes_are : (seen_of old was).write_faults n ≡ slice_index old.writes.items f
  writes_are = ap (count_at old.writes.items) at

  writes_now : (seen_of new now).write_faults n ≡ slice_index new.writes.items f
  writes_now = ap (count_at new.writes.items) (ap (place n) stays.names ∙ at)

  pub read_rose : slice_index new.reads.items f ≡ one_more (slice_index old.reads.items f) → Rose ((seen_of old was).read_faults n) ((seen_of new now).read_faults n)
  read_rose rose = omega (arith, reads_are, reads_now, rose)

  pub write_rose : slice_index new.writes.items f ≡ one_more (slice_index old.writes.items f) → Rose ((seen_of old was).write_faults n) ((seen_of new now).write_faults n)
  write_rose rose = omega (arith, writes_are, writes_now, rose)

  pub counts_read : slice_index new.reads.items f ≡ one_more (slice_index old.reads.items f) → new.writes.items ≡ old.writes.items → CountsReads n true (seen_of old was) (seen_of new now)
  counts_read rose same = record { reads = reads_now ∙ rose ∙ ap one_more (sym reads_are); writes = writes_now ∙ ap (λ l. slice_index l f) same ∙ sym writes_are }

  pub counts_write : slice_index new.writes.items f ≡ one_more (slice_index old.writes.items f) → new.reads.items ≡ old.reads.items → CountsWrites n true (seen_of old was) (seen_of new now)
  counts_write rose same = record { writes = writes_now ∙ rose ∙ ap one_more (sym writes_are); reads = reads_now ∙ ap (λ l. slice_index l f) same ∙ sym reads_are }

  pub keeps_counts : KeepsCounts old new → CountsReads n false (seen_of old was) (seen_of new now) × CountsWrites n false (seen_of old was) (seen_of new now)
  keeps_counts k =
      let r : (seen_of new now).read_faults n ≡ (seen_of old was).read_faults n = reads_now ∙ ap (λ l. slice_index l f) k.reads ∙ sym reads_are in
      let w : (seen_of new now).write_faults n ≡ (seen_of old was).write_faults n = writes_now ∙ ap (λ l. slice_index l f) k.writes ∙ sym writes_are in
      (record { reads = r; writes = w }, record { reads = r; writes = w })

  pub mem_reads : now ≡ was → new.writes.items ≡ old.writes.items → Reads n (seen_of old was) (seen_of new now)
  mem_reads same writes = record {
    keeps = mem_keeps n f old new was now at stays (λ i ne. ap (λ v. content_at v i) same);
    files = λ m. ap (content_in now) (ap (place m) stays.names) ∙ ap (λ v. content_in v (place_of old m)) same;
    writes = same_writes old new was now stays.names writes;
  }

  pub same_file : content_at now f ≡ content_at was f → (seen_of new now).file n ≡ (seen_of old was).file n
  same_file e = file_is ∙ e ∙ sym file_was

  pub opened_name : (s a : ℕ) (b : Bool) → slice_get new.slots.items s ≡ Some (record { file = f; at = a; input = b }) → name new s ≡ n
  opened_name s a b slot = ap (λ o. name_at new.names.items (slot_file o)) slot ∙ ap (λ l. name_at l f) stays.names ∙ (place_at n old.names.items f at).is

  pub mem_opens_in : {E : Type 0} (s : ℕ) → now ≡ was → s ≡ length old.slots.items → slice_get new.slots.items s ≡ Some (record { file = f; at = 0; input = true }) → (bytes : List ℕ) × (content_at now f ≡ Some bytes) → KeepsOtherSlots s old new → KeepsCounts old new → OpensIn {E = E} n (seen_of old was) (seen_of new now) (Ok s)
  mem_opens_in s same last slot there others k = record {
    reads = mem_reads same k.writes;
    fresh = fresh_slot old.slots.items s last;
    opened = (ap is_input slot, ap is_output slot, opened_name s 0 true slot);
    left = λ told.
        file_was ∙ sym (ap (λ v. content_at v f) same) ∙ there.1
        ∙ ap Some (sym (ap (λ o. drop (slot_at o) (bytes_of (content_at now (slot_file o)))) slot ∙ ap bytes_of there.1));
    cause = tt;
    others = keeps_others old new was now stays.names (λ i. ap (λ v. content_at v i) same) s others;
    refused = tt;
    counts = same_reads old new was now stays.names k.reads;
  }

  pub mem_opens_out : {E : Type 0} (s : ℕ) → ((i : ℕ) → i ≢ f → content_at now i ≡ content_at was i) → s ≡ length old.slots.items → slice_get new.slots.items s ≡ Some (record { file = f; at = 0; input = false }) → content_at now f ≡ Some [] → KeepsOtherSlots s old new → KeepsCounts old new → OpensOut {E = E} n (seen_of old was) (seen_of new now) (Ok s)
  mem_opens_out s others last slot emptied slots k = record {
    keeps = mem_keeps n f old new was now at stays others;
    fresh = fresh_slot old.slots.items s last;
    opened = (ap is_output slot, ap is_input slot, opened_name s 0 false slot);
    emptied = λ told. file_is ∙ emptied;
    same = tt;
    cause = tt;
    others = other_slots old new was now stays.names s slots;
    refused = tt;
    counts = same_writes old new was now stays.names k.writes;
    reads = same_reads old new was now stays.names k.reads;
  }

  pub mem_puts : {E : Type 0} (s : ℕ) (from : List ℕ) → n ≡ name old s → ((i : ℕ) → i ≢ f → content_at now i ≡ content_at was i) → content_at now f ≡ Some (bytes_of (content_at was f) ++ from) → 0 < length from → KeepsAll old new → Puts {E = E} s from (seen_of old was) (seen_of new now) (Ok (length from))
  mem_puts {E} s from e others grown some k = record {
    keeps = subst (λ m. Keeps m (seen_of old was) (seen_of new now)) e (mem_keeps n f old new was now at stays others);
    some = (some, omega arith);
    grown = λ told. subst (λ m. (seen_of new now).file m ≡ Some (bytes_of ((seen_of old was).file m) ++ take (length from) from)) e
        (file_is ∙ grown ∙ ap Some (ap (λ c. bytes_of c ++ from) (sym file_was) ∙ ap (λ l. bytes_of ((seen_of old was).file n) ++ l) (sym (take_all (length from) from (omega arith)))));
    same = tt;
    cause = tt;
    slots = same_slots old new was now stays.names k.slots;
    refused = tt;
    counts = same_writes old new was now stays.names k.writes;
    reads = same_reads old new was now stays.names k.reads;
  }

pub left_slots : (old new : Desk) (contents : List (Option (Vec ℕ Global))) (s : ℕ) → new.slots.items ≡ old.slots.items → left_by new.slots.items contents s ≡ left_by old.slots.items contents s
left_slots old new contents s e = ap (λ l. drop (slot_at (slice_get l s)) (bytes_of (content_at contents (slot_file (slice_get l s))))) e

-- the bytes that were copied from a place on, and those behind them
pub copied : (bytes piece tail : List ℕ) (at n m : ℕ) → piece ≡ take m (drop at bytes) → m ≡ n → n + at ≤ length bytes → take n (piece ++ tail) ++ drop (at + n) bytes ≡ drop at bytes
copied bytes piece tail at n m e' same le =
    let e : piece ≡ take n (drop at bytes) = subst (λ k. piece ≡ take k (drop at bytes)) same e' in
    let len : length piece ≡ n = ap length e ∙ length-take-le n (drop at bytes) (omega (arith, length-drop at bytes)) in
    ap (λ l. l ++ drop (at + n) bytes) (take_at piece tail n len ∙ e)
    ∙ ap (λ l. take n (drop at bytes) ++ l) (sym (drop-drop n at bytes))
    ∙ take-append-drop n (drop at bytes)

pub on_some : {A : Type 0} {P : Type 0} (o : Option A) → P → OnSome o P
on_some None p = tt
on_some (Some x) p = p

pub content_read : (xs : List (Option (Vec ℕ Global))) (i : ℕ) (x : Option (Vec ℕ Global)) → i < length xs → x ≡ get_or xs i x → content_at xs i ≡ content_bytes x
content_read xs i x lt is = content_at-get_or xs i x lt ∙ ap content_bytes (sym is)

-- how many bytes more a content takes that was read at a place
pub spare_read : (xs : List (Option (Vec ℕ Global))) (i : ℕ) (x : Option (Vec ℕ Global)) → i < length xs → x ≡ get_or xs i x → spare_at xs i ≡ capacity_of x - length (bytes_of (content_bytes x))
spare_read xs i x lt is = ap (λ (n : ℕ). n - length (bytes_of (content_at xs i))) (capacity_at-get_or xs i x lt ∙ ap capacity_of (sym is)) ∙ ap (λ o. capacity_of x - length (bytes_of o)) (content_read xs i x lt is)

pub left_is : (d : Desk) (contents : List (Option (Vec ℕ Global))) (s a f : ℕ) (c : Option (List ℕ)) → at_of d s ≡ a → file_of d s ≡ f → content_at contents f ≡ c → left_by d.slots.items contents s ≡ drop a (bytes_of c)
left_is d contents s a f c at file is =
    ap (λ k. drop k (bytes_of (content_at contents (file_of d s)))) at ∙ ap (λ k. drop a (bytes_of (content_at contents k))) file ∙ ap (λ o. drop a (bytes_of o)) is

-- one more after a call that counted nothing
pub counted_later : (f x : ℕ) (a b : List ℕ) → b ≡ a → x ≡ one_more (slice_index b f) → x ≡ one_more (slice_index a f)
counted_later f x a b same e = e ∙ ap (λ l. one_more (slice_index l f)) same

pub same_counts : (a b : Desk) → b ≡ a → KeepsCounts a b
same_counts a b e = record { reads = ap (λ d. d.reads.items) e; writes = ap (λ d. d.writes.items) e }

pub none_left : (l : List ℕ) → length l ≡ 0 → l ≡ []
none_left [] e = refl
none_left (x ∷ l) e = absurd (omega arith)
