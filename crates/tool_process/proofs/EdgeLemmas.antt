-- A depot that tells nothing keeps what its desk keeps.
use Rattle.std.proofs.Common.{◌≡◌, ℕ, ◌+◌, ◌<◌, List, [], ◌∷◌, ◌++◌, length, Option, Some, None, slice_get, slice_index, Ok, Bool, true, false, cond, IsTrue, is_some, refl, sym, ap, ◌∙◌, String, string_bytes, inl, inr}
use Rattle.std.proofs.lemmas.Bool.{cases_Bool}
use borrow.Author.Count.{below_more}
use Rattle.std.specs.Str.{bytes_eq}
use Rattle.std.specs.declared.alloc.Global.{Global}
use Rattle.fab_base.specs.Seen.{Keeps, Reads, Rose, OpensIn, OpensOut, SameSlot, SameSlots, KeepsOthers, KeepsSlots, SameFiles, SameReadFaults, SameWriteFaults}
use Rattle.fab_base.specs.Places.{place, name_at, after_one, is_input, is_output}
use Rattle.fab_base.specs.Desk.{place_of, knows, one_more, Stays, KeepsOtherSlots, KeepsCounts, Adds}
use Rattle.fab_base.specs.Contents.{content_in}
use Rattle.fab_base.specs.MemDepot.{seen_of}
use Rattle.fab_base.specs.declared.desk.Desk.{Desk}
use Rattle.fab_base.proofs.MemLemmas.{mem_keeps, read_rose, write_rose, fresh_slot, opened_name}
use Rattle.fab_base.proofs.SlotLemmas.{same_slots, keeps_slots, keeps_others, same_reads, same_writes}
use Rattle.fab_base.proofs.KnowLemmas.{place-push_own}
use Rattle.tool_process.specs.Edge.{untold}

pub no_telling : IsTrue false → ⊥
no_telling h = absurd (cc)

module _ (n : List ℕ) (f : ℕ) (old new : Desk) (at : place_of old n ≡ Some f) (stays : Stays f old new) where
  pub untold_keeps : Keeps n (untold old) (untold new)
  untold_keeps =
      let k = mem_keeps n f old new [] [] at stays (λ i ne. refl) in
      record {
        told = refl;
        knows = k.knows;
        slots = λ s h. let m = k.slots s h in record { input = m.input; output = m.output; name = m.name };
        files = k.files;
        left = k.left;
        reads = k.reads;
        writes = k.writes;
        reads_rise = k.reads_rise;
        writes_rise = k.writes_rise;
      }

  pub untold_files : SameFiles (untold old) (untold new)
  untold_files m = ap (content_in []) (ap (place m) stays.names)

  pub untold_same_reads : new.reads.items ≡ old.reads.items → SameReadFaults (untold old) (untold new)
  untold_same_reads = same_reads old new [] [] stays.names

  pub untold_same_writes : new.writes.items ≡ old.writes.items → SameWriteFaults (untold old) (untold new)
  untold_same_writes = same_writes old new [] [] stays.names

  pub untold_reads : new.writes.items ≡ old.writes.items → Reads n (untold old) (untold new)
  untold_reads writes = record { keeps = untold_keeps; files = untold_files; writes = untold_same_writes writes }

  untold_slot : (t : ℕ) → SameSlot t (seen_of old []) (seen_of new []) → SameSlot t (untold old) (untold new)
  untold_slot t same = record { input = same.input; output = same.output; name = same.name }

  pub untold_slots : new.slots.items ≡ old.slots.items → SameSlots (untold old) (untold new)
  untold_slots e t = untold_slot t (same_slots old new [] [] stays.names e t)

  -- a failed call leaves all slots
  pub untold_refused : new.slots.items ≡ old.slots.items → KeepsSlots (untold old) (untold new)
  untold_refused e = record { slots = untold_slots e; left = (keeps_slots old new [] [] stays.names (λ i. refl) e).left }

  -- an opening call leaves all slots but the new one
  untold_others : (s : ℕ) → KeepsOtherSlots s old new → KeepsOthers s (untold old) (untold new)
  untold_others s others =
      let k = keeps_others old new [] [] stays.names (λ i. refl) s others in
      record { slots = λ t ne. untold_slot t (k.slots t ne); left = k.left }

  pub untold_read_rose : slice_index new.reads.items f ≡ one_more (slice_index old.reads.items f) → Rose ((untold old).read_faults n) ((untold new).read_faults n)
  untold_read_rose = read_rose n f old new [] [] at stays

  pub untold_write_rose : slice_index new.writes.items f ≡ one_more (slice_index old.writes.items f) → Rose ((untold old).write_faults n) ((untold new).write_faults n)
  untold_write_rose = write_rose n f old new [] [] at stays

  pub untold_opens_in : {E : Type 0} (s k : ℕ) → s ≡ length old.slots.items → slice_get new.slots.items s ≡ Some (record { file = f; at = k; input = true }) → KeepsOtherSlots s old new → KeepsCounts old new → OpensIn {E = E} n (untold old) (untold new) (Ok s)
  untold_opens_in s k last slot others counts = record {
    reads = untold_reads counts.writes;
    fresh = fresh_slot old.slots.items s last;
    opened = (ap is_input slot, ap is_output slot, opened_name n f old new [] [] at stays s k true slot);
    left = λ told. absurd (no_telling told);
    cause = tt;
    others = untold_others s others;
    refused = tt;
    counts = untold_same_reads counts.reads;
  }

  pub untold_opens_out : {E : Type 0} (s k : ℕ) → s ≡ length old.slots.items → slice_get new.slots.items s ≡ Some (record { file = f; at = k; input = false }) → KeepsOtherSlots s old new → KeepsCounts old new → OpensOut {E = E} n (untold old) (untold new) (Ok s)
  untold_opens_out s k last slot others counts = record {
    keeps = untold_keeps;
    fresh = fresh_slot old.slots.items s last;
    opened = (ap is_output slot, ap is_input slot, opened_name n f old new [] [] at stays s k false slot);
    emptied = λ told. absurd (no_telling told);
    same = tt;
    cause = tt;
    others = (untold_others s others).slots;
    refused = tt;
    counts = untold_same_writes counts.writes;
    reads = untold_same_reads counts.reads;
  }

-- ---- more names

place_tail : (n : List ℕ) (y : String Global) (xs : List (String Global)) (b : Bool) → bytes_eq (string_bytes y) n ≡ b → is_some (place n (y ∷ xs)) ≡ is_some (cond b (Some 0) (after_one (place n xs)))
place_tail n y xs b e = ap (λ c. is_some (cond c (Some 0) (after_one (place n xs)))) e

some_after : (o : Option ℕ) → is_some (after_one o) ≡ is_some o
some_after None = refl
some_after (Some i) = refl

known-push : (m : List ℕ) (xs : List (String Global)) (x : String Global) → IsTrue (is_some (place m xs)) → IsTrue (is_some (place m (xs ++ x ∷ [])))
known-push m [] x h = absurd (cc)
known-push m (y ∷ xs) x h = elim (cases_Bool (bytes_eq (string_bytes y) m)) [
  | inl same ↦ place_tail m y (xs ++ x ∷ []) true same
  | inr other ↦ place_tail m y (xs ++ x ∷ []) false other ∙ some_after (place m (xs ++ x ∷ [])) ∙ known-push m xs x (sym (some_after (place m xs)) ∙ sym (place_tail m y xs false other) ∙ h)
]

none_of : (o : Option ℕ) → is_some o ≡ false → o ≡ None
none_of None e = refl
none_of (Some i) e = absurd (cc)

-- after a name was added it is known, and so is what was
pub adds_own : (n : List ℕ) (d e : Desk) → Adds n d e → is_some (place_of d n) ≡ false → IsTrue (knows e n)
adds_own n d e adds none = ap is_some (ap (place n) adds.names ∙ place-push_own n d.names.items adds.text adds.says (none_of (place_of d n) none))

pub adds_others : (n : List ℕ) (d e : Desk) → Adds n d e → (m : List ℕ) → IsTrue (knows d m) → IsTrue (knows e m)
adds_others n d e adds m h = ap (λ l. is_some (place m l)) adds.names ∙ known-push m d.names.items adds.text h

-- one word more of those that are known
pub knows-more : (d e : Desk) (words : List (String Global)) (i : ℕ) → ((k : ℕ) → k < i → IsTrue (knows d (name_at words k))) → ((m : List ℕ) → IsTrue (knows d m) → IsTrue (knows e m)) → IsTrue (knows e (name_at words i)) → (k : ℕ) → k < i + 1 → IsTrue (knows e (name_at words k))
knows-more d e words i before others own = below_more (λ k. IsTrue (knows e (name_at words k))) i (λ k lt. others (name_at words k) (before k lt)) own
