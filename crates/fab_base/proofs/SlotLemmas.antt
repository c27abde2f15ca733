-- What stays of a desk's slots and counts stays of a depot over it.
use Rattle.std.proofs.Common.{◌≡◌, ◌≢◌, ℕ, List, Option, Vec, drop, slice_get, sym, ◌∙◌, ap, subst, inl, inr}
use Rattle.std.proofs.lemmas.Bool.Decides.{eqb_tells}
use Rattle.std.specs.declared.alloc.Global.{Global}
use Rattle.fab_base.specs.Seen.{SameSlot, SameSlots, OtherSlots, KeepsOthers, KeepsSlots, SameReadFaults, SameWriteFaults, bytes_of}
use Rattle.fab_base.specs.Places.{place, name_at, slot_file, slot_at, is_input, is_output}
use Rattle.fab_base.specs.Contents.{content_at}
use Rattle.fab_base.specs.Desk.{KeepsOtherSlots, place_of, count_at}
use Rattle.fab_base.specs.MemDepot.{seen_of}
use Rattle.fab_base.specs.declared.desk.Desk.{Desk}

-- contents that are the same but at one place, and there too
pub same_contents : (f : ℕ) (was now : List (Option (Vec ℕ Global))) → ((i : ℕ) → i ≢ f → content_at now i ≡ content_at was i) → content_at now f ≡ content_at was f → (i : ℕ) → content_at now i ≡ content_at was i
same_contents f was now others own i = elim (eqb_tells i f) [
  | inl same ↦ subst (λ j. content_at now j ≡ content_at was j) (sym same.1) own
  | inr differ ↦ others i differ.1
]

module _ (old new : Desk) (was now : List (Option (Vec ℕ Global))) (names : new.names.items ≡ old.names.items) where
  same_slot : (t : ℕ) → slice_get new.slots.items t ≡ slice_get old.slots.items t → SameSlot t (seen_of old was) (seen_of new now)
  same_slot t e = record {
    input = ap is_input e;
    output = ap is_output e;
    name = ap (λ l. name_at l (slot_file (slice_get new.slots.items t))) names ∙ ap (λ o. name_at old.names.items (slot_file o)) e;
  }

  same_rest : ((i : ℕ) → content_at now i ≡ content_at was i) → (t : ℕ) → slice_get new.slots.items t ≡ slice_get old.slots.items t → (seen_of new now).left t ≡ (seen_of old was).left t
  same_rest same t e =
      ap (λ o. drop (slot_at o) (bytes_of (content_at now (slot_file o)))) e
      ∙ ap (λ c. drop (slot_at (slice_get old.slots.items t)) (bytes_of c)) (same (slot_file (slice_get old.slots.items t)))

  pub same_slots : new.slots.items ≡ old.slots.items → SameSlots (seen_of old was) (seen_of new now)
  same_slots e t = same_slot t (ap (λ l. slice_get l t) e)

  pub other_slots : (s : ℕ) → KeepsOtherSlots s old new → OtherSlots s (seen_of old was) (seen_of new now)
  other_slots s others t ne = same_slot t (others t ne)

  pub keeps_others : ((i : ℕ) → content_at now i ≡ content_at was i) → (s : ℕ) → KeepsOtherSlots s old new → KeepsOthers s (seen_of old was) (seen_of new now)
  keeps_others same s others = record { slots = other_slots s others; left = λ t ne h. same_rest same t (others t ne) }

  pub keeps_slots : ((i : ℕ) → content_at now i ≡ content_at was i) → new.slots.items ≡ old.slots.items → KeepsSlots (seen_of old was) (seen_of new now)
  keeps_slots same e = record { slots = same_slots e; left = λ t h. same_rest same t (ap (λ l. slice_get l t) e) }

  pub same_reads : new.reads.items ≡ old.reads.items → SameReadFaults (seen_of old was) (seen_of new now)
  same_reads e m = ap (λ l. count_at new.reads.items (place m l)) names ∙ ap (λ l. count_at l (place_of old m)) e

  pub same_writes : new.writes.items ≡ old.writes.items → SameWriteFaults (seen_of old was) (seen_of new now)
  same_writes e m = ap (λ l. count_at new.writes.items (place m l)) names ∙ ap (λ l. count_at l (place_of old m)) e
