-- One call after another. Other crates cite this module: what calls keep is kept by several of them, by a call that does
-- nothing, and by a call on one name among several.
use Rattle.std.proofs.Common.{◌≡◌, ◌≢◌, ℕ, ◌≤◌, List, IsTrue, refl, sym, ◌∙◌, subst, arith, inl, inr}
use Rattle.std.proofs.lemmas.Bool.{cases_Bool}
use Rattle.std.proofs.lemmas.Slice.Eq.{bytes_eq-Decides}
use Rattle.std.specs.Str.{bytes_eq}
use Rattle.fab_base.specs.Seen.{Seen, IsOpen, Keeps, SameSlot, SameSlots, KeepsOthers, KeepsSlots, Reads, Rose, Touches, Nothing, Only}

-- a count that rose behind one that did not fall
pub rose_later : (a b c : ℕ) → a ≤ b → Rose b c → Rose a c
rose_later a b c le rose = omega (arith, rose)

same_slot_refl : (s : ℕ) (d : Seen) → SameSlot s d d
same_slot_refl s d = record { input = refl; output = refl; name = refl }

pub keeps_refl : (name : List ℕ) (d : Seen) → Keeps name d d
keeps_refl name d = record {
  told = refl;
  knows = λ m. refl;
  slots = λ s h. same_slot_refl s d;
  files = λ m ne. refl;
  left = λ s h ne. refl;
  reads = λ m ne. refl;
  writes = λ m ne. refl;
  reads_rise = omega arith;
  writes_rise = omega arith;
}

same_slot_trans : (s : ℕ) (a b c : Seen) → SameSlot s a b → SameSlot s b c → SameSlot s a c
same_slot_trans s a b c k l = record { input = l.input ∙ k.input; output = l.output ∙ k.output; name = l.name ∙ k.name }

-- an open slot stays open, and an input an input
open_after : (s : ℕ) (a b : Seen) → SameSlot s a b → IsOpen a s → IsOpen b s
open_after s a b k (inl h) = inl (subst IsTrue (sym k.input) h)
open_after s a b k (inr h) = inr (subst IsTrue (sym k.output) h)

module _ (name : List ℕ) (a b : Seen) (k : Keeps name a b) (s : ℕ) where
  pub input_stays : IsTrue (a.input s) → IsTrue (b.input s)
  input_stays h = subst IsTrue (sym (k.slots s (inl h)).input) h

  pub output_stays : IsTrue (a.output s) → IsTrue (b.output s)
  output_stays h = subst IsTrue (sym (k.slots s (inr h)).output) h

  pub input_name : IsTrue (a.input s) → b.name s ≡ a.name s
  input_name h = (k.slots s (inl h)).name

  pub output_name : IsTrue (a.output s) → b.name s ≡ a.name s
  output_name h = (k.slots s (inr h)).name

pub told_stays : (name : List ℕ) (a b : Seen) → Keeps name a b → IsTrue a.told → IsTrue b.told
told_stays name a b k told = subst IsTrue (sym k.told) told

pub keeps_trans : (name : List ℕ) (a b c : Seen) → Keeps name a b → Keeps name b c → Keeps name a c
keeps_trans name a b c k l = record {
  told = l.told ∙ k.told;
  knows = λ m. l.knows m ∙ k.knows m;
  slots = λ s h. same_slot_trans s a b c (k.slots s h) (l.slots s (open_after s a b (k.slots s h) h));
  files = λ m ne. l.files m ne ∙ k.files m ne;
  left = λ s h ne. l.left s (input_stays name a b k s h) (λ e. ne (sym (input_name name a b k s h) ∙ e)) ∙ k.left s h ne;
  reads = λ m ne. l.reads m ne ∙ k.reads m ne;
  writes = λ m ne. l.writes m ne ∙ k.writes m ne;
  reads_rise = omega (arith, k.reads_rise, l.reads_rise);
  writes_rise = omega (arith, k.writes_rise, l.writes_rise);
}

pub reads_refl : (name : List ℕ) (d : Seen) → Reads name d d
reads_refl name d = record { keeps = keeps_refl name d; files = λ m. refl; writes = λ m. refl }

pub reads_trans : (name : List ℕ) (a b c : Seen) → Reads name a b → Reads name b c → Reads name a c
reads_trans name a b c k l = record { keeps = keeps_trans name a b c k.keeps l.keeps; files = λ m. l.files m ∙ k.files m; writes = λ m. l.writes m ∙ k.writes m }

-- ---- slots, and what they have left

pub slots_refl : (d : Seen) → SameSlots d d
slots_refl d s = same_slot_refl s d

pub slots_trans : (a b c : Seen) → SameSlots a b → SameSlots b c → SameSlots a c
slots_trans a b c k l s = same_slot_trans s a b c (k s) (l s)

pub others_refl : (s : ℕ) (d : Seen) → KeepsOthers s d d
others_refl s d = record { slots = λ t ne. same_slot_refl t d; left = λ t ne h. refl }

pub others_trans : (s : ℕ) (a b c : Seen) → KeepsOthers s a b → KeepsOthers s b c → KeepsOthers s a c
others_trans s a b c k l = record {
  slots = λ t ne. same_slot_trans t a b c (k.slots t ne) (l.slots t ne);
  left = λ t ne h. l.left t ne (subst IsTrue (sym (k.slots t ne).input) h) ∙ k.left t ne h;
}

-- a failed call leaves every slot but this one too
pub others_of : (s : ℕ) (a b : Seen) → KeepsSlots a b → KeepsOthers s a b
others_of s a b k = record { slots = λ t ne. k.slots t; left = λ t ne h. k.left t h }

-- ---- calls on several names

pub touches_refl : (may counted : List ℕ → Type 0) (d : Seen) → Touches may counted d d
touches_refl may counted d = record {
  told = refl;
  knows = λ m. refl;
  slots = λ s h. same_slot_refl s d;
  files = λ m h. refl;
  left = λ s h ne. refl;
  reads = λ m h. refl;
  writes = λ m h. refl;
  reads_rise = λ m. omega arith;
  writes_rise = λ m. omega arith;
}

pub touches_trans : (may counted : List ℕ → Type 0) (a b c : Seen) → Touches may counted a b → Touches may counted b c → Touches may counted a c
touches_trans may counted a b c k l = record {
  told = l.told ∙ k.told;
  knows = λ m. l.knows m ∙ k.knows m;
  slots = λ s h. same_slot_trans s a b c (k.slots s h) (l.slots s (open_after s a b (k.slots s h) h));
  files = λ m h. l.files m h ∙ k.files m h;
  left = λ s h ne.
      let same = k.slots s (inl h) in
      l.left s (subst IsTrue (sym same.input) h) (subst (λ n. ¬ counted n) (sym same.name) ne) ∙ k.left s h ne;
  reads = λ m h. l.reads m h ∙ k.reads m h;
  writes = λ m h. l.writes m h ∙ k.writes m h;
  reads_rise = λ m. omega (arith, k.reads_rise m, l.reads_rise m);
  writes_rise = λ m. omega (arith, k.writes_rise m, l.writes_rise m);
}

-- more names may be touched
pub touches_wider : (may counted may' counted' : List ℕ → Type 0) (a b : Seen) → ((m : List ℕ) → may m → may' m) → ((m : List ℕ) → counted m → counted' m) →
    Touches may counted a b → Touches may' counted' a b
touches_wider may counted may' counted' a b files counts k = record {
  told = k.told;
  knows = k.knows;
  slots = k.slots;
  files = λ m h. k.files m (λ x. h (files m x));
  left = λ s i h. k.left s i (λ x. h (counts (a.name s) x));
  reads = λ m h. k.reads m (λ x. h (counts m x));
  writes = λ m h. k.writes m (λ x. h (counts m x));
  reads_rise = k.reads_rise;
  writes_rise = k.writes_rise;
}

-- a count of one name that doesn't fall, where all others stay
rises : (name : List ℕ) (before now : List ℕ → ℕ) → ((m : List ℕ) → m ≢ name → now m ≡ before m) → before name ≤ now name → (m : List ℕ) → before m ≤ now m
rises name before now others own m = elim (cases_Bool (bytes_eq m name)) [
  | inl same ↦ let e = (bytes_eq-Decides m name).0 same in subst (λ n. before n ≤ now n) (sym e) own
  | inr differ ↦ let e = others m (λ e. let same = (bytes_eq-Decides m name).1 e in absurd (cc)) in omega arith
]

-- a call on one name
pub keeps_touches : (name : List ℕ) (a b : Seen) → Keeps name a b → Touches (Only name) (Only name) a b
keeps_touches name a b k = record {
  told = k.told;
  knows = k.knows;
  slots = k.slots;
  files = k.files;
  left = k.left;
  reads = k.reads;
  writes = k.writes;
  reads_rise = rises name a.read_faults b.read_faults k.reads k.reads_rise;
  writes_rise = rises name a.write_faults b.write_faults k.writes k.writes_rise;
}

-- a call that changes no file
pub reads_touches : (name : List ℕ) (a b : Seen) → Reads name a b → Touches Nothing (Only name) a b
reads_touches name a b k =
    let t = keeps_touches name a b k.keeps in
    record {
      told = t.told;
      knows = t.knows;
      slots = t.slots;
      files = λ m h. k.files m;
      left = t.left;
      reads = t.reads;
      writes = t.writes;
      reads_rise = t.reads_rise;
      writes_rise = t.writes_rise;
    }
