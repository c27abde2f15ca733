-- Readers of several slots, of which one has its turn.
use Rattle.std.proofs.Common.{◌≡◌, ◌≢◌, ℕ, zero, suc, ◌<◌, List, [], ◌∷◌, ◌++◌, length, slice_get, set, Option, Some, IsTrue, refl, sym, ap, ◌∙◌, subst, arith, inl}
use Rattle.std.proofs.lemmas.Option.{slice_get_within}
use Rattle.fab_base.specs.Ending.{End, Said, Uses}
use Rattle.fab_base.specs.Seen.{Seen, Touches, Nothing, Only}
use Rattle.fab_base.proofs.EndingLemmas.{uses_then, uses_wider}
use Rattle.window_records.specs.declared.shelf.Input.{Input}
use Rattle.fab_base.specs.Slots.{slot_at, name_of, NameIn}
use Rattle.window_records.specs.Ports.{AreInputs, slots_of}
use Rattle.window_records.proofs.UsesLemmas.{uses_reads}

-- ---- places in lists

pub some_is : {A : Type 0} (o : Option A) (x y : A) → o ≡ Some x → o ≡ Some y → x ≡ y
some_is o x y e f = let g : Some x ≡ Some y = sym e ∙ f in cc

pub item_at : {A : Type 0} (l : List A) (q : ℕ) → q < length l → (x : A) × (slice_get l q ≡ Some x)
item_at [] q lt = absurd (omega arith)
item_at (x ∷ l) zero lt = (x, refl)
item_at (x ∷ l) (suc q) lt = item_at l q (omega arith)

pub get_set_same : {A : Type 0} (l : List A) (k : ℕ) (v : A) → k < length l → slice_get (set l k v) k ≡ Some v
get_set_same [] k v lt = absurd (omega arith)
get_set_same (x ∷ l) zero v lt = refl
get_set_same (x ∷ l) (suc k) v lt = get_set_same l k v (omega arith)

pub get_set_other : {A : Type 0} (l : List A) (k q : ℕ) (v : A) → q ≢ k → slice_get (set l k v) q ≡ slice_get l q
get_set_other [] k q v ne = refl
get_set_other (x ∷ l) zero zero v ne = absurd (ne refl)
get_set_other (x ∷ l) zero (suc q) v ne = refl
get_set_other (x ∷ l) (suc k) zero v ne = refl
get_set_other (x ∷ l) (suc k) (suc q) v ne = get_set_other l k q v (λ e. ne (ap suc e))

-- places behind a list that grew by one
pub push_last : {A : Type 0} (l : List A) (k : ℕ) (x y : A) → length l ≡ k → slice_get (l ++ x ∷ []) k ≡ Some y → y ≡ x
push_last [] zero x y e at = cc
push_last [] (suc k) x y e at = absurd (omega arith)
push_last (z ∷ l) zero x y e at = absurd (omega arith)
push_last (z ∷ l) (suc k) x y e at = push_last l k x y (omega arith) at

pub push_before : {A : Type 0} (l : List A) (q : ℕ) (x y : A) → q < length l → slice_get (l ++ x ∷ []) q ≡ Some y → slice_get l q ≡ Some y
push_before [] q x y lt at = absurd (omega arith)
push_before (z ∷ l) zero x y lt at = at
push_before (z ∷ l) (suc q) x y lt at = push_before l q x y (omega arith) at

pub push_stays : {A : Type 0} (l : List A) (q : ℕ) (x y : A) → slice_get l q ≡ Some y → slice_get (l ++ x ∷ []) q ≡ Some y
push_stays [] q x y at = absurd (cc)
push_stays (z ∷ l) zero x y at = at
push_stays (z ∷ l) (suc q) x y at = push_stays l q x y at

pub push_at : {A : Type 0} (l : List A) (x : A) → slice_get (l ++ x ∷ []) (length l) ≡ Some x
push_at [] x = refl
push_at (z ∷ l) x = push_at l x

pub slots_set : (ins : List Input) (k : ℕ) (i i' : Input) → slice_get ins k ≡ Some i → i'.slot ≡ i.slot → slots_of (set ins k i') ≡ slots_of ins
slots_set [] k i i' at e = refl
slots_set (x ∷ ins) zero i i' at e = let same : x ≡ i = cc in ap (λ (q : ℕ). q ∷ slots_of ins) (e ∙ ap (λ (y : Input). y.slot) (sym same))
slots_set (x ∷ ins) (suc k) i i' at e = ap (λ l. x.slot ∷ l) (slots_set ins k i i' at e)

slot_is : (ins : List Input) (k : ℕ) (i : Input) → slice_get ins k ≡ Some i → slot_at (slots_of ins) k ≡ i.slot
slot_is [] k i at = absurd (cc)
slot_is (x ∷ ins) zero i at = let same : x ≡ i = cc in ap (λ (y : Input). y.slot) same
slot_is (x ∷ ins) (suc k) i at = slot_is ins k i at

pub length-slots : (ins : List Input) → length (slots_of ins) ≡ length ins
length-slots [] = refl
length-slots (x ∷ ins) = let e = length-slots ins in omega arith

-- the same slots are of as many inputs
pub same_length : (ins ins' : List Input) → slots_of ins' ≡ slots_of ins → length ins' ≡ length ins
same_length ins ins' slots = sym (length-slots ins') ∙ ap length slots ∙ length-slots ins

-- inputs stay open where no call closes them, and keep their names
module _ (may counted : List ℕ → Type 0) (a b : Seen) (slots : List ℕ) (touches : Touches may counted a b) (are : AreInputs a slots) where
  pub named_as : (q : ℕ) → q < length slots → name_of b slots q ≡ name_of a slots q
  named_as q lt = (touches.slots (slot_at slots q) (inl (are.inputs q lt))).name

  pub inputs_stay : AreInputs b slots
  inputs_stay = record {
    inputs = λ q lt. subst IsTrue (sym (touches.slots (slot_at slots q) (inl (are.inputs q lt))).input) (are.inputs q lt);
    differ = λ p q lt less e. are.differ p q lt less (sym (named_as p lt) ∙ e ∙ named_as q less);
  }

  pub name_in : (m : List ℕ) → NameIn b slots m → NameIn a slots m
  name_in m h = (h.0, h.1, h.2 ∙ named_as h.0 h.1)

-- ---- a turn

-- inputs that stayed open, while some of them were read
module _ (a b : Seen) (ins ins' : List Input) (are : AreInputs a (slots_of ins)) (uses : Uses (NameIn a (slots_of ins)) Nothing Said a b) (slots : slots_of ins' ≡ slots_of ins) where
  slot_now : (q : ℕ) (i : Input) → slice_get ins' q ≡ Some i → slot_at (slots_of ins) q ≡ i.slot
  slot_now q i at = ap (λ l. slot_at l q) (sym slots) ∙ slot_is ins' q i at

  within : (q : ℕ) (i : Input) → slice_get ins' q ≡ Some i → q < length (slots_of ins)
  within q i at = let less = slice_get_within ins' q i at in let l = same_length ins ins' slots in let m = length-slots ins in omega arith

  pub open_now : (q : ℕ) (i : Input) → slice_get ins' q ≡ Some i → IsTrue (b.input i.slot)
  open_now q i at =
      let own = are.inputs q (within q i at) in
      subst (λ (n : ℕ). IsTrue (b.input n)) (slot_now q i at) (subst IsTrue (sym (uses.touches.slots (slot_at (slots_of ins) q) (inl own)).input) own)

  name_now : (q : ℕ) (i : Input) → slice_get ins' q ≡ Some i → b.name i.slot ≡ name_of a (slots_of ins) q
  name_now q i at =
      let own = are.inputs q (within q i at) in
      subst (λ (n : ℕ). b.name n ≡ name_of a (slots_of ins) q) (slot_now q i at) (uses.touches.slots (slot_at (slots_of ins) q) (inl own)).name

  -- one of them is read
  module _ (k : ℕ) (i : Input) (at : slice_get ins' k ≡ Some i) (d : Seen) where
    pub uses_on : {end : End} → Uses (Only (b.name i.slot)) Nothing end b d → Uses (NameIn a (slots_of ins)) Nothing end a d
    uses_on {end} more =
        uses_then (NameIn a (slots_of ins)) Nothing end a b d uses
        (uses_wider (Only (b.name i.slot)) Nothing (NameIn a (slots_of ins)) Nothing (λ m e. (k, within k i at, e ∙ name_now k i at)) (λ m none. none) end b d more)

    -- what the others have still to read
    pub others_left : {end : End} → Uses (Only (b.name i.slot)) Nothing end b d → (q : ℕ) (j : Input) → q ≢ k → slice_get ins' q ≡ Some j → d.left j.slot ≡ b.left j.slot
    others_left {end} more q j ne at_q =
        (uses_reads (b.name i.slot) end b d more).keeps.left j.slot (open_now q j at_q)
        (λ e. ne (are.differ q k (within q j at_q) (within k i at) (sym (name_now q j at_q) ∙ e ∙ name_now k i at)))
