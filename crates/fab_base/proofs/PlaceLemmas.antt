-- Where a name stands.
use Rattle.std.proofs.Common.{◌≡◌, ◌≢◌, ℕ, zero, suc, ◌+◌, ◌<◌, ◌≤◌, List, [], ◌∷◌, ◌++◌, length, length-append, get_or, slice_get, Option, Some, None, true, false, Bool, cond, refl, sym, ◌∙◌, ap, subst, arith, String, string_bytes, IfSome, IfNone, inl, inr}
use Rattle.std.proofs.lemmas.Bool.{cases_Bool, cases_lt}
use Rattle.std.proofs.lemmas.Slice.Eq.{bytes_eq-Decides}
use Rattle.std.specs.Str.{bytes_eq}
use Rattle.std.specs.declared.alloc.Global.{Global}
use Rattle.fab_base.specs.Places.{place, name_at, after_one, slot_file, is_input, is_output, ArePlaced}
use Rattle.fab_base.specs.Desk.{KeepsSlot}
use Rattle.fab_base.specs.declared.desk.DeskSlot.{DeskSlot}

pub name_at-get_or : (xs : List (String Global)) (i : ℕ) (d : String Global) → i < length xs → name_at xs i ≡ string_bytes (get_or xs i d)
name_at-get_or [] i d h = absurd (omega arith)
name_at-get_or (x ∷ xs) zero d h = refl
name_at-get_or (x ∷ xs) (suc i) d h = name_at-get_or xs i d (omega arith)

pub place_found : (n : List ℕ) (xs : List (String Global)) (i : ℕ) → ((k : ℕ) → k < i → bytes_eq (name_at xs k) n ≡ false) → i < length xs → bytes_eq (name_at xs i) n ≡ true → place n xs ≡ Some i
place_found n [] i before h is = absurd (omega arith)
place_found n (x ∷ xs) zero before h is = ap (λ b. cond b (Some 0) (after_one (place n xs))) is
place_found n (x ∷ xs) (suc i) before h is =
    ap (λ b. cond b (Some 0) (after_one (place n xs))) (before 0 (omega arith))
    ∙ ap after_one (place_found n xs i (λ k lt. before (suc k) (omega arith)) (omega arith) is)
    ∙ ap Some (let e : i + 1 ≡ suc i = omega arith in e)

pub place_none : (n : List ℕ) (xs : List (String Global)) → ((k : ℕ) → k < length xs → bytes_eq (name_at xs k) n ≡ false) → place n xs ≡ None
place_none n [] before = refl
place_none n (x ∷ xs) before =
    ap (λ b. cond b (Some 0) (after_one (place n xs))) (before 0 (omega arith))
    ∙ ap after_one (place_none n xs (λ k lt. before (suc k) (omega arith)))

-- a place is in the list, and has the name
pub record At (n : List ℕ) (xs : List (String Global)) (i : ℕ) : Type 0 where
  pub within : i < length xs
  pub is : name_at xs i ≡ n

at_later : (n : List ℕ) (x : String Global) (xs : List (String Global)) (o : Option ℕ) (i : ℕ) → ((j : ℕ) → o ≡ Some j → At n xs j) → after_one o ≡ Some i → At n (x ∷ xs) i
at_later n x xs None i h e = absurd (cc)
at_later n x xs (Some j) i h e =
    let a = h j refl in
    let is : suc j ≡ i = grind arith in
    subst (At n (x ∷ xs)) is (record { within = omega (arith, a.within); is = a.is })

pub place_at : (n : List ℕ) (xs : List (String Global)) (i : ℕ) → place n xs ≡ Some i → At n xs i
place_at n [] i e = absurd (cc)
place_at n (x ∷ xs) i e = elim (cases_Bool (bytes_eq (string_bytes x) n)) [
  | inl is_name ↦
      let first : Some 0 ≡ Some i = ap (λ b. cond b (Some 0) (after_one (place n xs))) (sym is_name) ∙ e in
      let is : 0 ≡ i = grind arith in
      subst (At n (x ∷ xs)) is (record { within = omega arith; is = (bytes_eq-Decides (string_bytes x) n).0 is_name })
  | inr other ↦ at_later n x xs (place n xs) i (place_at n xs) (ap (λ b. cond b (Some 0) (after_one (place n xs))) (sym other) ∙ e)
]

-- a test of the element of a slice is the test of the name there
pub tested_at : (xs : List (String Global)) (i : ℕ) (x : String Global) (text n : List ℕ) (b : Bool) → i < length xs → x ≡ get_or xs i x → text ≡ string_bytes x → b ≡ bytes_eq text n → bytes_eq (name_at xs i) n ≡ b
tested_at xs i x text n b lt is value eq =
    ap (λ l. bytes_eq l n) (name_at-get_or xs i x lt ∙ ap string_bytes (sym is) ∙ sym value) ∙ sym eq

pub place_within : (n : List ℕ) (xs : List (String Global)) (o : Option ℕ) → o ≡ place n xs → IfSome o (λ i. i < length xs)
place_within n xs None e = tt
place_within n xs (Some i) e = (place_at n xs i (sym e)).within

pub slice_get-append : {A : Type 0} (xs ys : List A) (i : ℕ) → i < length xs → slice_get (xs ++ ys) i ≡ slice_get xs i
slice_get-append [] ys i lt = absurd (omega arith)
slice_get-append (x ∷ xs) ys zero lt = refl
slice_get-append (x ∷ xs) ys (suc i) lt = slice_get-append xs ys i (omega arith)

pub slice_get-last : {A : Type 0} (xs : List A) (y : A) (i : ℕ) → i ≡ length xs → slice_get (xs ++ y ∷ []) i ≡ Some y
slice_get-last [] y zero e = refl
slice_get-last [] y (suc i) e = absurd (omega arith)
slice_get-last (x ∷ xs) y zero e = absurd (omega arith)
slice_get-last (x ∷ xs) y (suc i) e = slice_get-last xs y i (omega arith)

-- the slots after one more are placed
pub placed_push : (names : List (String Global)) (slots : List DeskSlot) (slot : DeskSlot) → ArePlaced names slots → place (name_at names slot.file) names ≡ Some slot.file → ArePlaced names (slots ++ slot ∷ [])
placed_push names slots slot were is s lt = elim (cases_lt s (length slots)) [
  | inl below ↦
      let same : slice_get (slots ++ slot ∷ []) s ≡ slice_get slots s = slice_get-append slots (slot ∷ []) s below in
      subst (λ o. place (name_at names (slot_file o)) names ≡ Some (slot_file o)) (sym same) (were s below)
  | inr above ↦
      let last : s ≡ length slots = omega (arith, length-append slots (slot ∷ [])) in
      subst (λ o. place (name_at names (slot_file o)) names ≡ Some (slot_file o)) (sym (slice_get-last slots slot s last)) is
]

-- a slot's place is in the list
pub placed_within : (names : List (String Global)) (slots : List DeskSlot) (s : ℕ) → ArePlaced names slots → s < length slots → slot_file (slice_get slots s) < length names
placed_within names slots s were lt = (place_at (name_at names (slot_file (slice_get slots s))) names (slot_file (slice_get slots s)) (were s lt)).within

-- what a push of a slot that may be refused leaves
pub placed_after : (names : List (String Global)) (old new : List DeskSlot) (slot : DeskSlot) (o : Option ℕ) → IfSome o (λ s. (s ≡ length old) × (new ≡ old ++ slot ∷ [])) → IfNone o (new ≡ old) → ArePlaced names old → place (name_at names slot.file) names ≡ Some slot.file → ArePlaced names new
placed_after names old new slot None added none were is = subst (ArePlaced names) (sym none) were
placed_after names old new slot (Some s) added none were is = subst (ArePlaced names) (sym added.1) (placed_push names old slot were is)

keeps_slot : (old new : Option DeskSlot) → new ≡ old → KeepsSlot old new
keeps_slot old new e = record { file = ap slot_file e; input = ap is_input e; output = ap is_output e }

pub slots_get_after : (old new : List DeskSlot) (slot : DeskSlot) (o : Option ℕ) → IfSome o (λ s. (s ≡ length old) × (new ≡ old ++ slot ∷ [])) → IfNone o (new ≡ old) → (s : ℕ) → s < length old → slice_get new s ≡ slice_get old s
slots_get_after old new slot None added none s lt = ap (λ l. slice_get l s) none
slots_get_after old new slot (Some n) added none s lt = ap (λ l. slice_get l s) added.1 ∙ slice_get-append old (slot ∷ []) s lt

pub slots_after : (old new : List DeskSlot) (slot : DeskSlot) (o : Option ℕ) → IfSome o (λ s. (s ≡ length old) × (new ≡ old ++ slot ∷ [])) → IfNone o (new ≡ old) → (s : ℕ) → s < length old → KeepsSlot (slice_get old s) (slice_get new s)
slots_after old new slot o added none s lt = keeps_slot (slice_get old s) (slice_get new s) (slots_get_after old new slot o added none s lt)

pub slot_after : (old new : List DeskSlot) (slot : DeskSlot) (o : Option ℕ) → IfSome o (λ s. (s ≡ length old) × (new ≡ old ++ slot ∷ [])) → IfSome o (λ s. (s ≡ length old) × (slice_get new s ≡ Some slot))
slot_after old new slot None added = tt
slot_after old new slot (Some n) added = (added.0, ap (λ l. slice_get l n) added.1 ∙ slice_get-last old slot n added.0)

others_push : (old : List DeskSlot) (slot : DeskSlot) (t : ℕ) → t ≢ length old → slice_get (old ++ slot ∷ []) t ≡ slice_get old t
others_push [] slot zero ne = absurd (ne refl)
others_push [] slot (suc t) ne = refl
others_push (x ∷ xs) slot zero ne = refl
others_push (x ∷ xs) slot (suc t) ne = others_push xs slot t (λ e. ne (ap suc e))

pub others_after : (old new : List DeskSlot) (slot : DeskSlot) (o : Option ℕ) → IfSome o (λ s. (s ≡ length old) × (new ≡ old ++ slot ∷ [])) → IfSome o (λ s. (t : ℕ) → t ≢ s → slice_get new t ≡ slice_get old t)
others_after old new slot None added = tt
others_after old new slot (Some n) added = λ t ne. ap (λ l. slice_get l t) added.1 ∙ others_push old slot t (λ e. ne (e ∙ sym added.0))

-- a name's own place, seen from the name there
pub place_again : (n : List ℕ) (names : List (String Global)) (i : ℕ) → place n names ≡ Some i → place (name_at names i) names ≡ Some i
place_again n names i is = ap (λ m. place m names) (place_at n names i is).is ∙ is

pub fewer_after : (old new : List DeskSlot) (slot : DeskSlot) (o : Option ℕ) → IfSome o (λ s. (s ≡ length old) × (new ≡ old ++ slot ∷ [])) → IfNone o (new ≡ old) → length old ≤ length new
fewer_after old new slot None added none = omega (arith, ap length none)
fewer_after old new slot (Some n) added none = omega (arith, ap length added.1, length-append old (slot ∷ []))

place_append_by : (n : List ℕ) (x : String Global) (xs ys : List (String Global)) (i : ℕ) (o p : Option ℕ) → ((j : ℕ) → o ≡ Some j → p ≡ Some j) → after_one o ≡ Some i → after_one p ≡ Some i
place_append_by n x xs ys i None p h e = absurd (cc)
place_append_by n x xs ys i (Some j) p h e = ap after_one (h j refl) ∙ e

-- more names do not move a place
pub place-append : (n : List ℕ) (xs ys : List (String Global)) (i : ℕ) → place n xs ≡ Some i → place n (xs ++ ys) ≡ Some i
place-append n [] ys i e = absurd (cc)
place-append n (x ∷ xs) ys i e = elim (cases_Bool (bytes_eq (string_bytes x) n)) [
  | inl is_name ↦ ap (λ b. cond b (Some 0) (after_one (place n (xs ++ ys)))) is_name ∙ (ap (λ b. cond b (Some 0) (after_one (place n xs))) (sym is_name) ∙ e)
  | inr other ↦ ap (λ b. cond b (Some 0) (after_one (place n (xs ++ ys)))) other
      ∙ place_append_by n x xs ys i (place n xs) (place n (xs ++ ys)) (λ j. place-append n xs ys j) (ap (λ b. cond b (Some 0) (after_one (place n xs))) (sym other) ∙ e)
]

pub name_at-append : (xs ys : List (String Global)) (i : ℕ) → i < length xs → name_at (xs ++ ys) i ≡ name_at xs i
name_at-append [] ys i lt = absurd (omega arith)
name_at-append (x ∷ xs) ys zero lt = refl
name_at-append (x ∷ xs) ys (suc i) lt = name_at-append xs ys i (omega arith)

pub placed-more : (xs ys zs : List (String Global)) (slots : List DeskSlot) → zs ≡ xs ++ ys → ArePlaced xs slots → ArePlaced zs slots
placed-more xs ys zs slots e were = subst (λ l. ArePlaced l slots) (sym e) (λ s lt.
    let f = slot_file (slice_get slots s) in
    ap (λ m. place m (xs ++ ys)) (name_at-append xs ys f (place_at (name_at xs f) xs f (were s lt)).within) ∙ place-append (name_at xs f) xs ys f (were s lt))
