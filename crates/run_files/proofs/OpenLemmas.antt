-- Several outputs as they are opened, one after another.
use Rattle.std.proofs.Common.{◌≡◌, ◌≢◌, ℕ, zero, suc, ◌+◌, ◌<◌, List, [], ◌∷◌, ◌++◌, ◌⊎◌, length, Some, Ok, Err, IsTrue, refl, sym, ◌∙◌, ap, subst, inl, inr, arith}
use Rattle.std.specs.Prelude.{map}
use Rattle.std.specs.Str.{bytes_eq}
use Rattle.std.proofs.lemmas.Bool.{cases_Bool}
use Rattle.std.proofs.lemmas.Slice.Eq.{bytes_eq-Decides}
use Rattle.fab_base.specs.Ending.{RoseIn}
use Rattle.fab_base.specs.Seen.{Seen, OpensOut, Touches, Only, SameFiles, SameWriteFaults}
use Rattle.fab_base.specs.declared.values.Failed.{Failed}
use Rattle.fab_base.proofs.SeenLemmas.{touches_refl, touches_trans, touches_wider, keeps_touches, rose_later}
use Rattle.fab_base.specs.Counting.{counting}
use Rattle.fab_base.specs.Slots.{slot_at}
use Rattle.run_files.specs.Names.{Among}
use Rattle.run_files.specs.Opening.{AreEmptyOutputs, Opens, OpenedUpTo}
use Rattle.run_files.specs.Outputs.{AreOutputs}
use Rattle.run_files.proofs.NameLemmas.{differs, among_front, among_back, among_all, length-counted}

-- what stands for the loop when the outputs of these names were opened
pub record OpenedSoFar (names : List (List ℕ)) (a now : Seen) (slots : List ℕ) : Type 0 where
  pub opens : Opens names a now
  pub are : AreEmptyOutputs now names slots
  pub counts : SameWriteFaults a now

pub opened_none : (a : Seen) → OpenedSoFar [] a a []
opened_none a = record { opens = record { touches = touches_refl (Among []) (Among []) a; each = λ told m. inl refl; reads = λ m. refl }; are = tt; counts = λ m. refl }

-- outputs stay open and empty while another is opened
outputs_still : (b d : Seen) (names : List (List ℕ)) (slots : List ℕ) (name : List ℕ) → Touches (Only name) (Only name) b d → ((m : List ℕ) → Among names m → m ≢ name) → AreEmptyOutputs b names slots → AreEmptyOutputs d names slots
outputs_still b d [] [] name k apart are = tt
outputs_still b d [] (s ∷ slots) name k apart are = absurd are
outputs_still b d (n ∷ names) [] name k apart are = absurd are
outputs_still b d (n ∷ names) (s ∷ slots) name k apart are =
    let same = k.slots s (inr are.0.0) in (
      (
        subst IsTrue (sym same.output) are.0.0,
        same.name ∙ are.0.1,
        λ told. k.files n (apart n (inl refl)) ∙ are.0.2 (subst IsTrue k.told told),
      ),
      outputs_still b d names slots name k (λ m among. apart m (inr among)) are.1,
    )

outputs_push : (d : Seen) (names : List (List ℕ)) (slots : List ℕ) (name : List ℕ) (s : ℕ) → AreEmptyOutputs d names slots → IsTrue (d.output s) × (d.name s ≡ name) × (IsTrue d.told → d.file name ≡ Some []) → AreEmptyOutputs d (names ++ name ∷ []) (slots ++ s ∷ [])
outputs_push d [] [] name s are is = (is, tt)
outputs_push d [] (x ∷ slots) name s are is = absurd are
outputs_push d (n ∷ names) [] name s are is = absurd are
outputs_push d (n ∷ names) (x ∷ slots) name s are is = (are.0, outputs_push d names slots name s are.1 is)

-- the files of outputs are empty
empty_among : (d : Seen) (names : List (List ℕ)) (slots : List ℕ) → AreEmptyOutputs d names slots → IsTrue d.told → (m : List ℕ) → Among names m → d.file m ≡ Some []
empty_among d [] slots are told m a = absurd a
empty_among d (n ∷ names) [] are told m a = absurd are
empty_among d (n ∷ names) (s ∷ slots) are told m (inl is) = ap d.file is ∙ are.0.2 told
empty_among d (n ∷ names) (s ∷ slots) are told m (inr a) = empty_among d names slots are.1 told m a

pub outputs_count : (d : Seen) (names : List (List ℕ)) (slots : List ℕ) → AreEmptyOutputs d names slots → length slots ≡ length names
outputs_count d [] [] are = refl
outputs_count d [] (s ∷ slots) are = absurd are
outputs_count d (n ∷ names) [] are = absurd are
outputs_count d (n ∷ names) (s ∷ slots) are = ap suc (outputs_count d names slots are.1)

module _ (names : List (List ℕ)) (a b : Seen) (slots : List ℕ) (h : OpenedSoFar names a b slots) (name : List ℕ) (d : Seen) where
  told_b : IsTrue a.told → IsTrue b.told
  told_b told = subst IsTrue (sym h.opens.touches.told) told

  touch : Touches (Only name) (Only name) b d → Touches (Among (names ++ name ∷ [])) (Among (names ++ name ∷ [])) a d
  touch k =
      let all = Among (names ++ name ∷ []) in
      let front = λ (m : List ℕ) (x : Among names m). among_front names (name ∷ []) m x in
      let own = λ (m : List ℕ) (x : Only name m). among_back names (name ∷ []) m (inl x) in
      touches_trans all all a b d (touches_wider (Among names) (Among names) all all a b front front h.opens.touches) (touches_wider (Only name) (Only name) all all b d own own k)

  -- where no file but those before changes
  front_alone : Touches (Among (names ++ name ∷ [])) (Among (names ++ name ∷ [])) a d → ((m : List ℕ) → ¬ Among names m → d.file m ≡ a.file m) → Touches (Among names) (Among (names ++ name ∷ [])) a d
  front_alone t files = record {
    told = t.told;
    knows = t.knows;
    slots = t.slots;
    files = files;
    left = t.left;
    reads = t.reads;
    writes = t.writes;
    reads_rise = t.reads_rise;
    writes_rise = t.writes_rise;
  }

  -- where the file stays no file changes
  still : Touches (Only name) (Only name) b d → d.file name ≡ b.file name → SameFiles b d
  still k same m = elim (cases_Bool (bytes_eq m name)) [
    | inl is ↦ subst (λ n. d.file n ≡ b.file n) (sym ((bytes_eq-Decides m name).0 is)) same
    | inr other ↦ k.files m (differs m name other)
  ]

  -- another file is as it was before this call
  each_file : Touches (Only name) (Only name) b d → IsTrue a.told → (d.file name ≡ b.file name) ⊎ (d.file name ≡ Some []) → (m : List ℕ) → (d.file m ≡ a.file m) ⊎ (d.file m ≡ Some [])
  each_file k told own m = elim (cases_Bool (bytes_eq m name)) [
    | inl same ↦ subst (λ n. (d.file n ≡ a.file n) ⊎ (d.file n ≡ Some [])) (sym ((bytes_eq-Decides m name).0 same)) (elim own [
      | inl still ↦ elim (h.opens.each told name) [ inl was ↦ inl (still ∙ was) | inr empty ↦ inr (still ∙ empty) ]
      | inr empty ↦ inr empty
    ])
    | inr other ↦
        let still = k.files m (differs m name other) in
        elim (h.opens.each told m) [ inl was ↦ inl (still ∙ was) | inr empty ↦ inr (still ∙ empty) ]
  ]

  pub opened_more : (s : ℕ) → (Among names name → ⊥) → OpensOut {E = Failed} name b d (Ok s) → OpenedSoFar (names ++ name ∷ []) a d (slots ++ s ∷ [])
  opened_more s new o =
      let k = keeps_touches name b d o.keeps in
      record {
        opens = record { touches = touch k; each = λ told. each_file k told (inr (o.emptied (told_b told))); reads = λ m. o.reads m ∙ h.opens.reads m };
        are = outputs_push d names slots name s
            (outputs_still b d names slots name k (λ m among is. new (subst (Among names) is among)) h.are)
            (o.opened.0, o.opened.2, λ told. o.emptied (subst IsTrue k.told told));
        counts = λ m. o.counts m ∙ h.counts m;
      }

  -- one more can't be opened, of all these names
  pub opened_failed : (all behind : List (List ℕ)) → all ≡ names ++ name ∷ behind → (e : Failed) → OpensOut {E = Failed} name b d (Err e) → Opens all a d × OpenedUpTo all a d
  opened_failed all behind are e o =
      let k = keeps_touches name b d o.keeps in
      let wide = λ (m : List ℕ) (x : Among (names ++ name ∷ []) m). subst (λ l. Among l m) (sym are) (among_all names behind name m x) in (
        record {
          touches = touches_wider (Among (names ++ name ∷ [])) (Among (names ++ name ∷ [])) (Among all) (Among all) a d wide wide (touch k);
          each = λ told. each_file k told (inl o.same);
          reads = λ m. o.reads m ∙ h.opens.reads m;
        },
        record {
          before = names;
          name = name;
          behind = behind;
          are = are;
          touches = front_alone (touch k) (λ m other. still k o.same m ∙ h.opens.touches.files m other);
          empty = λ told m among. still k o.same m ∙ empty_among b names slots h.are (told_b told) m among;
          rose = rose_later (a.write_faults name) (b.write_faults name) (d.write_faults name) (h.opens.touches.writes_rise name) o.cause;
          others = λ m other. k.writes m other ∙ h.counts m;
        },
      )

-- where one couldn't be opened the count of one of all rose
pub up_to_rose : (names : List (List ℕ)) (old new : Seen) → OpenedUpTo names old new → RoseIn (Among names) old.write_faults new.write_faults
up_to_rose names old new o =
    (o.name, subst (λ l. Among l o.name) (sym o.are) (among_back o.before (o.name ∷ o.behind) o.name (inl refl)), o.rose)

-- ---- open outputs by their places

pub record At (d : Seen) (name : List ℕ) (slot : ℕ) : Type 0 where
  pub output : IsTrue (d.output slot)
  pub name_is : d.name slot ≡ name
  pub empty : IsTrue d.told → d.file name ≡ Some []

pub output_there : (d : Seen) (f : ℕ → List ℕ) (k n : ℕ) (slots : List ℕ) (q : ℕ) → AreEmptyOutputs d (map f (counting k n)) slots → q < n → At d (f (k + q)) (slot_at slots q)
output_there d f k zero slots q are lt = absurd (omega (arith, lt))
output_there d f k (suc n) [] q are lt = absurd are
output_there d f k (suc n) (s ∷ slots) zero are lt = subst (λ (i : ℕ). At d (f i) s) (let e : k ≡ k + zero = omega arith in e) (record { output = are.0.0; name_is = are.0.1; empty = are.0.2 })
output_there d f k (suc n) (s ∷ slots) (suc q) are lt =
    subst (λ (i : ℕ). At d (f i) (slot_at slots q)) (let e : k + 1 + q ≡ k + suc q = omega arith in e) (output_there d f (k + 1) n slots q are.1 (omega (arith, lt)))

module _ (d : Seen) (f : ℕ → List ℕ) (n : ℕ) (slots : List ℕ) (are : AreEmptyOutputs d (map f (counting 0 n)) slots) where
  pub slots_count : length slots ≡ n
  slots_count = outputs_count d (map f (counting 0 n)) slots are ∙ length-counted f 0 n

  pub there : (q : ℕ) → q < n → At d (f q) (slot_at slots q)
  there q lt = subst (λ (i : ℕ). At d (f i) (slot_at slots q)) (let e : 0 + q ≡ q = omega arith in e) (output_there d f 0 n slots q are lt)

  pub are_outputs : ((p q : ℕ) → p < n → q < n → f p ≡ f q → p ≡ q) → AreOutputs d slots
  are_outputs differ = record {
    outputs = λ q lt. (there q (omega (arith, lt, slots_count))).output;
    differ = λ p q lp lq e.
        let p_in : p < n = omega (arith, lp, slots_count) in
        let q_in : q < n = omega (arith, lq, slots_count) in
        differ p q p_in q_in (sym (there p p_in).name_is ∙ e ∙ (there q q_in).name_is);
  }
