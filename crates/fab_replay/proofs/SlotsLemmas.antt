-- The slots of the captures, and those of the outputs behind them.
use Rattle.std.proofs.Common.{◌≡◌, ℕ, zero, suc, ◌+◌, ◌<◌, List, [], ◌∷◌, ◌++◌, length, length-append, IsTrue, refl, sym, ap, ◌∙◌, subst, arith}
use Rattle.fab_base.specs.Seen.{Seen, Touches, Nothing}
use Rattle.fab_base.proofs.SeenLemmas.{rose_later}
use Rattle.fab_base.specs.Slots.{NameIn, name_of, slot_at}
use Rattle.window_records.specs.Ports.{AreInputs}
use Rattle.window_records.proofs.SlotLemmas.{named_as}
use Rattle.fab_replay.specs.AllOutputs.{OneRose}

at_front : (xs ys : List ℕ) (q : ℕ) → q < length xs → slot_at (xs ++ ys) q ≡ slot_at xs q
at_front [] ys q lt = absurd (omega arith)
at_front (x ∷ xs) ys zero lt = refl
at_front (x ∷ xs) ys (suc q) lt = at_front xs ys q (omega arith)

behind : (xs ys : List ℕ) (q k : ℕ) → k ≡ length xs + q → slot_at (xs ++ ys) k ≡ slot_at ys q
behind [] ys q k e = ap (slot_at ys) (let same : k ≡ q = omega (arith, e) in same)
behind (x ∷ xs) ys q zero e = absurd (omega (arith, e))
behind (x ∷ xs) ys q (suc k) e = behind xs ys q k (omega (arith, e))

at_back : (xs ys : List ℕ) (q : ℕ) → slot_at (xs ++ ys) (length xs + q) ≡ slot_at ys q
at_back xs ys q = behind xs ys q (length xs + q) refl

module _ (xs ys : List ℕ) where
  within_front : (q : ℕ) → q < length xs → q < length (xs ++ ys)
  within_front q lt = let e = length-append xs ys in omega (arith, e, lt)

  within_back : (q : ℕ) → q < length ys → length xs + q < length (xs ++ ys)
  within_back q lt = let e = length-append xs ys in omega (arith, e, lt)

  module _ (d : Seen) where
    name_front : (q : ℕ) → q < length xs → name_of d (xs ++ ys) q ≡ name_of d xs q
    name_front q lt = ap (λ (s : ℕ). d.name s) (at_front xs ys q lt)

    name_back : (q : ℕ) → name_of d (xs ++ ys) (length xs + q) ≡ name_of d ys q
    name_back q = ap (λ (s : ℕ). d.name s) (at_back xs ys q)

    pub in_front : (m : List ℕ) → NameIn d xs m → NameIn d (xs ++ ys) m
    in_front m h = (h.0, within_front h.0 h.1, h.2 ∙ sym (name_front h.0 h.1))

    pub in_back : (m : List ℕ) → NameIn d ys m → NameIn d (xs ++ ys) m
    in_back m h = (length xs + h.0, within_back h.0 h.1, h.2 ∙ sym (name_back h.0))

    module _ (are : AreInputs d (xs ++ ys)) where
      pub inputs_front : AreInputs d xs
      inputs_front = record {
        inputs = λ q lt. subst (λ (s : ℕ). IsTrue (d.input s)) (at_front xs ys q lt) (are.inputs q (within_front q lt));
        differ = λ p q lt less e. are.differ p q (within_front p lt) (within_front q less) (name_front p lt ∙ e ∙ sym (name_front q less));
      }

      pub inputs_back : AreInputs d ys
      inputs_back = record {
        inputs = λ q lt. subst (λ (s : ℕ). IsTrue (d.input s)) (at_back xs ys q) (are.inputs (length xs + q) (within_back q lt));
        differ = λ p q lt less e.
            let same = are.differ (length xs + p) (length xs + q) (within_back p lt) (within_back q less) (name_back p ∙ e ∙ sym (name_back q)) in
            omega (arith, same);
      }

      -- a capture and an output have different names
      apart : (p q : ℕ) → p < length xs → q < length ys → name_of d xs p ≡ name_of d ys q → ⊥
      apart p q lt less e =
          let same = are.differ p (length xs + q) (within_front p lt) (within_back q less) (name_front p lt ∙ e ∙ sym (name_back q)) in
          omega (arith, same, lt)

      -- what touches the outputs alone leaves what is to come of the captures, and the other way round
      module _ (e : Seen) where
        pub left_front : Touches Nothing (NameIn d ys) d e → (q : ℕ) → q < length xs → e.left (slot_at xs q) ≡ d.left (slot_at xs q)
        left_front t q lt = t.left (slot_at xs q) (inputs_front.inputs q lt) (λ h. apart q h.0 lt h.1 h.2)

        pub left_back : Touches Nothing (NameIn d xs) d e → (q : ℕ) → q < length ys → e.left (slot_at ys q) ≡ d.left (slot_at ys q)
        left_back t q lt = t.left (slot_at ys q) (inputs_back.inputs q lt) (λ h. apart h.0 q h.1 lt (sym h.2))

    module _ (e : Seen) where
      pub rose_front : OneRose xs d e → OneRose (xs ++ ys) d e
      rose_front h = (h.0, in_front h.0 h.1, h.2)

      pub rose_back : OneRose ys d e → OneRose (xs ++ ys) d e
      rose_back h = (h.0, in_back h.0 h.1, h.2)

-- ---- open slots, while some of them are read

-- a count that rose later rose in all
pub rose_in_all : (counted : List ℕ → Type 0) (a b : Seen) → Touches Nothing counted a b → (slots : List ℕ) → AreInputs a slots → (d : Seen) → OneRose slots b d → OneRose slots a d
rose_in_all counted a b t slots o d h =
    (h.0, (h.1.0, h.1.1, h.1.2 ∙ named_as Nothing counted a b slots t o h.1.0 h.1.1), rose_later _ _ _ (t.reads_rise h.0) h.2)
