-- The slots that are handed to the check of `replay` and `show`: the captures and the outputs, all of different names.
use Rattle.std.proofs.Common.{◌≡◌, ℕ, zero, suc, ◌+◌, ◌*◌, ◌<◌, ◌≤◌, List, [], ◌∷◌, ◌++◌, length, get_or, true, IsTrue, refl, sym, ap, ◌∙◌, subst, arith, inl, inr}
use Rattle.std.specs.Prelude.{String, map}
use Rattle.std.specs.declared.alloc.Global.{Global}
use Rattle.fab_base.specs.Seen.{Seen, Touches, Nothing}
use Rattle.fab_base.specs.Counting.{counting}
use Rattle.window_records.specs.First.{AreFresh}
use Rattle.fab_base.specs.Slots.{slot_at, NameIn}
use Rattle.window_records.specs.Ports.{slots_of, AreInputs}
use Rattle.window_records.specs.declared.shelf.Input.{Input}
use Rattle.fabric_tool.specs.Checking.{AreOpenInputs}
use Rattle.fabric_tool.specs.Command.{are_ports, names_of, ins_of, count_of, place_of, input_of, output_at, port_count}
use Rattle.run_files.specs.Names.{Among}
use Rattle.fabric_tool.specs.Reading.{AreHeads}
use Rattle.fabric_tool.specs.declared.command.Width.{Width}
use Rattle.fabric_tool.specs.declared.command.Width.TheVariants as widths
use Rattle.run_files.proofs.NameLemmas.{among_counted, among_split, length-counted}
use Rattle.fabric_tool.proofs.GivenLemmas.{all_fresh}
use Rattle.fabric_tool.proofs.HeadLemmas.{heads_still, heads_count}
use Rattle.fabric_tool.proofs.JournalLemmas.{outs_count}
use Rattle.fabric_tool.proofs.NameLemmas.{pairs, ports, one_place, one_name, places_ascend, inputs_apart}

-- ---- slots and their names

-- open inputs of these names
pub record IsInput (d : Seen) (s : ℕ) (name : List ℕ) : Type 0 where
  pub input : IsTrue (d.input s)
  pub named : d.name s ≡ name

abbrev pub AreNamedIn : Seen → List (List ℕ) → List ℕ → Type 0
AreNamedIn d [] [] = Unit {0}
AreNamedIn d [] (s ∷ slots) = ⊥
AreNamedIn d (name ∷ names) [] = ⊥
AreNamedIn d (name ∷ names) (s ∷ slots) = IsInput d s name × AreNamedIn d names slots

heads_named : (a d : Seen) (names : List (List ℕ)) (ins : List Input) → AreHeads a d names ins → AreNamedIn d names (slots_of ins)
heads_named a d [] [] are = tt
heads_named a d [] (i ∷ ins) are = absurd are
heads_named a d (n ∷ names) [] are = absurd are
heads_named a d (n ∷ names) (i ∷ ins) are = (record { input = are.0.slot; named = are.0.name_ }, heads_named a d names ins are.1)

outs_named : (a d : Seen) (names : List (List ℕ)) (slots : List ℕ) → AreOpenInputs a d names slots → AreNamedIn d names slots
outs_named a d [] [] are = tt
outs_named a d [] (s ∷ slots) are = absurd are
outs_named a d (n ∷ names) [] are = absurd are
outs_named a d (n ∷ names) (s ∷ slots) are = (record { input = are.0.0; named = are.0.1 }, outs_named a d names slots are.1)

both_named : (d : Seen) (xs ys : List (List ℕ)) (ss ts : List ℕ) → AreNamedIn d xs ss → AreNamedIn d ys ts → AreNamedIn d (xs ++ ys) (ss ++ ts)
both_named d [] ys [] ts are more = more
both_named d [] ys (s ∷ ss) ts are more = absurd are
both_named d (x ∷ xs) ys [] ts are more = absurd are
both_named d (x ∷ xs) ys (s ∷ ss) ts are more = (are.0, both_named d xs ys ss ts are.1 more)

named_count : (d : Seen) (names : List (List ℕ)) (slots : List ℕ) → AreNamedIn d names slots → length slots ≡ length names
named_count d [] [] are = refl
named_count d [] (s ∷ slots) are = absurd are
named_count d (n ∷ names) [] are = absurd are
named_count d (n ∷ names) (s ∷ slots) are = let h = named_count d names slots are.1 in omega arith

named_at : (d : Seen) (names : List (List ℕ)) (slots : List ℕ) (q : ℕ) → q < length slots → AreNamedIn d names slots → IsInput d (slot_at slots q) (get_or names q [])
named_at d [] [] q lt are = absurd (omega arith)
named_at d [] (s ∷ slots) q lt are = absurd are
named_at d (n ∷ names) [] q lt are = absurd are
named_at d (n ∷ names) (s ∷ slots) zero lt are = are.0
named_at d (n ∷ names) (s ∷ slots) (suc q) lt are = named_at d names slots q (omega arith) are.1

name_among : (names : List (List ℕ)) (q : ℕ) → q < length names → Among names (get_or names q [])
name_among [] q lt = absurd (omega arith)
name_among (n ∷ names) zero lt = inl refl
name_among (n ∷ names) (suc q) lt = inr (name_among names q (omega arith))

-- no name stands there twice
abbrev AreDistinct : List (List ℕ) → Type 0
AreDistinct [] = Unit {0}
AreDistinct (n ∷ names) = (Among names n → ⊥) × AreDistinct names

distinct_places : (names : List (List ℕ)) (p q : ℕ) → AreDistinct names → p < length names → q < length names → get_or names p [] ≡ get_or names q [] → p ≡ q
distinct_places [] p q are lp lq same = absurd (omega arith)
distinct_places (n ∷ names) zero zero are lp lq same = refl
distinct_places (n ∷ names) zero (suc q) are lp lq same = absurd (are.0 (subst (Among names) (sym same) (name_among names q (omega arith))))
distinct_places (n ∷ names) (suc p) zero are lp lq same = absurd (are.0 (subst (Among names) same (name_among names p (omega arith))))
distinct_places (n ∷ names) (suc p) (suc q) are lp lq same = ap suc (distinct_places names p q are.1 (omega arith) (omega arith) same)

distinct_counted : (f : ℕ → List ℕ) (k n : ℕ) → ((i j : ℕ) → i < j → j < k + n → f i ≡ f j → ⊥) → AreDistinct (map f (counting k n))
distinct_counted f k zero apart = tt
distinct_counted f k (suc n) apart = (
  λ among. let at = among_counted f (k + 1) n (f k) among in apart k at.0 (omega (arith, at.1)) (omega (arith, at.2)) at.3,
  distinct_counted f (k + 1) n (λ i j lt within same. apart i j lt (omega (arith, within)) same),
)

distinct_both : (xs ys : List (List ℕ)) → AreDistinct xs → AreDistinct ys → ((m : List ℕ) → Among xs m → Among ys m → ⊥) → AreDistinct (xs ++ ys)
distinct_both [] ys one other apart = other
distinct_both (x ∷ xs) ys one other apart = (
  λ among. elim (among_split xs ys x among) [ inl mine ↦ one.0 mine | inr theirs ↦ apart x (inl refl) theirs ],
  distinct_both xs ys one.1 other (λ m mine theirs. apart m (inr mine) theirs),
)

-- ---- the names of a command

pub ins_named : (w : Width) (words : List (String Global)) → (names_of w words).ins ≡ ins_of w words
ins_named widths.One words = refl
ins_named widths.Two words = refl

outs_distinct : (w : Width) (words : List (String Global)) → are_ports w words ≡ true → AreDistinct (names_of w words).outs
outs_distinct widths.One words run = tt
outs_distinct widths.Two words run =
    let fits = (pairs words run).fits in
    distinct_counted (output_at words) 0 (port_count words) (λ i j lt within same.
    let place = one_place words (2 * i + 4) (2 * j + 4) run (omega arith) (omega (arith, fits, within, lt)) (omega arith) (omega (arith, fits, within)) same in
    omega (arith, place, lt))

few_outs : (w : Width) (words : List (String Global)) → length (names_of w words).outs ≤ count_of w words
few_outs widths.One words = omega arith
few_outs widths.Two words = let n = length-counted (output_at words) 0 (port_count words) in omega arith

outs_apart : (w : Width) (words : List (String Global)) → are_ports w words ≡ true → (m : List ℕ) → Among (ins_of w words) m → Among (names_of w words).outs m → ⊥
outs_apart widths.One words run m input output = output
outs_apart widths.Two words run m input output = inputs_apart words run m input (inr output)

module _ (w : Width) (words : List (String Global)) (run : are_ports w words ≡ true) where
  names_distinct : AreDistinct (ins_of w words ++ (names_of w words).outs)
  names_distinct =
      let p = ports w words run in
      distinct_both (ins_of w words) (names_of w words).outs
      (distinct_counted (input_of w words) 0 (count_of w words) (λ i j lt within same.
      let below = places_ascend w i j lt in
      let last = places_ascend w j (count_of w words) (omega (arith, within)) in
      let place = one_name words (place_of w i) (place_of w j) p.names below.0 (omega (arith, below.1, last.1, p.fits)) last.0 (omega (arith, last.1, p.fits)) same in
      omega (arith, place, below.1)))
      (outs_distinct w words run)
      (outs_apart w words run)

  module _ (d : Seen) (slots : List ℕ) (are : AreNamedIn d (ins_of w words ++ (names_of w words).outs) slots) where
    pub are_inputs : AreInputs d slots
    are_inputs =
        let names = ins_of w words ++ (names_of w words).outs in
        let count = named_count d names slots are in
        record {
          inputs = λ q lt. (named_at d names slots q lt are).input;
          differ = λ p q lp lq same. distinct_places names p q names_distinct (omega (arith, lp, count)) (omega (arith, lq, count)) (sym (named_at d names slots p lp are).named ∙ same ∙ (named_at d names slots q lq are).named);
        }

    pub slots_among : (m : List ℕ) → NameIn d slots m → Among (ins_of w words ++ (names_of w words).outs) m
    slots_among m at =
        let names = ins_of w words ++ (names_of w words).outs in
        subst (Among names) (sym (at.2 ∙ (named_at d names slots at.0 at.1 are).named)) (name_among names at.0 (omega (arith, at.1, named_count d names slots are)))

-- ---- what is handed over

-- captures and outputs as the check wants them
pub record AreHanded (w : Width) (words : List (String Global)) (o : Seen) (ins : List Input) (slots : List ℕ) : Type 0 where
  pub ports : (1 ≤ length ins) × (length ins ≤ 64)
  pub outputs : length slots ≤ length ins
  pub inputs : AreInputs o (slots_of ins ++ slots)
  pub fresh : AreFresh ins
  pub count : length ins ≡ count_of w words

-- what is handed to the check
module _ (w : Width) (words : List (String Global)) (run : are_ports w words ≡ true) (b m o : Seen) (ins : List Input) (heads : AreHeads b m (ins_of w words) ins)
    (slots : List ℕ) (opened : Touches Nothing (Among (names_of w words).outs) m o) (outs : AreOpenInputs m o (names_of w words).outs slots) where
  pub heads_on : AreHeads b o (ins_of w words) ins
  heads_on = heads_still b m o (ins_of w words) ins Nothing (Among (names_of w words).outs) opened (outs_apart w words run) heads

  pub all_named : AreNamedIn o (ins_of w words ++ (names_of w words).outs) (slots_of ins ++ slots)
  all_named = both_named o (ins_of w words) (names_of w words).outs (slots_of ins) slots (heads_named b o (ins_of w words) ins heads_on) (outs_named m o (names_of w words).outs slots outs)

  ins_count : length ins ≡ count_of w words
  ins_count = heads_count b o (ins_of w words) ins heads_on ∙ length-counted (input_of w words) 0 (count_of w words)

  all_inputs : AreInputs o (slots_of ins ++ slots)
  all_inputs = are_inputs w words run o (slots_of ins ++ slots) all_named

  fresh : AreFresh ins
  fresh = all_fresh b o (ins_of w words) ins heads_on

  -- no more outputs than captures
  few_slots : length slots ≤ length ins
  few_slots = let n = outs_count m o (names_of w words).outs slots outs in let l = few_outs w words in let i = ins_count in omega arith

  -- the same of equal lists
  pub handed : (xs : List Input) (ys : List ℕ) → xs ≡ ins → ys ≡ slots → AreHanded w words o xs ys
  handed xs ys e f =
      let n = ins_count in
      let p = ports w words run in
      let some = p.some in
      let few = p.few in
      subst (λ x. AreHanded w words o x ys) (sym e) (subst (λ y. AreHanded w words o ins y) (sym f) (record { ports = (omega arith, omega arith); outputs = few_slots; inputs = all_inputs; fresh = fresh; count = n }))
