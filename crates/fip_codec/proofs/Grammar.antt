-- A body that is decoded is in the grammar.
use Rattle.std.proofs.Common.{◌≡◌, ℕ, zero, suc, ◌+◌, ◌-◌, ◌*◌, ◌<◌, ◌≤◌, inl, inr, Bool, true, false, not, nat_lt, nat_le, ◌&&◌, ◌||◌, ◌==◌, if◌then◌else◌, List, [], ◌∷◌, ◌++◌, length, take, drop, Option, Some, None, Result, Ok, Err, refl, sym, ap, ◌∙◌, arith, length-drop}
use Rattle.std.specs.List.{list_all, list_any, flat_map}
use Rattle.std.proofs.lemmas.Bool.{cases_Bool, cases_eq, false≢true}
use Rattle.std.proofs.lemmas.Bool.Decides.{nat_tests}
use Rattle.std.proofs.lemmas.List.{take-append-drop, length-take-le}
use Rattle.std.proofs.lemmas.List.Folds.{list_any-append}
use Rattle.std.proofs.lemmas.List.Sums.{AllPass-from_list_all}
use Rattle.fip_codec.specs.Fip.{HEADER, Descriptor, Name, Solicitation, Advertisement, Request, Reply, KeepAlive, ClearLinks, VlanRequest, VlanNotification, version_of, operation_of, subcode_of, name_of, list_of, list_length, flags_of, may_be_skipped, in_table, words_fit, stands_once, family, of_kind, required, optional}
use Rattle.fip_codec.specs.Message.{Fip}
use Rattle.fip_codec.specs.Reading.{decoded, decoded_list, fault_of, first_fault, has_kind, missing, message_of, descriptor_bytes, IsFip}
use Rattle.fip_codec.specs.Walk.{listed}
use Rattle.fip_codec.specs.declared.fault.FipFault.{FipFault}
use Rattle.fip_codec.specs.declared.fault.FipFault.TheVariants.{Short, Version, Operation, ListLength}
use Rattle.fip_codec.proofs.Sound.{and-left, and-right}
use Rattle.fip_codec.proofs.Typed.{of_kind-hit, of_kind-miss}
use Rattle.fip_codec.proofs.Present.{present_in}
use Rattle.fip_codec.proofs.Listed.{fits, fits-means, listed-nil, listed-unfit, listed-whole}

-- ---- the tests of the header

abbrev pub ladder : Bool → Bool → Option Name → Bool → (Name → Result Fip FipFault) → Result Fip FipFault
ladder short version row long rest =
    if short then Err Short
    else (if not version then Err Version
    else (elim row [ None ↦ Err Operation | Some name ↦ elim long [ true ↦ Err ListLength | false ↦ rest name ] ]))

ladder_ok : (short version : Bool) (row : Option Name) (long : Bool) (rest : Name → Result Fip FipFault) (m : Fip) → ladder short version row long rest ≡ Ok m
    → (name : Name) × (short ≡ false) × (version ≡ true) × (row ≡ Some name) × (long ≡ false) × (rest name ≡ Ok m)
ladder_ok true version row long rest m e = cc
ladder_ok false false row long rest m e = cc
ladder_ok false true None long rest m e = cc
ladder_ok false true (Some name) true rest m e = cc
ladder_ok false true (Some name) false rest m e = (name, refl, refl, refl, refl, e)

abbrev pub ending : Option FipFault → Option FipFault → Fip → Result Fip FipFault
ending first absent told = elim first [ Some fault ↦ Err fault | None ↦ elim absent [ Some fault ↦ Err fault | None ↦ Ok told ] ]

ending_ok : (first absent : Option FipFault) (told m : Fip) → ending first absent told ≡ Ok m → (first ≡ None) × (absent ≡ None) × (told ≡ m)
ending_ok (Some x) absent told m e = cc
ending_ok None (Some x) told m e = cc
ending_ok None None told m e = (refl, refl, cc)

-- ---- each descriptor

is_plain : Descriptor → Bool
is_plain d = d.whole && (may_be_skipped d.kind || words_fit d.kind d.words)

clear_if : (whole skip table fit once : Bool) (v x y z : FipFault) → (if not whole then Some v else (if skip then None else (if not table then Some x else (if not fit then Some y else (if once then Some z else None))))) ≡ None
    → (whole ≡ true) × ((skip || fit) ≡ true) × (skip ≡ false → once ≡ false)
clear_if false skip table fit once v x y z e = cc
clear_if true true table fit once v x y z e = (refl, refl, λ s. cc)
clear_if true false false fit once v x y z e = cc
clear_if true false true false once v x y z e = cc
clear_if true false true true true v x y z e = cc
clear_if true false true true false v x y z e = (refl, refl, λ s. refl)

pub clear_of : (name : Name) (before : List Descriptor) (d : Descriptor) → fault_of name before d ≡ None
    → (d.whole ≡ true) × ((may_be_skipped d.kind || words_fit d.kind d.words) ≡ true) × (may_be_skipped d.kind ≡ false → (stands_once name d.kind && has_kind (family d.kind) before) ≡ false)
clear_of name before d e = clear_if d.whole (may_be_skipped d.kind) (in_table d.kind) (words_fit d.kind d.words) (stands_once name d.kind && has_kind (family d.kind) before) _ _ _ _ e

none_cons : (fault : Option FipFault) (rest : Option FipFault) → (elim fault as (λ _. Option FipFault) [ Some fault ↦ Some fault | None ↦ rest ]) ≡ None → (fault ≡ None) × (rest ≡ None)
none_cons (Some x) rest e = cc
none_cons None rest e = (refl, e)

pub clear_cons : (name : Name) (before : List Descriptor) (d : Descriptor) (ds : List Descriptor) → first_fault name before (d ∷ ds) ≡ None → (fault_of name before d ≡ None) × (first_fault name (before ++ d ∷ []) ds ≡ None)
clear_cons name before d ds e = none_cons (fault_of name before d) (first_fault name (before ++ d ∷ []) ds) e

all_whole : (name : Name) (before ds : List Descriptor) → first_fault name before ds ≡ None → list_all (λ d. d.whole) ds ≡ true
all_whole name before [] e = refl
all_whole name before (d ∷ ds) e =
    let c = clear_cons name before d ds e in
    ap (λ b. b && list_all (λ d. d.whole) ds) (clear_of name before d c.0).0 ∙ all_whole name (before ++ d ∷ []) ds c.1

all_known : (name : Name) (before ds : List Descriptor) → first_fault name before ds ≡ None → list_all (λ d. may_be_skipped d.kind || words_fit d.kind d.words) ds ≡ true
all_known name before [] e = refl
all_known name before (d ∷ ds) e =
    let c = clear_cons name before d ds e in
    ap (λ b. b && list_all (λ d. may_be_skipped d.kind || words_fit d.kind d.words) ds) (clear_of name before d c.0).1 ∙ all_known name (before ++ d ∷ []) ds c.1

-- ---- how often a type stands

abbrev pub is_in_row : Name → ℕ → Bool
is_in_row name kind = list_any (λ k. k == kind) (required name ++ optional name)

pub low_kind : (name : Name) (kind : ℕ) → is_in_row name kind ≡ true → nat_le 128 kind ≡ false
low_kind Solicitation kind e = grind (arith, nat_tests)
low_kind Advertisement kind e = grind (arith, nat_tests)
low_kind Request kind e = grind (arith, nat_tests)
low_kind Reply kind e = grind (arith, nat_tests)
low_kind KeepAlive kind e = grind (arith, nat_tests)
low_kind ClearLinks kind e = grind (arith, nat_tests)
low_kind VlanRequest kind e = grind (arith, nat_tests)
low_kind VlanNotification kind e = grind (arith, nat_tests)

low_family : (k : ℕ) → nat_le 128 (family k) ≡ false → nat_le 128 k ≡ false
low_family k e = grind (arith, nat_tests)

pub same_kind : (k : ℕ) → (k == k) ≡ true
same_kind k = grind (arith, nat_tests)

pub or_true : (b : Bool) → (b || true) ≡ true
or_true true = refl
or_true false = refl

-- what passes a test if it stands in the list
all_from : (p : ℕ → Bool) (kinds : List ℕ) → ((k : ℕ) → list_any (λ x. x == k) kinds ≡ true → p k ≡ true) → list_all p kinds ≡ true
all_from p [] h = refl
all_from p (k ∷ kinds) h =
    ap (λ b. b && list_all p kinds) (h k (ap (λ b. b || list_any (λ x. x == k) kinds) (same_kind k)))
    ∙ all_from p kinds (λ j among. h j (ap (λ b. (k == j) || b) among ∙ or_true (k == j)))

pub required_in_row : (name : Name) (kind : ℕ) → list_any (λ k. k == kind) (required name) ≡ true → is_in_row name kind ≡ true
required_in_row name kind e = list_any-append (λ k. k == kind) (required name) (optional name) ∙ ap (λ b. b || list_any (λ k. k == kind) (optional name)) e

pub optional_in_row : (name : Name) (kind : ℕ) → list_any (λ k. k == kind) (optional name) ≡ true → is_in_row name kind ≡ true
optional_in_row name kind e = list_any-append (λ k. k == kind) (required name) (optional name) ∙ ap (λ b. list_any (λ k. k == kind) (required name) || b) e ∙ or_true (list_any (λ k. k == kind) (required name))

has_more : (kind : ℕ) (before : List Descriptor) (d : Descriptor) → has_kind kind (before ++ d ∷ []) ≡ (has_kind kind before || (family d.kind == kind || false))
has_more kind before d = list_any-append (λ d. family d.kind == kind) before (d ∷ [])

module _ (name : Name) (kind : ℕ) (in_row : is_in_row name kind ≡ true) where
  again : (before : List Descriptor) (d : Descriptor) → family d.kind ≡ kind → fault_of name before d ≡ None → has_kind kind before ≡ false
  again before d is e =
      let low = low_family d.kind (ap (nat_le 128) is ∙ low_kind name kind in_row) in
      ap (λ b. b && has_kind kind before) (sym in_row) ∙ ap (λ k. list_any (λ j. j == k) (required name ++ optional name) && has_kind k before) (sym is) ∙ (clear_of name before d e).2 low

  none_left : (before ds : List Descriptor) → first_fault name before ds ≡ None → has_kind kind before ≡ true → of_kind kind ds ≡ []
  none_left before [] e has = refl
  none_left before (d ∷ ds) e has =
      let c = clear_cons name before d ds e in
      elim (cases_eq (family d.kind) kind) as (λ _. of_kind kind (d ∷ ds) ≡ []) [
        | inl is ↦ absurd (false≢true (sym (again before d is c.0) ∙ has))
        | inr isnt ↦ of_kind-miss kind d ds isnt ∙ none_left (before ++ d ∷ []) ds c.1 (has_more kind before d ∙ ap (λ b. b || (family d.kind == kind || false)) has)
      ]

  at_most_one : (before ds : List Descriptor) → first_fault name before ds ≡ None → length (of_kind kind ds) ≤ 1
  at_most_one before [] e = omega arith
  at_most_one before (d ∷ ds) e =
      let c = clear_cons name before d ds e in
      elim (cases_eq (family d.kind) kind) as (λ _. length (of_kind kind (d ∷ ds)) ≤ 1) [
        | inl is ↦
            let now : (family d.kind == kind) ≡ true = ap (λ k. k == kind) is ∙ same_kind kind in
            let rest = none_left (before ++ d ∷ []) ds c.1 (has_more kind before d ∙ ap (λ b. has_kind kind before || (b || false)) now ∙ or_true (has_kind kind before)) in
            omega (arith, ap length (of_kind-hit kind d ds is (clear_of name before d c.0).0), ap length rest)
        | inr isnt ↦ omega (arith, ap length (of_kind-miss kind d ds isnt), at_most_one (before ++ d ∷ []) ds c.1)
      ]

pub at_least_one : (kind : ℕ) (ds : List Descriptor) → list_all (λ d. d.whole) ds ≡ true → has_kind kind ds ≡ true → 0 < length (of_kind kind ds)
at_least_one kind [] w has = cc
at_least_one kind (d ∷ ds) w has =
    elim (cases_eq (family d.kind) kind) as (λ _. 0 < length (of_kind kind (d ∷ ds))) [
      | inl is ↦ omega (arith, ap length (of_kind-hit kind d ds is (and-left d.whole (list_all (λ d. d.whole) ds) w)))
      | inr isnt ↦
          let other : (family d.kind == kind) ≡ false = not_same (family d.kind) kind isnt in
          omega (arith, ap length (of_kind-miss kind d ds isnt), at_least_one kind ds (and-right d.whole (list_all (λ d. d.whole) ds) w) (sym (ap (λ b. b || has_kind kind ds) other) ∙ has))
    ]
  where
    not_same : (a b : ℕ) → (a ≡ b → ⊥) → (a == b) ≡ false
    not_same a b e = grind (arith, nat_tests)

exactly_one : (n : ℕ) → 0 < n → n ≤ 1 → (n == 1) ≡ true
exactly_one n p q = grind (arith, nat_tests)

at_most : (n : ℕ) → n ≤ 1 → nat_le n 1 ≡ true
at_most n q = grind (arith, nat_tests)

-- ---- the bytes of whole descriptors

abbrev pub is_sized : Descriptor → Bool
is_sized d = length d.content + 2 == 4 * d.words && nat_lt 0 d.words

sized_if : (n words : ℕ) → n + 2 ≡ 4 * words → 0 < words → (n + 2 == 4 * words && nat_lt 0 words) ≡ true
sized_if n words e pos = grind (arith, nat_tests)

abbrev Spells : ℕ → List ℕ → Type 0
Spells at l = (flat_map descriptor_bytes (listed at l) ≡ l) × (list_all is_sized (listed at l) ≡ true)

spells_nil : (at : ℕ) → Spells at []
spells_nil at = (ap (flat_map descriptor_bytes) (listed-nil at), ap (list_all is_sized) (listed-nil at))

not_short : (at kind : ℕ) (l : List ℕ) → fits l ≡ false → list_all (λ d. d.whole) (listed at (kind ∷ l)) ≡ true → ⊥
not_short at kind l unfit whole = let e = ap (list_all (λ d. d.whole)) (listed-unfit at kind l unfit) in cc

spells_whole : (at kind words : ℕ) (r : List ℕ) → fits (words ∷ r) ≡ true → list_all (λ d. d.whole) (listed at (kind ∷ words ∷ r)) ≡ true
    → ((at : ℕ) (l : List ℕ) → length l ≤ length r → list_all (λ d. d.whole) (listed at l) ≡ true → Spells at l) → Spells at (kind ∷ words ∷ r)
spells_whole at kind words r fit whole rest =
    let m = fits-means (words ∷ r) fit in
    let k = 4 * words - 2 in
    let room : k ≤ length r = omega arith in
    let d : Descriptor = record { at = at; kind = kind; words = words; content = take k r; whole = true } in
    let one = listed-whole (kind ∷ words ∷ r) (take k r) (drop k r) (omega arith) m.0 (omega arith) refl refl at in
    let ih = rest (at + 4 * words) (drop k r) (omega (arith, length-drop k r)) (sym (ap (list_all (λ d. d.whole)) one) ∙ whole) in
    let size : length (take k r) + 2 ≡ 4 * words = omega (arith, length-take-le k r room) in (
      ap (flat_map descriptor_bytes) one ∙ ap (λ b. descriptor_bytes d ++ b) ih.0 ∙ ap (λ b. kind ∷ words ∷ b) (take-append-drop k r),
      ap (list_all is_sized) one ∙ ap (λ b. b && list_all is_sized (listed (at + 4 * words) (drop k r))) (sized_if (length (take k r)) words size m.0) ∙ ih.1,
    )

spells_by : (n at : ℕ) (l : List ℕ) → length l ≤ n → list_all (λ d. d.whole) (listed at l) ≡ true → Spells at l
spells_by n at [] le whole = spells_nil at
spells_by zero at (kind ∷ l) le whole = absurd (omega arith)
spells_by (suc n) at (kind ∷ []) le whole = absurd (not_short at kind [] refl whole)
spells_by (suc n) at (kind ∷ words ∷ r) le whole =
    elim (cases_Bool (fits (words ∷ r))) as (λ _. Spells at (kind ∷ words ∷ r)) [
      | inl fit ↦ spells_whole at kind words r fit whole (λ at l short whole. spells_by n at l (omega arith) whole)
      | inr unfit ↦ absurd (not_short at kind (words ∷ r) unfit whole)
    ]

-- ---- the body

enough : (n len : ℕ) → nat_lt len (HEADER + n) ≡ false → HEADER + n ≤ len
enough n len e = grind (arith, nat_tests)

version_is : (v : ℕ) → (v == 1) ≡ true → v ≡ 1
version_is v e = grind (arith, nat_tests)

grammar_of : (m : Fip) (l : List ℕ) (name : Name) → version_of l ≡ 1 → name_of (operation_of l) (subcode_of l) ≡ Some name → HEADER + list_length l ≤ length l
    → first_fault name [] (listed HEADER (list_of l)) ≡ None → missing name (listed HEADER (list_of l)) ≡ None → message_of name (flags_of l) (listed HEADER (list_of l)) ≡ m → IsFip m l
grammar_of m l name version row room first absent says =
    let ds = listed HEADER (list_of l) in
    let n = list_length l in
    let whole = all_whole name [] ds first in
    let spells = spells_by (length (list_of l)) HEADER (list_of l) (omega arith) whole in
    let one = λ (k : ℕ) (among : list_any (λ x. x == k) (required name) ≡ true). exactly_one (length (of_kind k ds)) (at_least_one k ds whole (present_in (λ j. has_kind j ds) k (required name) absent among)) (at_most_one name k (required_in_row name k among) [] ds first) in
    let most = λ (k : ℕ) (among : list_any (λ x. x == k) (optional name) ≡ true). at_most (length (of_kind k ds)) (at_most_one name k (optional_in_row name k among) [] ds first) in
    record {
      name = name;
      descs = ds;
      more = drop n (drop HEADER l);
      version = version;
      row = row;
      bytes = sym (ap (λ b. b ++ drop n (drop HEADER l)) spells.0 ∙ take-append-drop n (drop HEADER l));
      count = ap length spells.0 ∙ length-take-le n (drop HEADER l) (omega (arith, length-drop HEADER l));
      whole = AllPass-from_list_all (λ d. d.whole) ds whole;
      sizes = AllPass-from_list_all is_sized ds spells.1;
      known = AllPass-from_list_all (λ d. may_be_skipped d.kind || words_fit d.kind d.words) ds (all_known name [] ds first);
      required_once = AllPass-from_list_all (λ kind. length (of_kind kind ds) == 1) (required name) (all_from (λ kind. length (of_kind kind ds) == 1) (required name) one);
      optional_once = AllPass-from_list_all (λ kind. nat_le (length (of_kind kind ds)) 1) (optional name) (all_from (λ kind. nat_le (length (of_kind kind ds)) 1) (optional name) most);
      says = says;
    }

-- what is decoded is in the grammar
pub IsFip-from_decoded : (m : Fip) (l : List ℕ) → decoded l ≡ Ok m → IsFip m l
unfolding decoded listed
IsFip-from_decoded m l e =
    let t = ladder_ok (nat_lt (length l) HEADER) (version_of l == 1) (name_of (operation_of l) (subcode_of l)) (nat_lt (length l) (HEADER + list_length l)) (λ name. decoded_list name l) m e in
    let ds = listed HEADER (list_of l) in
    let f = ending_ok (first_fault t.0 [] ds) (missing t.0 ds) (message_of t.0 (flags_of l) ds) m t.5 in
    grammar_of m l t.0 (version_is (version_of l) t.2) t.3 (enough (list_length l) (length l) t.4) f.0 f.1 f.2
