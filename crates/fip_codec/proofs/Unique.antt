-- A body in the grammar is decoded as its message, so a body has one message at most.
use Rattle.std.proofs.Common.{◌≡◌, ℕ, ◌+◌, ◌<◌, ◌≤◌, ◌⊎◌, inl, inr, Bool, true, false, cond, not, nat_lt, nat_le, ◌&&◌, ◌||◌, ◌==◌, if◌then◌else◌, List, [], ◌∷◌, ◌++◌, length, take, Option, Some, None, Result, Ok, refl, sym, ap, ◌∙◌, subst, arith, length-drop, length-append, append_assoc, take_at}
use Rattle.std.specs.List.{list_all, list_any, flat_map, find}
use Rattle.std.specs.Option.{option_map}
use Rattle.std.proofs.lemmas.Bool.{cases_Bool, cases_eq, false≢true}
use Rattle.std.proofs.lemmas.Bool.Decides.{nat_tests}
use Rattle.std.proofs.lemmas.List.Folds.{list_any-append, list_all-append}
use Rattle.std.proofs.lemmas.List.Elements.{filter-append}
use Rattle.std.proofs.lemmas.List.Sums.{list_all-from_AllPass}
use Rattle.fip_codec.specs.Fip.{HEADER, Descriptor, Name, Solicitation, Advertisement, Request, Reply, KeepAlive, ClearLinks, VlanRequest, VlanNotification, version_of, operation_of, subcode_of, name_of, list_of, list_length, flags_of, may_be_skipped, in_table, words_fit, stands_once, family, of_kind, required, optional}
use Rattle.fip_codec.specs.Message.{Fip}
use Rattle.fip_codec.specs.Reading.{decoded, decoded_list, fault_of, first_fault, has_kind, missing, message_of, descriptor_bytes, IsFip}
use Rattle.fip_codec.specs.Walk.{listed}
use Rattle.fip_codec.specs.declared.fault.FipFault.{FipFault}
use Rattle.fip_codec.specs.declared.fault.FipFault.TheVariants.{Missing}
use Rattle.fip_codec.proofs.Sound.{and-left, and-right}
use Rattle.fip_codec.proofs.Typed.{of_kind-hit, of_kind-miss}
use Rattle.fip_codec.proofs.Walks.{first_fault-cons}
use Rattle.fip_codec.proofs.Grammar.{ladder, ending, is_sized, is_in_row, same_kind, or_true, at_least_one}
use Rattle.fip_codec.proofs.Placed.{placed, listed-spelled, has_kind-placed, whole-placed, known-placed, length-placed, message_of-placed}

table_by : (k w : ℕ) → words_fit k w ≡ true → in_table k ≡ true
table_by k w e = grind (arith, nat_tests)

clear_by : (whole skip table fit once : Bool) (v x y z : FipFault) → whole ≡ true → (skip || fit) ≡ true → (fit ≡ true → table ≡ true) → once ≡ false
    → (if not whole then Some v else (if skip then None else (if not table then Some x else (if not fit then Some y else (if once then Some z else None))))) ≡ None
clear_by false skip table fit once v x y z w k t o = cc
clear_by true true table fit once v x y z w k t o = refl
clear_by true false true true false v x y z w k t o = refl
clear_by true false true true true v x y z w k t o = cc
clear_by true false true false once v x y z w k t o = cc
clear_by true false false true once v x y z w k t o = absurd (false≢true (t refl))
clear_by true false false false once v x y z w k t o = cc

fault_none : (name : Name) (before : List Descriptor) (d : Descriptor) → d.whole ≡ true → (may_be_skipped d.kind || words_fit d.kind d.words) ≡ true
    → (is_in_row name (family d.kind) ≡ true → has_kind (family d.kind) before ≡ false) → fault_of name before d ≡ None
fault_none name before d w k o =
    clear_by d.whole (may_be_skipped d.kind) (in_table d.kind) (words_fit d.kind d.words) (stands_once name d.kind && has_kind (family d.kind) before) _ _ _ _ w k (table_by d.kind d.words) (once (stands_once name d.kind) refl)
  where
    once : (b : Bool) → b ≡ is_in_row name (family d.kind) → (b && has_kind (family d.kind) before) ≡ false
    once true is = o (sym is)
    once false is = refl

-- no type of the row stands twice
abbrev Once : Name → List Descriptor → Type 0
Once name ds = (k : ℕ) → is_in_row name k ≡ true → length (of_kind k ds) ≤ 1

not_before : (name : Name) (before : List Descriptor) (d : Descriptor) (ds : List Descriptor) → list_all (λ d. d.whole) before ≡ true → d.whole ≡ true → Once name (before ++ d ∷ ds)
    → is_in_row name (family d.kind) ≡ true → has_kind (family d.kind) before ≡ false
not_before name before d ds wb w once in_row =
    elim (cases_Bool (has_kind (family d.kind) before)) as (λ _. has_kind (family d.kind) before ≡ false) [
      | inl has ↦
          let k = family d.kind in
          absurd (omega (arith, once k in_row, at_least_one k before wb has, ap length (filter-append (λ e. family e.kind == k && e.whole) before (d ∷ ds)), length-append (of_kind k before) (of_kind k (d ∷ ds)), ap length (of_kind-hit k d ds refl w)))
      | inr hasnt ↦ hasnt
    ]

no_fault : (name : Name) (before ds : List Descriptor) → list_all (λ d. d.whole) before ≡ true → list_all (λ d. d.whole) ds ≡ true → list_all (λ d. may_be_skipped d.kind || words_fit d.kind d.words) ds ≡ true
    → Once name (before ++ ds) → first_fault name before ds ≡ None
no_fault name before [] wb w known once = refl
no_fault name before (d ∷ ds) wb w known once =
    let one = and-left d.whole (list_all (λ d. d.whole) ds) w in
    let none = fault_none name before d one (and-left (may_be_skipped d.kind || words_fit d.kind d.words) _ known) (not_before name before d ds wb one once) in
    first_fault-cons name before d ds None none
    ∙ no_fault name (before ++ d ∷ []) ds (list_all-append (λ d. d.whole) before (d ∷ []) ∙ ap (λ b. b && (d.whole && true)) wb ∙ ap (λ b. b && true) one)
    (and-right d.whole (list_all (λ d. d.whole) ds) w) (and-right (may_be_skipped d.kind || words_fit d.kind d.words) _ known)
    (λ k in_row. subst (λ m. length (of_kind k m) ≤ 1) (sym (append_assoc before (d ∷ []) ds)) (once k in_row))

-- ---- what stands exactly once is there

has_from_some : (k : ℕ) (ds : List Descriptor) → 0 < length (of_kind k ds) → has_kind k ds ≡ true
has_from_some k [] pos = absurd (omega arith)
has_from_some k (d ∷ ds) pos =
    elim (cases_eq (family d.kind) k) as (λ _. has_kind k (d ∷ ds) ≡ true) [
      | inl is ↦ ap (λ j. j == k || has_kind k ds) is ∙ ap (λ b. b || has_kind k ds) (same_kind k)
      | inr isnt ↦ ap (λ b. (family d.kind == k) || b) (has_from_some k ds (omega (arith, ap length (of_kind-miss k d ds isnt)))) ∙ or_true (family d.kind == k)
    ]

all_here : (p : ℕ → Bool) (kinds : List ℕ) (k : ℕ) → list_all p kinds ≡ true → list_any (λ x. x == k) kinds ≡ true → p k ≡ true
all_here p [] k all among = cc
all_here p (x ∷ kinds) k all among = by_first (x == k) refl (all_here p kinds k (and-right (p x) (list_all p kinds) all)) among
  where
    equal : (a b : ℕ) → true ≡ (a == b) → a ≡ b
    equal a b e = grind (arith, nat_tests)

    by_first : (b : Bool) → b ≡ (x == k) → (list_any (λ x. x == k) kinds ≡ true → p k ≡ true) → (b || list_any (λ x. x == k) kinds) ≡ true → p k ≡ true
    by_first true is rest among = ap p (sym (equal x k is)) ∙ and-left (p x) (list_all p kinds) all
    by_first false is rest among = rest among

none_missing : (p : ℕ → Bool) (kinds : List ℕ) → ((k : ℕ) → list_any (λ x. x == k) kinds ≡ true → p k ≡ true) → find (λ k. not (p k)) kinds ≡ None
none_missing p [] h = refl
none_missing p (k ∷ kinds) h =
    ap (λ b. cond (not b) (Some k) (find (λ k. not (p k)) kinds)) (h k (ap (λ b. b || list_any (λ x. x == k) kinds) (same_kind k)))
    ∙ none_missing p kinds (λ j among. h j (ap (λ b. (k == j) || b) among ∙ or_true (k == j)))

equal_one : (n : ℕ) → (n == 1) ≡ true → n ≡ 1
equal_one n e = grind (arith, nat_tests)

most_one : (n : ℕ) → nat_le n 1 ≡ true → n ≤ 1
most_one n e = grind (arith, nat_tests)

either : (a b : Bool) → (a || b) ≡ true → (a ≡ true) ⊎ (b ≡ true)
either true b e = inl refl
either false b e = inr e

once_of : (name : Name) (ds : List Descriptor) → list_all (λ kind. length (of_kind kind ds) == 1) (required name) ≡ true → list_all (λ kind. nat_le (length (of_kind kind ds)) 1) (optional name) ≡ true → Once name ds
once_of name ds one most k in_row =
    elim (either (list_any (λ j. j == k) (required name)) (list_any (λ j. j == k) (optional name)) (sym (list_any-append (λ j. j == k) (required name) (optional name)) ∙ in_row)) as (λ _. length (of_kind k ds) ≤ 1) [
      | inl is ↦ omega (arith, equal_one (length (of_kind k ds)) (all_here (λ kind. length (of_kind kind ds) == 1) (required name) k one is))
      | inr is ↦ most_one (length (of_kind k ds)) (all_here (λ kind. nat_le (length (of_kind kind ds)) 1) (optional name) k most is)
    ]

no_message : (name : Name) → list_all (λ kind. length (of_kind kind []) == 1) (required name) ≡ true → ⊥
no_message Solicitation e = cc
no_message Advertisement e = cc
no_message Request e = cc
no_message Reply e = cc
no_message KeepAlive e = cc
no_message ClearLinks e = cc
no_message VlanRequest e = cc
no_message VlanNotification e = cc

some_bytes : (name : Name) (ds : List Descriptor) → list_all (λ kind. length (of_kind kind ds) == 1) (required name) ≡ true → 0 < length (flat_map descriptor_bytes ds)
some_bytes name [] one = absurd (no_message name one)
some_bytes name (d ∷ ds) one = omega arith

-- ---- the body

run : (short version : Bool) (row : Option Name) (long : Bool) (name : Name) (rest : Name → Result Fip FipFault) → short ≡ false → version ≡ true → row ≡ Some name → long ≡ false → ladder short version row long rest ≡ rest name
run true version row long name rest s v r g = cc
run false false row long name rest s v r g = cc
run false true None long name rest s v r g = cc
run false true (Some other) true name rest s v r g = cc
run false true (Some other) false name rest s v r g = ap rest (let same : other ≡ name = cc in same)

long_enough : (n k : ℕ) → k ≤ n → nat_lt n k ≡ false
long_enough n k le = grind (arith, nat_tests)

-- what is in the grammar is decoded so
pub decoded-from_IsFip : (m : Fip) (l : List ℕ) → IsFip m l → decoded l ≡ Ok m
unfolding decoded listed
decoded-from_IsFip m l is =
    let ds = is.descs in
    let flat = flat_map descriptor_bytes ds in
    let whole = list_all-from_AllPass (λ d. d.whole) ds is.whole in
    let size = list_all-from_AllPass is_sized ds is.sizes in
    let known = list_all-from_AllPass (λ d. may_be_skipped d.kind || words_fit d.kind d.words) ds is.known in
    let one = list_all-from_AllPass (λ kind. length (of_kind kind ds) == 1) (required is.name) is.required_once in
    let most = list_all-from_AllPass (λ kind. nat_le (length (of_kind kind ds)) 1) (optional is.name) is.optional_once in
    let long : HEADER + list_length l ≤ length l = omega (arith, some_bytes is.name ds one, is.count, ap length is.bytes, length-drop HEADER l, length-append flat is.more) in
    let list_is : list_of l ≡ flat = ap (take (list_length l)) is.bytes ∙ take_at flat is.more (list_length l) is.count in
    let there : listed HEADER (list_of l) ≡ placed HEADER ds = ap (listed HEADER) list_is ∙ listed-spelled HEADER ds whole size in
    let first : first_fault is.name [] (listed HEADER (list_of l)) ≡ None =
    ap (first_fault is.name []) there ∙ no_fault is.name [] (placed HEADER ds) refl (whole-placed HEADER ds ∙ whole) (known-placed HEADER ds ∙ known)
    (λ k in_row. subst (λ n. n ≤ 1) (sym (length-placed k HEADER ds)) (once_of is.name ds one most k in_row)) in
    let present = λ (k : ℕ) (among : list_any (λ x. x == k) (required is.name) ≡ true).
    has_kind-placed k HEADER ds ∙ has_from_some k ds (omega (arith, equal_one (length (of_kind k ds)) (all_here (λ kind. length (of_kind kind ds) == 1) (required is.name) k one among))) in
    let absent : missing is.name (listed HEADER (list_of l)) ≡ None =
    ap (missing is.name) there ∙ ap (option_map (λ kind. Missing kind)) (none_missing (λ k. has_kind k (placed HEADER ds)) (required is.name) present) in
    let says : message_of is.name (flags_of l) (listed HEADER (list_of l)) ≡ m = ap (message_of is.name (flags_of l)) there ∙ message_of-placed HEADER ds is.name (flags_of l) ∙ is.says in
    run (nat_lt (length l) HEADER) (version_of l == 1) (name_of (operation_of l) (subcode_of l)) (nat_lt (length l) (HEADER + list_length l)) is.name (λ name. decoded_list name l)
    (long_enough (length l) HEADER (omega arith)) (ap (λ v. v == 1) is.version) is.row (long_enough (length l) (HEADER + list_length l) long)
    ∙ ap (λ f. ending f (missing is.name (listed HEADER (list_of l))) (message_of is.name (flags_of l) (listed HEADER (list_of l)))) first
    ∙ ap (λ a. ending None a (message_of is.name (flags_of l) (listed HEADER (list_of l)))) absent ∙ ap Ok says

pub one_message : (m n : Fip) (l : List ℕ) → IsFip m l → IsFip n l → m ≡ n
one_message m n l p q = let same = sym (decoded-from_IsFip m l p) ∙ decoded-from_IsFip n l q in cc
