-- The walk over a list: the fault at a place, and the step behind a sound descriptor.
use Rattle.std.proofs.Common.{◌≡◌, ℕ, ◌+◌, ◌*◌, ◌<◌, ◌≤◌, Bool, true, false, not, ◌&&◌, ◌||◌, ◌==◌, nat_lt, if◌then◌else◌, List, [], ◌∷◌, ◌++◌, length, take, drop, Option, Some, None, Result, Ok, Err, IsErrAnd, MatchResult, refl, sym, ap, ◌∙◌, subst, arith, length-take-le, take-add, drop-drop, take_all, length-drop}
use Rattle.std.specs.List.{list_all}
use Rattle.std.proofs.lemmas.Bool.Decides.{nat_tests}
use Rattle.std.proofs.lemmas.List.{drop_all}
use Rattle.std.proofs.lemmas.List.Folds.{list_all-append}
use Rattle.fip_codec.specs.Fip.{HEADER, Descriptor, Name, list_of, flags_of, may_be_skipped, in_table, words_fit, stands_once, family}
use Rattle.fip_codec.specs.Message.{Fip}
use Rattle.fip_codec.specs.Reading.{fault_of, first_fault, has_kind, missing, message_of, decoded_list}
use Rattle.fip_codec.specs.Walk.{listed, broken, is_sound, are_sound, fault_at, lacks, told}
use Rattle.fip_codec.specs.declared.fault.FipFault.{FipFault}
use Rattle.fip_codec.specs.declared.fault.FipFault.TheVariants.{DescLength}
use Rattle.fip_codec.proofs.Listed.{listed-nil}
use Rattle.fip_codec.proofs.Append.{listed-append}

pub first_fault-cons : (name : Name) (before : List Descriptor) (d : Descriptor) (ds : List Descriptor) (fault : Option FipFault) → fault_of name before d ≡ fault
    → first_fault name before (d ∷ ds) ≡ elim fault as (λ _. Option FipFault) [ Some fault ↦ Some fault | None ↦ first_fault name (before ++ d ∷ []) ds ]
first_fault-cons name before d ds fault e = ap (λ o. elim o as (λ _. Option FipFault) [ Some fault ↦ Some fault | None ↦ first_fault name (before ++ d ∷ []) ds ]) e

pub fault_at-broken : (name : Name) (l : List ℕ) (done : ℕ) → listed (HEADER + done) (drop done l) ≡ broken (HEADER + done) (drop done l) ∷ [] → fault_at name l done ≡ Some (DescLength (HEADER + done))
unfolding fault_at
fault_at-broken name l done is = ap (first_fault name (listed HEADER (take done l))) is

pub fault_at-fault : (name : Name) (l : List ℕ) (done : ℕ) (d : Descriptor) (ds : List Descriptor) (fault : FipFault) → listed (HEADER + done) (drop done l) ≡ d ∷ ds
    → fault_of name (listed HEADER (take done l)) d ≡ Some fault → fault_at name l done ≡ Some fault
unfolding fault_at
fault_at-fault name l done d ds fault is e = ap (first_fault name (listed HEADER (take done l))) is ∙ first_fault-cons name (listed HEADER (take done l)) d ds (Some fault) e

known_if : (skip table fit once : Bool) (x y z : FipFault) → (if skip then None else (if not table then Some x else (if not fit then Some y else (if once then Some z else None)))) ≡ None → (skip || fit) ≡ true
known_if true table fit once x y z e = refl
known_if false false fit once x y z e = cc
known_if false true false once x y z e = cc
known_if false true true once x y z e = refl

pub sound_by : (name : Name) (before : List Descriptor) (at kind words : ℕ) (content : List ℕ) → length content + 2 ≡ 4 * words → 0 < words
    → fault_of name before (record { at = at; kind = kind; words = words; content = content; whole = true }) ≡ None → is_sound (record { at = at; kind = kind; words = words; content = content; whole = true }) ≡ true
sound_by name before at kind words content size pos e =
    let known : (may_be_skipped kind || words_fit kind words) ≡ true = known_if (may_be_skipped kind) (in_table kind) (words_fit kind words) (stands_once name kind && has_kind (family kind) before) _ _ _ e in
    let len : (length content + 2 == 4 * words) ≡ true = grind (arith, nat_tests) in
    let some : nat_lt 0 words ≡ true = grind (arith, nat_tests) in
    ap (λ b. b && nat_lt 0 words && (may_be_skipped kind || words_fit kind words)) len ∙ ap (λ b. b && (may_be_skipped kind || words_fit kind words)) some ∙ known

module _ (name : Name) (l : List ℕ) (done size : ℕ) (d : Descriptor) (fits : done + size ≤ length l) (sound : are_sound (take done l) ≡ true) (front : listed (HEADER + done) (take size (drop done l)) ≡ d ∷ []) where
  -- one more
  pub before-more : listed HEADER (take (done + size) l) ≡ listed HEADER (take done l) ++ d ∷ []
  unfolding are_sound
  before-more =
      ap (listed HEADER) (take-add done size l) ∙ listed-append HEADER (take done l) (take size (drop done l)) sound
      ∙ ap (λ n. listed HEADER (take done l) ++ listed (HEADER + n) (take size (drop done l))) (length-take-le done l (omega arith))
      ∙ ap (λ ds. listed HEADER (take done l) ++ ds) front

  pub sound-more : is_sound d ≡ true → are_sound (take (done + size) l) ≡ true
  unfolding are_sound
  sound-more one =
      ap (list_all is_sound) before-more ∙ list_all-append is_sound (listed HEADER (take done l)) (d ∷ [])
      ∙ ap (λ b. b && (is_sound d && true)) sound ∙ ap (λ b. b && true) one

  pub fault_at-on : listed (HEADER + done) (drop done l) ≡ d ∷ listed (HEADER + done + size) (drop size (drop done l)) → fault_of name (listed HEADER (take done l)) d ≡ None → fault_at name l done ≡ fault_at name l (done + size)
  unfolding fault_at
  fault_at-on is e =
      ap (first_fault name (listed HEADER (take done l))) is ∙ first_fault-cons name (listed HEADER (take done l)) d (listed (HEADER + done + size) (drop size (drop done l))) None e
      ∙ ap (λ before. first_fault name before (listed (HEADER + done + size) (drop size (drop done l)))) (sym before-more)
      ∙ ap (λ m. first_fault name (listed HEADER (take (done + size) l)) (listed (HEADER + done + size) m)) (drop-drop size done l)
      ∙ ap (λ at. first_fault name (listed HEADER (take (done + size) l)) (listed at (drop (done + size) l))) (let place : HEADER + done + size ≡ HEADER + (done + size) = omega arith in place)

-- the same of what the code cuts a list into
module _ (name : Name) (l before rest : List ℕ) (done : ℕ) (is_before : before ≡ take done l) (is_rest : rest ≡ drop done l) where
  pub step-broken : listed (HEADER + done) rest ≡ broken (HEADER + done) rest ∷ [] → fault_at name l done ≡ Some (DescLength (HEADER + done))
  step-broken is = fault_at-broken name l done (subst (λ (m : List ℕ). listed (HEADER + done) m ≡ broken (HEADER + done) m ∷ []) is_rest is)

  pub step-fault : (d : Descriptor) (ds : List Descriptor) (fault : FipFault) → listed (HEADER + done) rest ≡ d ∷ ds → fault_of name (listed HEADER before) d ≡ Some fault → fault_at name l done ≡ Some fault
  step-fault d ds fault is e =
      fault_at-fault name l done d ds fault (sym (ap (listed (HEADER + done)) is_rest) ∙ is) (sym (ap (λ m. fault_of name (listed HEADER m) d) is_before) ∙ e)

  module _ (d : Descriptor) (more : List ℕ) (size : length d.content + 2 ≡ 4 * d.words) (pos : 0 < d.words) (whole : d.whole ≡ true) (fits : 4 * d.words ≤ length rest) (within : done ≤ length l) (sound : are_sound (take done l) ≡ true)
      (front : listed (HEADER + done) (take (4 * d.words) rest) ≡ d ∷ []) (clear : fault_of name (listed HEADER before) d ≡ None) where
    room : done + 4 * d.words ≤ length l
    room = omega (arith, ap length is_rest, length-drop done l)

    alone : listed (HEADER + done) (take (4 * d.words) (drop done l)) ≡ d ∷ []
    alone = sym (ap (λ m. listed (HEADER + done) (take (4 * d.words) m)) is_rest) ∙ front

    clear_there : fault_of name (listed HEADER (take done l)) d ≡ None
    clear_there = sym (ap (λ m. fault_of name (listed HEADER m) d) is_before) ∙ clear

    pub step-on : listed (HEADER + done) rest ≡ d ∷ listed (HEADER + done + 4 * d.words) more → more ≡ drop (4 * d.words) rest → fault_at name l done ≡ fault_at name l (done + 4 * d.words)
    step-on is is_more =
        fault_at-on name l done (4 * d.words) d room sound alone
        (sym (ap (listed (HEADER + done)) is_rest) ∙ is ∙ ap (λ m. d ∷ listed (HEADER + done + 4 * d.words) m) (is_more ∙ ap (drop (4 * d.words)) is_rest)) clear_there

    pub step-sound : is_sound d ≡ true → are_sound (take (done + 4 * d.words) l) ≡ true
    step-sound one = sound-more name l done (4 * d.words) d room sound alone one

pub fault_at-end : (name : Name) (l : List ℕ) (done : ℕ) → length l ≤ done → fault_at name l done ≡ None
unfolding fault_at
fault_at-end name l done le =
    ap (λ m. first_fault name (listed HEADER (take done l)) (listed (HEADER + done) m)) (drop_all done l le) ∙ ap (first_fault name (listed HEADER (take done l))) (listed-nil (HEADER + done))

pub sound_none : (l : List ℕ) → are_sound (take 0 l) ≡ true
unfolding are_sound
sound_none l = ap (list_all is_sound) (listed-nil HEADER)

pub sound_all : (l : List ℕ) (done : ℕ) → length l ≤ done → are_sound (take done l) ≡ true → are_sound l ≡ true
sound_all l done le sound = ap are_sound (sym (take_all done l le)) ∙ sound

-- ---- the whole of it

abbrev outcome : Name → ℕ → List ℕ → Option FipFault → Option FipFault → Result Fip FipFault
outcome name flags l first absent = elim first [ Some fault ↦ Err fault | None ↦ elim absent [ Some fault ↦ Err fault | None ↦ Ok (message_of name flags (listed HEADER l)) ] ]

pub decoded_list-is : (name : Name) (body l : List ℕ) (flags : ℕ) (first absent : Option FipFault) → l ≡ list_of body → flags ≡ flags_of body → fault_at name l 0 ≡ first → lacks name l ≡ absent
    → decoded_list name body ≡ outcome name flags l first absent
unfolding fault_at lacks listed
decoded_list-is name body l flags first absent is_l is_flags e f =
    ap (λ o. outcome name (flags_of body) (list_of body) o (missing name (listed HEADER (list_of body)))) (ap (λ m. fault_at name m 0) (sym is_l) ∙ e)
    ∙ ap (outcome name (flags_of body) (list_of body) first) (ap (lacks name) (sym is_l) ∙ f)
    ∙ ap (λ m. outcome name (flags_of body) m first absent) (sym is_l)
    ∙ ap (λ n. outcome name n l first absent) (sym is_flags)

pub told-is : (name : Name) (flags : ℕ) (l : List ℕ) → told name flags l ≡ message_of name flags (listed HEADER l)
unfolding told
told-is name flags l = refl

-- an error that is handed on
pub err_by : {A E : Type 0} (r : Result A E) (x : E) (P : A → Type 0) (Q : E → Type 0) → IsErrAnd r (λ y. y ≡ x) → Q x → MatchResult r P Q
err_by (Ok a) x P Q h q = elim h [ ]
err_by (Err y) x P Q h q = subst Q (sym h) q
