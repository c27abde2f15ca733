-- A journal of format 1, rewritten line by line.
use Rattle.std.proofs.Common.{◌≡◌, ℕ, ◌+◌, ◌<◌, ◌≤◌, Bool, true, false, List, [], ◌∷◌, ◌++◌, length, length-append, Option, Some, None, Ok, Err, refl, sym, ◌∙◌, ap, subst, append-nil, append_assoc, arith}
use Rattle.std.specs.Prelude.{◌==◌}
use Rattle.std.specs.Io.BufRead.{take_through}
use Rattle.fab_policy.specs.Spelling.{IsClockOf, EndsAscend, IsRangedLine, line_text}
use Rattle.fab_policy.specs.Text.{head_line, line}
use Rattle.fab_policy.specs.declared.event.Event.{Event}
use Rattle.fab_policy.specs.declared.event.Event.TheVariants as event
use Rattle.fab_policy.specs.declared.line.Format.TheVariants.{One, Two}
use Rattle.fab_policy.specs.declared.line.Line.{Line}
use Rattle.fab_policy.specs.declared.line.Line.TheVariants.{Tick, Frame}
use Rattle.fab_migrate.specs.Old.{lines_text, clock_after, clock_behind, MayCome, AllCome, clocked, all_clocked, new_text, HasFirstFault}
use Rattle.fab_migrate.specs.OldWords.{AddsLine, Rewrites, entry_of, old_fault_by}
use Rattle.fab_migrate.specs.declared.old.OldWhy.{OldWhy}
use Rattle.fab_migrate.specs.declared.old.OldWhy.TheVariants as why
use Rattle.fab_migrate.specs.declared.old.Refused.{Refused}
use Rattle.fab_migrate.specs.declared.old.Refused.TheVariants as refused
use Rattle.fab_migrate.specs.declared.old.Rewritten.{Rewritten}
use Rattle.fab_migrate.proofs.OldLineLemmas.{line_through, text_push, behind_push, come_push, clocked_push, length_push}

-- what stands for the loop: the lines so far, what is left, and what they are in format 2
pub record OldSoFar (text rest out : List ℕ) (clock : Option ℕ) (count : ℕ) : Type 0 where
  pub before : List Line
  pub spelled : text ≡ lines_text One before ++ rest
  pub come : AllCome None before
  pub clock_ : clock ≡ clock_behind None before
  pub counted : count ≡ length before
  pub rewritten : out ≡ new_text before
  pub bound : count + length rest ≤ length text

pub old_none : (text out : List ℕ) → out ≡ [] ++ head_line → OldSoFar text text out None 0
old_none text out is = record { before = []; spelled = refl; come = tt; clock_ = refl; counted = refl; rewritten = is ∙ sym (append-nil head_line); bound = omega arith }

pub old_ended : (text rest : List ℕ) (clock : Option ℕ) (r : Rewritten) → OldSoFar text rest r.text.items clock r.entries → rest ≡ [] → Rewrites text (Ok r)
old_ended text rest clock r so end =
    (so.before, record { spelled = so.spelled ∙ ap (λ l. lines_text One so.before ++ l) end ∙ append-nil (lines_text One so.before); come = so.come }, so.rewritten, so.counted)

-- ---- the entry of a line

same_tick : (t m : ℕ) → Some m ≡ Some t → t ≡ m
same_tick t m e = cc

pub entry_clock : (clock : Option ℕ) (l : Line) (t : ℕ) (e : Event) → e ≡ entry_of l → clock_after clock l ≡ Some t → IsClockOf t e
entry_clock clock (Tick m ended) t e is at = subst (IsClockOf t) (sym is) (same_tick t m at)
entry_clock clock (Frame port index v c) t e is at = subst (IsClockOf t) (sym is) tt

pub entry_ascends : (l : Line) (e : Event) → e ≡ entry_of l → IsRangedLine One l → EndsAscend e
entry_ascends (Tick m ended) e is ranged = subst EndsAscend (sym is) ranged.1
entry_ascends (Frame port index v c) e is ranged = subst EndsAscend (sym is) tt

-- its line in format 2
pub entry_line : (clock : Option ℕ) (l : Line) (t : ℕ) (e : Event) → e ≡ entry_of l → clock_after clock l ≡ Some t → line t e ≡ line_text Two (clocked clock l)
entry_line clock (Tick m ended) t e is at = ap (line t) is ∙ ap (λ (n : ℕ). line n (event.Tick m ended)) (same_tick t m at)
entry_line clock (Frame port index v c) t e is at = ap (line t) is ∙ ap (λ (x : Option ℕ). line_text Two (Frame port index v x)) (sym at)

-- ---- the lines so far

module _ (text rest out : List ℕ) (clock : Option ℕ) (count : ℕ) (so : OldSoFar text rest out clock count) where
  module _ (line behind : List ℕ) (cut : line ++ behind ≡ rest) (first : line ≡ take_through 10 rest) where
    -- one line more
    pub old_more : (t : ℕ) (more : List ℕ) → 0 < length line → AddsLine clock line out more (Ok t) → OldSoFar text behind more (Some t) (count + 1)
    old_more t more some adds =
        let l = adds.0 in
        let at = so.clock_ in
        let may : MayCome (clock_behind None so.before) l = subst (λ c. MayCome c l) at adds.2 in
        let whole : text ≡ lines_text One (so.before ++ l ∷ []) ++ behind =
        so.spelled ∙ ap (λ t. lines_text One so.before ++ t) (sym cut) ∙ ap (λ t. lines_text One so.before ++ (t ++ behind)) adds.1.spelled
        ∙ sym (append_assoc (lines_text One so.before) (line_text One l) behind) ∙ ap (λ t. t ++ behind) (sym (text_push One so.before l)) in
        record {
          before = so.before ++ l ∷ [];
          spelled = whole;
          come = come_push None so.before l so.come adds.1.ranged may;
          clock_ = sym adds.3 ∙ ap (λ c. clock_after c l) at ∙ sym (behind_push None so.before l);
          counted = ap (λ (n : ℕ). n + 1) so.counted ∙ sym (length_push so.before l);
          rewritten = adds.4 ∙ ap (λ t. t ++ line_text Two (clocked clock l)) so.rewritten
              ∙ append_assoc head_line (lines_text Two (all_clocked None so.before)) (line_text Two (clocked clock l))
              ∙ ap (λ c. head_line ++ (lines_text Two (all_clocked None so.before) ++ line_text Two (clocked c l))) at
              ∙ ap (λ t. head_line ++ t) (sym (text_push Two (all_clocked None so.before) (clocked (clock_behind None so.before) l)))
              ∙ ap (λ ls. head_line ++ lines_text Two ls) (sym (clocked_push None so.before l));
          bound = let sizes = ap length cut in omega (arith, sizes, length-append line behind, so.bound);
        }

    -- the first fault
    old_text_fault : (more : List ℕ) (number : ℕ) → number ≡ count + 1 → 0 < length line → AddsLine clock line out more (Err (refused.Fault why.Text)) → HasFirstFault text number why.Text
    old_text_fault more number is some none = record {
      before = so.before;
      rest = rest;
      spelled = so.spelled;
      come = so.come;
      numbered = is ∙ ap (λ (n : ℕ). n + 1) so.counted;
      faulty = (
        λ end. let empty = first ∙ ap (take_through 10) end in let size = ap length empty in absurd (omega (arith, size, some)),
        λ l behind ranged e. none l (record { ranged = ranged; spelled = first ∙ ap (take_through 10) e ∙ line_through l behind ranged }),
      );
    }

    old_tick_fault : (more : List ℕ) (number : ℕ) → number ≡ count + 1 → AddsLine clock line out more (Err (refused.Fault why.Tick)) → HasFirstFault text number why.Tick
    old_tick_fault more number is none = record {
      before = so.before;
      rest = rest;
      spelled = so.spelled;
      come = so.come;
      numbered = is ∙ ap (λ (n : ℕ). n + 1) so.counted;
      faulty = (none.0, behind, none.1.ranged, sym cut ∙ ap (λ t. t ++ behind) none.1.spelled, λ may. none.2 (subst (λ c. MayCome c none.0) (sym so.clock_) may));
    }

    old_fault : (more : List ℕ) (number : ℕ) (w : OldWhy) → number ≡ count + 1 → 0 < length line → AddsLine clock line out more (Err (refused.Fault w)) → HasFirstFault text number w
    old_fault more number why.Text is some none = old_text_fault more number is some none
    old_fault more number why.Tick is some none = old_tick_fault more number is none

    -- however a line is refused, the reading ends as that says
    pub old_refused : (more : List ℕ) (number : ℕ) (x : Refused) → number ≡ count + 1 → 0 < length line → AddsLine clock line out more (Err x) → Rewrites text (Err (old_fault_by x number))
    old_refused more number (refused.Fault w) is some adds = old_fault more number w is some adds
    old_refused more number refused.Memory is some adds = tt

pub some_left : (l : List ℕ) (b : Bool) → b ≡ (length l == 0) → b ≡ false → 0 < length l
some_left [] b is empty = let all : b ≡ true = is in absurd (cc)
some_left (x ∷ l) b is empty = omega arith
