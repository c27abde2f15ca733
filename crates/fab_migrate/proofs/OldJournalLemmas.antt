-- What the text of a journal in format 1 is migrated to.
use Rattle.std.proofs.Common.{◌≡◌, ℕ, List, [], ◌∷◌, ◌++◌, length, Option, Some, None, refl, sym, ◌∙◌, ap, append_assoc, arith}
use Rattle.std.specs.List.{AllByRecursion}
use Rattle.fab_policy.specs.Journal.{Journal, clock, now}
use Rattle.fab_policy.specs.Ranged.{IsRanged, IsRangedEvent}
use Rattle.fab_policy.specs.Spelling.{IsRangedLine, line_of, line_text}
use Rattle.fab_policy.specs.Text.{head_line, line, line1, text, text1}
use Rattle.fab_policy.specs.declared.event.Event.{Event}
use Rattle.fab_policy.specs.declared.event.Event.TheVariants as event
use Rattle.fab_policy.specs.declared.line.Format.TheVariants.{One, Two}
use Rattle.fab_policy.specs.declared.line.Line.{Line}
use Rattle.fab_migrate.specs.OldLaws.{MayFollow, Rises, IsMigratedTo}
use Rattle.fab_migrate.specs.Old.{lines_text, clock_after, clock_behind, MayCome, AllCome, clocked, all_clocked, new_text}
use Rattle.fab_migrate.proofs.OldLineLemmas.{text_push, behind_push, come_push, clocked_push, length_push}
use Rattle.fab_migrate.proofs.OldReadingLemmas.{lines_once, all_ranged}

-- the lines of a journal in format 1
abbrev lines1 : Journal → List Line
lines1 [] = []
lines1 (e ∷ J) = lines1 J ++ line_of One 0 e ∷ []

line1_is : (e : Event) → line1 e ≡ line_text One (line_of One 0 e)
line1_is (event.Tick m ended) = refl
line1_is (event.Frame port index caught v) = refl

text1_is : (J : Journal) → text1 J ≡ lines_text One (lines1 J)
unfolding text1
text1_is [] = refl
text1_is (e ∷ J) = ap (λ t. t ++ line1 e) (text1_is J) ∙ ap (λ t. lines_text One (lines1 J) ++ t) (line1_is e) ∙ sym (text_push One (lines1 J) (line_of One 0 e))

clock_next : (e : Event) (J : Journal) → clock_after (clock J) (line_of One 0 e) ≡ clock (e ∷ J)
clock_next (event.Tick m ended) J = refl
clock_next (event.Frame port index caught v) J = refl

clock_is : (J : Journal) → clock_behind None (lines1 J) ≡ clock J
clock_is [] = refl
clock_is (e ∷ J) = behind_push None (lines1 J) (line_of One 0 e) ∙ ap (λ c. clock_after c (line_of One 0 e)) (clock_is J) ∙ clock_next e J

-- ---- it is a journal of format 1

entry_ranged : (e : Event) → IsRangedEvent e → IsRangedLine One (line_of One 0 e)
entry_ranged (event.Tick m ended) ranged = ranged
entry_ranged (event.Frame port index caught v) ranged = (ranged.0, ranged.1, ranged.2, ranged.4, tt)

ranged_push : (ls : List Line) (l : Line) → AllByRecursion (IsRangedLine One) ls → IsRangedLine One l → AllByRecursion (IsRangedLine One) (ls ++ l ∷ [])
ranged_push [] l all is = (is, tt)
ranged_push (k ∷ ls) l all is = (all.0, ranged_push ls l all.1 is)

lines_ranged : (J : Journal) → IsRanged J → AllByRecursion (IsRangedLine One) (lines1 J)
lines_ranged [] ranged = tt
lines_ranged (e ∷ J) ranged = ranged_push (lines1 J) (line_of One 0 e) (lines_ranged J ranged.0) (entry_ranged e ranged.1)

may_come : (c : Option ℕ) (e : Event) (J : Journal) → c ≡ clock J → MayFollow J e → MayCome c (line_of One 0 e)
may_come None (event.Tick m ended) J is may = tt
may_come (Some t) (event.Tick m ended) J is may = may t (sym is)
may_come None (event.Frame port index caught v) J is may = let both : None ≡ Some may.0 = is ∙ may.1 in absurd (cc)
may_come (Some t) (event.Frame port index caught v) J is may = tt

all_come : (J : Journal) → IsRanged J → Rises J → AllCome None (lines1 J)
all_come [] ranged rises = tt
all_come (e ∷ J) ranged rises = come_push None (lines1 J) (line_of One 0 e) (all_come J ranged.0 rises.0) (entry_ranged e ranged.1) (may_come _ e J (clock_is J) rises.1)

-- ---- its text in format 2

line_is : (e : Event) (J : Journal) → line (now (e ∷ J)) e ≡ line_text Two (clocked (clock J) (line_of One 0 e))
line_is (event.Tick m ended) J = refl
line_is (event.Frame port index caught v) J = refl

new_is : (J : Journal) → new_text (lines1 J) ≡ text J
unfolding text
new_is [] = refl
new_is (e ∷ J) =
    let l = line_of One 0 e in
    ap (λ ls. head_line ++ lines_text Two ls) (clocked_push None (lines1 J) l)
    ∙ ap (λ t. head_line ++ t) (text_push Two (all_clocked None (lines1 J)) (clocked (clock_behind None (lines1 J)) l))
    ∙ sym (append_assoc head_line (lines_text Two (all_clocked None (lines1 J))) (line_text Two (clocked (clock_behind None (lines1 J)) l)))
    ∙ ap (λ t. t ++ line_text Two (clocked (clock_behind None (lines1 J)) l)) (new_is J)
    ∙ ap (λ c. text J ++ line_text Two (clocked c l)) (clock_is J)
    ∙ ap (λ t. text J ++ t) (sym (line_is e J))

count_is : (J : Journal) → length (lines1 J) ≡ length J
count_is [] = refl
count_is (e ∷ J) = let more = length_push (lines1 J) (line_of One 0 e) in let fewer = count_is J in omega arith

pub migrated_to : (J : Journal) → IsRanged J → IsMigratedTo J
migrated_to J ranged = record {
  is_old = λ rises. (lines1 J, record { spelled = text1_is J; come = all_come J ranged rises });
  is_new = λ ls old.
      let same = lines_once ls (lines1 J) (all_ranged None ls old.come) (lines_ranged J ranged) (sym old.spelled ∙ text1_is J) in
      (ap new_text same ∙ new_is J, ap (λ (l : List Line). length l) same ∙ count_is J);
}
