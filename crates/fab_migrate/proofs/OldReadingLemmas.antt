-- A text of format 1 has one list of lines, or one first fault.
use Rattle.std.proofs.Common.{◌≡◌, ℕ, ◌+◌, List, [], ◌∷◌, ◌++◌, length, Option, None, refl, sym, ◌∙◌, ap, subst, append-nil, append_assoc}
use Rattle.std.specs.List.{AllByRecursion}
use Rattle.fab_policy.specs.Spelling.{IsRangedLine, line_text}
use Rattle.fab_policy.specs.declared.line.Format.TheVariants.{One}
use Rattle.fab_policy.specs.declared.line.Line.{Line}
use Rattle.fab_policy.proofs.SpellingLemmas.{line_once}
use Rattle.fab_migrate.specs.OldLaws.{OneReading}
use Rattle.fab_migrate.specs.Old.{lines_text, clock_after, clock_behind, MayCome, AllCome, IsOld, IsFaulty, HasFirstFault}
use Rattle.fab_migrate.specs.declared.old.OldWhy.{OldWhy}
use Rattle.fab_migrate.specs.declared.old.OldWhy.TheVariants as why
use Rattle.fab_migrate.proofs.OldLineLemmas.{line_some}

-- what is left begins with no line that may come
abbrev NoMore : Option ℕ → List ℕ → Type 0
NoMore c rest = (l : Line) (more : List ℕ) → IsRangedLine One l → MayCome c l → rest ≡ line_text One l ++ more → ⊥

none_at_end : (c : Option ℕ) → NoMore c []
none_at_end c l more ranged may is = line_some l more is

none_at_fault : (c : Option ℕ) (rest : List ℕ) (w : OldWhy) → IsFaulty c rest w → NoMore c rest
none_at_fault c rest why.Text f l more ranged may is = f.1 l more ranged is
none_at_fault c rest why.Tick f l more ranged may is = let cut = line_once One f.0 l f.1 more f.2 ranged (sym f.3 ∙ is) in f.4 (subst (MayCome c) (sym cut.0) may)

-- two readings that stop where no line may come are one
once : (c : Option ℕ) (ls ks : List Line) (r s : List ℕ) → NoMore (clock_behind c ls) r → NoMore (clock_behind c ks) s → AllCome c ls → AllCome c ks → lines_text One ls ++ r ≡ lines_text One ks ++ s → (ls ≡ ks) × (r ≡ s)
once c [] [] r s r_none s_none a b e = (refl, e)
once c [] (k ∷ ks) r s r_none s_none a b e = absurd (r_none k (lines_text One ks ++ s) b.0 b.1 (e ∙ append_assoc (line_text One k) (lines_text One ks) s))
once c (l ∷ ls) [] r s r_none s_none a b e = absurd (s_none l (lines_text One ls ++ r) a.0 a.1 (sym e ∙ append_assoc (line_text One l) (lines_text One ls) r))
once c (l ∷ ls) (k ∷ ks) r s r_none s_none a b e =
    let cut = line_once One l k (lines_text One ls ++ r) (lines_text One ks ++ s) a.0 b.0
    (sym (append_assoc (line_text One l) (lines_text One ls) r) ∙ e ∙ append_assoc (line_text One k) (lines_text One ks) s) in
    let first : l ≡ k = cut.0 in
    let more = once (clock_after c l) ls ks r s r_none (subst (λ x. NoMore (clock_behind (clock_after c x) ks) s) (sym first) s_none) a.2 (subst (λ x. AllCome (clock_after c x) ks) (sym first) b.2) cut.1 in
    (let others : ls ≡ ks = more.0 in cc, more.1)

-- lines are named by their text alone
pub lines_once : (ls ks : List Line) → AllByRecursion (IsRangedLine One) ls → AllByRecursion (IsRangedLine One) ks → lines_text One ls ≡ lines_text One ks → ls ≡ ks
lines_once [] [] a b e = refl
lines_once [] (k ∷ ks) a b e = absurd (line_some k (lines_text One ks) e)
lines_once (l ∷ ls) [] a b e = absurd (line_some l (lines_text One ls) (sym e))
lines_once (l ∷ ls) (k ∷ ks) a b e =
    let cut = line_once One l k (lines_text One ls) (lines_text One ks) a.0 b.0 e in
    let first : l ≡ k = cut.0 in
    let others = lines_once ls ks a.1 b.1 cut.1 in
    cc

pub all_ranged : (c : Option ℕ) (ls : List Line) → AllCome c ls → AllByRecursion (IsRangedLine One) ls
all_ranged c [] all = tt
all_ranged c (l ∷ ls) all = (all.0, all_ranged (clock_after c l) ls all.2)

same_fault : (c : Option ℕ) (rest : List ℕ) (w v : OldWhy) → IsFaulty c rest w → IsFaulty c rest v → w ≡ v
same_fault c rest why.Text why.Text one other = refl
same_fault c rest why.Text why.Tick one other = absurd (one.1 other.0 other.1 other.2 other.3)
same_fault c rest why.Tick why.Text one other = absurd (other.1 one.0 one.1 one.2 one.3)
same_fault c rest why.Tick why.Tick one other = refl

fault_not_at_end : (c : Option ℕ) (rest : List ℕ) (w : OldWhy) → [] ≡ rest → IsFaulty c rest w → ⊥
fault_not_at_end c rest why.Text end f = f.0 (sym end)
fault_not_at_end c rest why.Tick end f = line_some f.0 f.1 (end ∙ f.3)

module _ (text : List ℕ) where
  one_lines : (ls ks : List Line) → IsOld text ls → IsOld text ks → ls ≡ ks
  one_lines ls ks one other = lines_once ls ks (all_ranged None ls one.come) (all_ranged None ks other.come) (sym one.spelled ∙ other.spelled)

  one_fault : (m n : ℕ) (w v : OldWhy) → HasFirstFault text m w → HasFirstFault text n v → (m ≡ n) × (w ≡ v)
  one_fault m n w v one other =
      let both = once None one.before other.before one.rest other.rest (none_at_fault _ one.rest w one.faulty) (none_at_fault _ other.rest v other.faulty) one.come other.come (sym one.spelled ∙ other.spelled) in (
        one.numbered ∙ ap (λ (l : List Line). length l + 1) both.0 ∙ sym other.numbered,
        same_fault (clock_behind None other.before) other.rest w v (subst (λ l. IsFaulty (clock_behind None other.before) l w) both.1 (subst (λ ls. IsFaulty (clock_behind None ls) one.rest w) both.0 one.faulty)) other.faulty,
      )

  no_fault : (ls : List Line) (n : ℕ) (w : OldWhy) → IsOld text ls → HasFirstFault text n w → ⊥
  no_fault ls n w one other =
      let both = once None ls other.before [] other.rest (none_at_end (clock_behind None ls)) (none_at_fault _ other.rest w other.faulty) one.come other.come
      (append-nil (lines_text One ls) ∙ sym one.spelled ∙ other.spelled) in
      fault_not_at_end (clock_behind None other.before) other.rest w both.1 other.faulty

  -- a text has one reading
  pub one_reading : OneReading text
  one_reading = record { lines = one_lines; fault = one_fault; not_both = no_fault }
