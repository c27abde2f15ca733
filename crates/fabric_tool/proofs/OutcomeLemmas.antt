-- What is printed of an outcome.
use Rattle.std.proofs.Common.{◌≡◌, ℕ, List, codes, refl, sym, ◌∙◌, subst, inl, inr, Result, Ok, Err, String}
use Rattle.std.specs.Prelude.{IfOk, IfErr}
use Rattle.std.specs.String.{string_bytes}
use Rattle.std.specs.declared.alloc.Global.{Global}
use Rattle.std.specs.declared.alloc.AllocError.{AllocError}
use Rattle.fab_base.specs.Sunk.{Sunk}
use Rattle.fabric_tool.specs.Outcome.{status_of, line_of}
use Rattle.fabric_tool.specs.Ends.{Puts, Prints, Reports, TakesMemory}
use Rattle.fabric_tool.specs.declared.outcome.Outcome.{Outcome}
use Rattle.fabric_tool.specs.declared.outcome.Outcome.TheVariants as ends

module _ {line : List ℕ} (before after : Sunk) {result : ℕ} where
  -- a line and a status that are those of the outcome
  prints : (o : Outcome) {status : ℕ} → line ≡ line_of o → status ≡ status_of o → Puts line status before after result → Prints o before after result
  prints o is_line is_status puts = subst (λ l. Puts l (status_of o) before after result) is_line (subst (λ (n : ℕ). Puts line n before after result) is_status puts)

  pub reports : {o p : Outcome} {status : ℕ} → o ≡ p → line ≡ line_of p → status ≡ status_of p → Puts line status before after result → Reports o before after result
  reports {o} {p} is is_line is_status puts = subst (λ q. Reports q before after result) (sym is) (inl (prints p is_line is_status puts))

-- a line that was made, or want of memory in its place
pub reports_made : (r : Result (String Global) AllocError) {line : List ℕ} (before after : Sunk) {result : ℕ} {o p : Outcome} {status : ℕ} → o ≡ p → line ≡ line_of p → status ≡ status_of p → TakesMemory p →
    IfOk r (λ s. string_bytes s ≡ line) → IfOk r (λ s. Puts (string_bytes s) status before after result) → IfErr r (λ e. Puts (codes "no memory\n") 5 before after result) → Reports o before after result
unfolding line_of
reports_made (Ok s) before after is is_line is_status takes made puts err = reports before after is (made ∙ is_line) is_status puts
reports_made (Err e) before after is is_line is_status takes made ok puts = inr (subst TakesMemory (sym is) takes, prints before after ends.Memory refl refl puts)
