-- Each frame has one right verdict, but for the address of a grant.
use Rattle.std.proofs.Common.{◌≡◌, ◌⊎◌, inl, inr, refl, sym, ◌∙◌}
use Rattle.fab_policy.specs.Right.{RightIsOne, IsGrant}
use Rattle.fab_policy.specs.Verdicts.{Judgement, Must, MayGrant, Meets, judged}
use Rattle.fab_policy.specs.declared.verdict.Verdict.{Verdict}
use Rattle.fab_policy.specs.declared.verdict.Verdict.TheVariants.{Granted}

pub right_is_one : RightIsOne
right_is_one c T port caught v w x y = by_judgement (judged c T port caught) v w x y
  where
    by_judgement : (j : Judgement) (v w : Verdict) → Meets c T j v → Meets c T j w → (v ≡ w) ⊎ (IsGrant v × IsGrant w)
    by_judgement (Must u) v w x y = inl (x ∙ sym y)
    by_judgement (MayGrant r) (Granted a) (Granted b) x y = inr ((a, refl), (b, refl))
    by_judgement (MayGrant r) (Granted a) _ x y = absurd y
    by_judgement (MayGrant r) _ w x y = absurd x
