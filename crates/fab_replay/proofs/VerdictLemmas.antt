-- Why a verdict that a fabric didn't give is wrong.
use Rattle.std.proofs.Common.{◌≡◌, inl, inr, ℕ, false, Option, Some, IsTrue, sym, ◌∙◌, ap, subst}
use Rattle.std.specs.Prelude.{Result, Ok, Err, IfErr, IfOk, OnErr, OnOk}
use Rattle.fab_base.specs.declared.values.Caught.{Caught}
use Rattle.fab_config.specs.Settings.{Settings}
use Rattle.fab_policy.specs.Free.{is_free}
use Rattle.fab_policy.specs.Journal.{Journal}
use Rattle.fab_policy.specs.Outputs.{State}
use Rattle.fab_policy.specs.Right.{RightIsOne}
use Rattle.fab_policy.specs.Standing.{Contents, Stands, Takes}
use Rattle.fab_policy.specs.State.{Tables, tables_of}
use Rattle.fab_policy.specs.Verdicts.{IsRight, Meets}
use Rattle.fab_policy.specs.declared.event.Event.TheVariants.{Frame}
use Rattle.fab_policy.specs.declared.verdict.Verdict.{Verdict}
use Rattle.fab_policy.specs.declared.verdict.Verdict.TheVariants.{Granted}
use Rattle.forward_core.specs.Fabric.{IsTaken, granted_by}
use Rattle.forward_core.specs.declared.step.StepFault.{StepFault}
use Rattle.forward_core.specs.declared.step.StepFault.TheVariants as step
use Rattle.fab_replay.specs.Verdicts.{IsAfter, IsJudged, IsMisjudged, IsWished}
use Rattle.fab_replay.specs.declared.verdicts.Misjudged.{Misjudged}
use Rattle.fab_replay.specs.declared.verdicts.Misjudged.TheVariants.{Wrong, Memory}

-- a verdict that grants an address is that grant
grants : (v : Verdict) (a : ℕ) → granted_by v ≡ Some a → v ≡ Granted a
grants (Granted b) a e = let same : b ≡ a = cc in ap Granted same
grants _ a e = absurd (cc)

-- another verdict was given, with the wished address if it is a grant
pub another_is_right : (c : Settings) (T : Tables) (port : ℕ) (caught : Caught) (found made : Verdict) → RightIsOne → IsRight c T port caught made → (made ≡ found → ⊥) →
    ((a b : ℕ) → granted_by found ≡ Some a → made ≡ Granted b → b ≡ a) → IsRight c T port caught found → ⊥
another_is_right c T port caught found made one right differs wished f = elim (one c T port caught made found right f) [
  | inl same ↦ differs same
  | inr both ↦
      let address : both.0.0 ≡ both.1.0 = wished both.1.0 both.0.0 (ap granted_by both.1.1) both.0.1 in
      differs (both.0.1 ∙ ap Granted address ∙ sym both.1.1)
]

-- the address isn't free
pub wish_is_wrong : (c : Settings) (T : Tables) (port : ℕ) (caught : Caught) (found : Verdict) → IsTaken c T port caught (granted_by found) → IsRight c T port caught found → ⊥
wish_is_wrong c T port caught found taken f =
    let is : found ≡ Granted taken.1 = grants found taken.1 taken.3 in
    let free : IsTrue (is_free T taken.0 taken.1) = subst (λ j. Meets c T j (Granted taken.1)) taken.2 (subst (λ v. IsRight c T port caught v) is f) in
    absurd (let e : false ≡ is_free T taken.0 taken.1 = sym taken.4 in cc)

-- ---- a comparison with the verdict that was made

-- the same one was made
pub judged_ok : (P : Verdict → Type 0) (found : Verdict) (s : Result Verdict StepFault) (r : Result (Unit {0}) Misjudged) → IsJudged found s r → IfOk s P → OnOk r (P found)
judged_ok P found (Ok made) (Ok done) j p = subst P j p
judged_ok P found (Ok made) (Err e) j p = tt
judged_ok P found (Err step.Memory) r j p = subst (λ t. OnOk t (P found)) (sym j) tt
judged_ok P found (Err step.WishTaken) r j p = absurd j

-- another one was made, or memory was refused
judged_err : (P : Misjudged → Type 0) (found : Verdict) (s : Result Verdict StepFault) (r : Result (Unit {0}) Misjudged) → IsJudged found s r → IfOk s (λ made. (made ≡ found → ⊥) → P (Wrong made)) → OnErr s (P Memory) → IfErr r P
judged_err P found (Ok made) (Ok done) j wrong refused = tt
judged_err P found (Ok made) (Err e) j wrong refused = subst P (sym j.0) (wrong j.1)
judged_err P found (Err step.Memory) r j wrong refused = subst (λ t. IfErr t P) (sym j) refused
judged_err P found (Err step.WishTaken) r j wrong refused = absurd j

on_made : (P Q : Verdict → Type 0) (s : Result Verdict StepFault) → ((v : Verdict) → P v → Q v) → IfOk s P → IfOk s Q
on_made P Q (Ok made) f p = f made p
on_made P Q (Err fault) f p = tt

on_err : (P : Type 0) (s : Result Verdict StepFault) → P → OnErr s P
on_err P (Ok made) p = tt
on_err P (Err fault) p = p

both_made : (P Q : Verdict → Type 0) (s : Result Verdict StepFault) → IfOk s P → IfOk s Q → IfOk s (λ v. P v × Q v)
both_made P Q (Ok made) p q = (p, q)
both_made P Q (Err fault) p q = tt

module _ (F : Contents) (port : ℕ) (caught : Caught) (found : Verdict) where
  abbrev c : Settings
  c = F.settings

  abbrev T : Tables
  T = F.state.tables

  wished_wrong : RightIsOne → (made : Verdict) → IsRight c T port caught made × IsWished c T port caught (granted_by found) made → (made ≡ found → ⊥) → IsMisjudged c T port caught found (Wrong made)
  wished_wrong one made is differs = (
    elim is.1 [
      | inl taken ↦ wish_is_wrong c T port caught found taken
      | inr same ↦ another_is_right c T port caught found made one is.0 differs same
    ],
    is.0,
  )

  pub judged_wrong : RightIsOne → (s : Result Verdict StepFault) (r : Result (Unit {0}) Misjudged) → IsJudged found s r → IfOk s (IsRight c T port caught) → (wish : Option ℕ) → wish ≡ granted_by found → IfOk s (IsWished c T port caught wish) →
      IfErr r (IsMisjudged c T port caught found)
  judged_wrong one s r j right wish is wished =
      judged_err (IsMisjudged c T port caught found) found s r j
      (on_made _ _ s (wished_wrong one) (both_made (IsRight c T port caught) (IsWished c T port caught (granted_by found)) s right (subst (λ w. IfOk s (IsWished c T port caught w)) is wished)))
      (on_err (Unit {0}) s tt)

  -- the same after a journal that the fabric stands for
  pub misjudged_after : (J : Journal) (r : Result (Unit {0}) Misjudged) → Stands F J → IfErr r (IsMisjudged c T port caught found) → IfErr r (IsMisjudged c (tables_of c J) port caught found)
  misjudged_after J r stands m = subst (λ (S : State). IfErr r (IsMisjudged c S.tables port caught found)) stands.state m

  module _ (G : Contents) (index : ℕ) (s : Result Verdict StepFault) (takes : IfOk s (λ v. Takes F (Frame port index caught v) G)) (err : OnErr s (G ≡ F)) where
    -- the fabric has taken the frame, or is as it was
    pub judged_left : (r : Result (Unit {0}) Misjudged) → IsJudged found s r → IfErr r (λ e. IsAfter F port index caught e G)
    judged_left r j = judged_err (λ e. IsAfter F port index caught e G) found s r j (on_made (λ v. Takes F (Frame port index caught v) G) _ s (λ v took differs. took) takes) err

    pub judged_settings : (G.settings ≡ F.settings) × (G.count ≡ F.count)
    judged_settings = by_step s takes err
      where
        by_step : (s : Result Verdict StepFault) → IfOk s (λ v. Takes F (Frame port index caught v) G) → OnErr s (G ≡ F) → (G.settings ≡ F.settings) × (G.count ≡ F.count)
        by_step (Ok made) took same = (took.settings, took.count)
        by_step (Err fault) took same = (ap (λ (H : Contents). H.settings) same, ap (λ (H : Contents). H.count) same)
