-- Answers of the name server.
use Rattle.std.proofs.Common.{◌≡◌, ℕ, Option, Some, None, refl}
use Rattle.ct_messages.specs.Server.{Refusal, refused_or}
use Rattle.ct_messages.specs.declared.CtTell.{CtTell}
use Rattle.ct_messages.specs.declared.CtTell.TheVariants as tell
use Rattle.fab_policy.specs.Replies.{Asker}
use Rattle.fab_policy.specs.Verdicts as policy
use Rattle.fab_policy.specs.declared.verdict.Verdict.TheVariants.{Answered}
use Rattle.fab_judge.specs.Judged.{HasKind, judgement_of}
use Rattle.fab_judge.specs.Told.{told_as, unless_refusal}

module _ (to : Asker) (size : ℕ) where
  -- an answer that doesn't reject
  told_no_reject : (t : CtTell) → ((reason explanation : ℕ) → t ≡ tell.Reject reason explanation → ⊥) → judgement_of (told_as to size t) ≡ policy.Must Answered
  told_no_reject tell.Done h = refl
  told_no_reject (tell.Port a) h = refl
  told_no_reject (tell.Name a) h = refl
  told_no_reject (tell.Types a) h = refl
  told_no_reject (tell.Features a) h = refl
  told_no_reject (tell.Addresses a) h = refl
  told_no_reject (tell.Names a) h = refl
  told_no_reject (tell.Next a) h = refl
  told_no_reject (tell.Reject reason explanation) h = absurd (h reason explanation refl)

  -- an answer or a refusal
  pub told : (o : Option Refusal) (t : CtTell) → ((reason explanation : ℕ) → t ≡ tell.Reject reason explanation → ⊥) →
      judgement_of (told_as to size (refused_or o t)) ≡ unless_refusal o (policy.Must Answered)
  told None t h = told_no_reject t h
  told (Some why) t h = refl

  -- it is one of a body of FCoE
  pub told_kind : (t : CtTell) → HasKind None (told_as to size t)
  told_kind tell.Done = tt
  told_kind (tell.Port a) = tt
  told_kind (tell.Name a) = tt
  told_kind (tell.Types a) = tt
  told_kind (tell.Features a) = tt
  told_kind (tell.Addresses a) = tt
  told_kind (tell.Names a) = tt
  told_kind (tell.Next a) = tt
  told_kind (tell.Reject reason explanation) = tt
