-- The judgement of a login by its link service, and what a FIP frame carries.
use Rattle.std.proofs.Common.{◌≡◌, ℕ, Bool, true, false, List, Some, Result, Ok, Err, refl, ap}
use Rattle.fab_base.specs.declared.values.Caught.{Caught}
use Rattle.fc_frames.specs.Frame as fc
use Rattle.fc_frames.specs.declared.FcFault.{FcFault}
use Rattle.fip_codec.specs.Message as fip
use Rattle.fip_codec.specs.declared.message.LoginKind.{LoginKind}
use Rattle.fip_codec.specs.declared.message.LoginKind.TheVariants.{Flogi, Fdisc, Logo}
use Rattle.els_messages.specs.Els as els
use Rattle.heard_frames.specs.Heard.{login_of, is_flogi, NO_FRAME}
use Rattle.fab_policy.specs.Rules.{is_unreadable}
use Rattle.fab_judge.specs.Origin.{is_flogi_by}

-- a login whose FC frame can't be read has no link service that can
pub no_frame : (kind : LoginKind) (fp : Bool) (l mac : List ℕ) (fault : FcFault) → fc.decoded l ≡ Err fault → is_unreadable (fip.Login kind fp l mac) ≡ true
unfolding els.decoded
no_frame kind fp l mac fault e = ap (λ r. unread r) e
  where
    unread : Result fc.Frame FcFault → Bool
    unread r = elim (els.decoded (elim r as (λ _. fc.Frame) [ Ok f ↦ f | Err fault ↦ NO_FRAME ]).payload) [ Ok v ↦ false | Err why ↦ true ]

-- a login is a FLOGI by its descriptor
pub flogi_is : (caught : Caught) (kind : LoginKind) (l : List ℕ) → login_of caught ≡ Some (kind, l) → is_flogi caught ≡ is_flogi_by kind caught
unfolding is_flogi
flogi_is caught Flogi l e = rw (is_flogi, e) refl
flogi_is caught Fdisc l e = rw (is_flogi, e) refl
flogi_is caught Logo l e = rw (is_flogi, e) refl
