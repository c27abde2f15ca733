-- The parameters of a FLOGI, an FDISC or a PLOGI are those that stand in its bytes.
use Rattle.std.proofs.Common.{◌≡◌, ℕ, Bool, true, false, List, Option, Some, None, refl, nat_le, length, if◌then◌else◌}
use Rattle.fab_base.specs.Layout.{byte}
use Rattle.els_messages.specs.Els as els
use Rattle.els_messages.specs.Table.{Command, FLOGI, FDISC, PLOGI, LS_ACC, LOGIN_BYTES, command_of}

-- the parameters of a FLOGI, an FDISC or a PLOGI are those that stand in the bytes
abbrev pub SaysParms : List ℕ → els.Els → Type 0
SaysParms l (els.Flogi p) = p ≡ els.parms_of l
SaysParms l (els.Fdisc p) = p ≡ els.parms_of l
SaysParms l (els.Plogi p) = p ≡ els.parms_of l
SaysParms l _ = Unit {0}

pub says_parms : (l : List ℕ) → SaysParms l (els.payload_of l)
says_parms l = by_row (command_of (byte l 0))
  where
    of_accept : (b : Bool) → SaysParms l (if b then els.LoginAccept (els.parms_of l) else els.Accept)
    of_accept true = tt
    of_accept false = tt

    by_row : (o : Option Command) → SaysParms l (elim o as (λ _. els.Els) [ Some row ↦ els.said row l | None ↦ els.Other (byte l 0) ])
    by_row None = tt
    by_row (Some FLOGI) = refl
    by_row (Some FDISC) = refl
    by_row (Some PLOGI) = refl
    by_row (Some LS_ACC) = of_accept (nat_le LOGIN_BYTES (length l))
    by_row (Some _) = tt
