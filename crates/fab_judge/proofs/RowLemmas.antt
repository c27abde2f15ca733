-- Rows of the policy's tables, by the answers of their tests.
use Rattle.std.proofs.Common.{◌≡◌, ℕ, true, false, ◌&&◌, ◌==◌, Option, Some, None, option_map, IsSome, refl, ap, ◌∙◌, arith, nat_lt}
use Rattle.std.proofs.lemmas.Bool.{and_parts}
use Rattle.std.proofs.lemmas.Bool.Decides.{nat_tests}
use Rattle.fc_frames.specs.Frame as fc
use Rattle.fab_roster.specs.Roll.{Login}
use Rattle.fab_policy.specs.Rules.{is_service, is_els_request, is_ct_request, SERVICES, holds}
use Rattle.fab_policy.specs.State.{LivePort}
use Rattle.fab_roster.specs.Roll.{login_of}

-- ---- logins that are found, and not found

pub there : {X Y : Type 0} (f : X → Y) (o : Option X) (y : Y) → option_map f o ≡ Some y → IsSome o
there f None y e = cc
there f (Some x) y e = refl

-- what follows from the live N_Port of a login that was found
pub by_found : {X : Type 0} (o : Option LivePort) (l : Login) → option_map login_of o ≡ Some l → ((p : LivePort) → o ≡ Some p → login_of p ≡ l → X) → X
by_found None l e go = cc
by_found (Some p) l e go = go p refl cc

pub not_found : (o : Option LivePort) → option_map login_of o ≡ None → o ≡ None
not_found None e = refl
not_found (Some p) e = cc

pub is_here : (o : Option LivePort) (l : Login) (port : ℕ) → option_map login_of o ≡ Some l → l.enode.port == port ≡ true → holds (λ p. p.enode.port == port) o ≡ true
is_here None l port e here = cc
is_here (Some p) l port e here = let is : login_of p ≡ l = cc in ap (λ l. l.enode.port == port) is ∙ here

-- ---- what a frame to a service is

pub bytes_differ : (r : ℕ) → r == 0x22 ≡ true → (r == 0x23 ≡ false) × (r == 0x02 ≡ false)
bytes_differ r e = (grind (arith, nat_tests), grind (arith, nat_tests))

pub no_service : (d : ℕ) → nat_lt d SERVICES ≡ true → is_service d ≡ false
no_service d lt = grind (arith, nat_tests)

-- a request of extended link services is no request of the common transport
pub no_ct : (f : fc.Frame) → is_els_request f ≡ true → is_ct_request f ≡ false
no_ct f e = ap (λ b. b && f.head.kind == 0x20) (bytes_differ f.head.r_ctl (and_parts (f.head.r_ctl == 0x22) (f.head.kind == 0x01) e).0).1
