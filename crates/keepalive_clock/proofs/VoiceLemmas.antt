-- The test on voices says that they are equal, and so do their numbers.
use Rattle.std.proofs.Common.{◌≡◌, ◌^◌, ◌<◌, ◌==◌, Bool, true, false, refl, sym, ◌∙◌, ap, subst, arith}
use mathlib.Core.Bool.{false≢true}
use Rattle.std.proofs.lemmas.Bool.Decides.{nat_tests}
use Rattle.sorted_lists.proofs.EnodeLemmas as enodes
use Rattle.sorted_lists.proofs.EnodeLemmas.{same_enode-refl, same_enode-true}
use Rattle.sorted_lists.proofs.IndexLemmas.{equal, unequal}
use Rattle.keepalive_clock.specs.Order.{number_of, IsWhole}
use Rattle.fab_base.proofs.SamenessLemmas.{IsSameness}
use Rattle.keepalive_clock.specs.Voices.{same_voice}
use Rattle.keepalive_clock.specs.declared.voice.Voice.{Voice}
use Rattle.keepalive_clock.specs.declared.voice.Voice.TheVariants.{Node, Port}

same_voice-refl : (v : Voice) → same_voice v v ≡ true
same_voice-refl (Node x) = same_enode-refl x
same_voice-refl (Port a) = grind (arith, nat_tests)

same_voice-true : (v w : Voice) → same_voice v w ≡ true → v ≡ w
same_voice-true (Node x) (Node y) same = ap Node (same_enode-true x y same)
same_voice-true (Port a) (Port b) same = ap Port (grind (arith, nat_tests))
same_voice-true (Node x) (Port b) same = cc
same_voice-true (Port a) (Node y) same = cc

pub voices_same : IsSameness same_voice
voices_same = record { self = same_voice-refl; equal = same_voice-true }

-- ---- the number of a voice

pub number-range : (v : Voice) → IsWhole v → number_of v < 2 ^ 56
number-range (Node x) whole = enodes.number-range x whole
number-range (Port a) whole = omega (arith, whole)

-- voices of one number are equal
pub number-same : (v w : Voice) → IsWhole v → IsWhole w → number_of v ≡ number_of w → v ≡ w
number-same (Node x) (Node y) p q e = ap Node (enodes.number-same x y p q e)
number-same (Port a) (Port b) p q e = ap Port e
number-same (Node x) (Port b) p q e = absurd (omega (arith, enodes.number-low x p, q, e))
number-same (Port a) (Node y) p q e = absurd (omega (arith, enodes.number-low y q, p, e))

-- the test on two voices is that on their numbers
pub same_number : (v w : Voice) → IsWhole v → IsWhole w → same_voice v w ≡ (number_of v == number_of w)
same_number v w p q = go (same_voice v w) refl (number_of v == number_of w) refl
  where
    go : (b : Bool) → same_voice v w ≡ b → (c : Bool) → (number_of v == number_of w) ≡ c → b ≡ c
    go true e true f = refl
    go false e false f = refl
    go true e false f = absurd (unequal _ _ f (ap number_of (same_voice-true v w e)))
    go false e true f = absurd (false≢true (sym e ∙ subst (λ u. same_voice v u ≡ true) (number-same v w p q (equal _ _ f)) (same_voice-refl v)))
