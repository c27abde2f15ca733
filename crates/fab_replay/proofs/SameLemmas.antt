-- Verdicts that compare as the same are the same.
use Rattle.std.proofs.Common.{rules, ◌≡◌, ℕ, ◌==◌, Bool, true, false, ◌&&◌, Option, None, Some, refl, ap, ◌∙◌, arith}
use Rattle.std.proofs.lemmas.Bool.Decides.{nat_tests}
use denote.Enum.Bare.{same_true}
use Rattle.fab_policy.specs.contracts.verdict.Rule.{the_type}
use Rattle.fab_policy.specs.contracts.verdict.VerdictPartialEq.TheImpl as verdict_eq
use Rattle.fab_policy.specs.declared.verdict.Rule.{Rule}
use Rattle.fab_policy.specs.declared.verdict.Verdict.{Verdict}
use Rattle.fab_policy.specs.declared.verdict.Verdict.TheVariants.{Vlans, Advertised, Granted, Rejected, Logout, AliveNode, AlivePort, NsLogin, NsLogout, Watching, Registered, Answered, Refused, Noted, Forwarded, Dropped}

abbrev same_verdict : Verdict → Verdict → Bool
same_verdict = (verdict_eq.ghosts).eq

no : false ≡ true → ⊥
no e = absurd (cc)

same_number : (m n : ℕ) → m == n ≡ true → m ≡ n
same_number m n e = grind (arith, nat_tests, e)

-- a test and another
none : (a : Bool) → (a && true) ≡ true → a ≡ true
none true e = refl
none false e = absurd (no e)

never : (a : Bool) → (a && false) ≡ true → ⊥
never true e = no e
never false e = no e

both : (a : Bool) (m n : ℕ) → (a && m == n) ≡ true → (a ≡ true) × (m ≡ n)
both true m n e = (refl, same_number m n e)
both false m n e = absurd (no e)

numbers : (a b m n : ℕ) → (a == b && m == n) ≡ true → (a ≡ b) × (m ≡ n)
numbers a b m n e = let p = both (a == b) m n e in (same_number a b p.0, p.1)

abbrev dropped : Rule → Option ℕ → Verdict
dropped r n = Dropped (record { rule = r; number = n })

same_cause : (r s : Rule) (m n : Option ℕ) → same_verdict (dropped r m) (dropped s n) ≡ true → dropped r m ≡ dropped s n
same_cause r s None None e = ap (λ t. dropped t None) (same_true the_type (search rules) r s (none _ e))
same_cause r s (Some m) (Some n) e = let p = both _ m n e in ap (λ t. dropped t (Some m)) (same_true the_type (search rules) r s p.0) ∙ ap (λ (k : ℕ). dropped s (Some k)) p.1
same_cause r s None (Some n) e = absurd (never _ e)
same_cause r s (Some m) None e = absurd (never _ e)

pub same_is : (v w : Verdict) → same_verdict v w ≡ true → v ≡ w
same_is Vlans Vlans e = refl
same_is Advertised Advertised e = refl
same_is (Granted a) (Granted b) e = ap Granted (same_number a b e)
same_is (Rejected a x) (Rejected b y) e = let p = numbers a b x y e in ap (λ (n : ℕ). Rejected n x) p.0 ∙ ap (λ (n : ℕ). Rejected b n) p.1
same_is (Logout a) (Logout b) e = ap Logout (same_number a b e)
same_is AliveNode AliveNode e = refl
same_is (AlivePort a) (AlivePort b) e = ap AlivePort (same_number a b e)
same_is NsLogin NsLogin e = refl
same_is NsLogout NsLogout e = refl
same_is (Watching a) (Watching b) e = ap Watching (same_number a b e)
same_is Registered Registered e = refl
same_is Answered Answered e = refl
same_is (Refused a x) (Refused b y) e = let p = numbers a b x y e in ap (λ (n : ℕ). Refused n x) p.0 ∙ ap (λ (n : ℕ). Refused b n) p.1
same_is Noted Noted e = refl
same_is (Forwarded a) (Forwarded b) e = ap Forwarded (same_number a b e)
same_is (Dropped c) (Dropped d) e = same_cause c.rule d.rule c.number d.number e
same_is _ _ e = absurd (no e)
