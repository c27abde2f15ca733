-- In a legal journal an address is granted where nobody holds it, or is given back.
use Rattle.std.proofs.Common.{◌≡◌, ℕ, zero, suc, ◌+◌, ◌*◌, ◌<◌, ◌≤◌, ◌⊎◌, inl, inr, Bool, true, false, ◌&&◌, ◌==◌, cond, Option, Some, None, refl, sym, ap, subst, ◌∙◌, arith, IsTrue, [], ◌∷◌, if◌then◌else◌, map, option_and_then, option_map, unwrap_or}
use Rattle.std.proofs.lemmas.Bool.{and_parts, eqb-true}
use Rattle.fab_base.specs.Fabric.{Past, past_at, may_have, same_enode}
use Rattle.fab_base.specs.declared.values.Caught.{Caught}
use Rattle.fab_config.specs.Settings.{Settings}
use Rattle.fab_policy.specs.Journal.{Journal}
use Rattle.fab_policy.specs.Legal.{Legal}
use Rattle.fab_base.specs.Counting.{counting}
use Rattle.fab_policy.specs.Logins.{NPort, ends, grants, n_port, login, last_grant, is_live, end_clock}
use Rattle.fab_policy.specs.declared.event.Event.{Event}
use Rattle.fab_policy.specs.declared.event.Event.TheVariants.{Frame}
use Rattle.fab_policy.specs.declared.verdict.Verdict.TheVariants.{Granted}
use Rattle.fab_policy.specs.State.{LivePort, tables_of, live_port, with_all, past_of, port_at, now_of}
use Rattle.fab_policy.specs.Free.{Request, is_free, is_open}
use Rattle.fab_policy.specs.Sound.{GrantsAreFree, IsGrantable, IsGivenBack, LoginsAreInPool}
use Rattle.fab_policy.proofs.Steps.{live_addressed, past_address, present, steps_login}
use Rattle.fab_policy.proofs.SoundGrants.{IsAllowed, granted_allowed}

-- a past that is found stands for its address, which is one of those counted
record IsCounted (k n a : ℕ) (x : Past) : Type 0 where
  address : x.address ≡ a
  least : k ≤ a
  most : a < k + n

counted : (J : Journal) (a : ℕ) (x : Past) (n k : ℕ) → past_at a (map (λ b. past_of b J) (counting k n)) ≡ Some x → IsCounted k n a x
counted J a x zero k e = cc
counted J a x (suc n) k e = by_first ((past_of k J).address == a) refl (λ later. counted J a x n (k + 1) later) e
  where
    here : (past_of k J).address ≡ k
    here = past_address k (last_grant k J) (is_live k J) (end_clock k J)

    by_first : (b : Bool) → (past_of k J).address == a ≡ b → (past_at a (map (λ b. past_of b J) (counting (k + 1) n)) ≡ Some x → IsCounted (k + 1) n a x) →
        cond b (Some (past_of k J)) (past_at a (map (λ b. past_of b J) (counting (k + 1) n))) ≡ Some x → IsCounted k (suc n) a x
    by_first true t later e =
        let same : past_of k J ≡ x = ap (λ (o : Option Past). unwrap_or o (past_of k J)) e in
        let is : k ≡ a = sym here ∙ eqb-true (past_of k J).address a t in
        record { address = ap (λ p. p.address) (sym same) ∙ eqb-true (past_of k J).address a t; least = omega (arith, is); most = omega (arith, is) }
    by_first false t later e =
        let c = later e in
        record { address = c.address; least = omega (arith, c.least); most = omega (arith, c.most) }

-- an address that is open for a request is nobody's, or is given back
held : (c : Settings) (J : Journal) (port : ℕ) (caught : Caught) (r : Request) (a : ℕ) (x : Past) → IsAllowed c (tables_of c J) port caught r →
    c.domain * 65536 + 256 ≤ a → a < c.domain * 65536 + 256 + c.pool → x.address ≡ a → IsTrue (is_open (tables_of c J) r x) →
    (login a J ≡ None) ⊎ ((p : NPort) × (login a J ≡ Some p) × IsGivenBack port caught p)
held c J port caught r a x h le lt is open_ = by_login (login a J) refl (subst (λ o. IsTrue (opens o)) found open_)
  where
    opens : Option LivePort → Bool
    opens o = elim o as (λ _. Bool) [
      | Some p ↦ r.flogi && same_enode p.enode r.enode && p.name == r.name
      | None ↦ may_have r.name (now_of (tables_of c J)) x.name x.ended
    ]

    found : port_at x.address (tables_of c J).ports ≡ option_map (with_all a J) (login a J)
    found = ap (λ b. port_at b (tables_of c J).ports) is ∙ present (λ b. live_port b J) (live_addressed J) c.pool (c.domain * 65536 + 256) a le lt

    by_login : (o : Option NPort) → login a J ≡ o → IsTrue (opens (option_map (with_all a J) o)) → (o ≡ None) ⊎ ((p : NPort) × (o ≡ Some p) × IsGivenBack port caught p)
    by_login None e t = inl refl
    by_login (Some p) e t =
        let first = and_parts (r.flogi && same_enode p.enode r.enode) (p.name == r.name) t in
        let second = and_parts r.flogi (same_enode p.enode r.enode) first.0 in
        inr (
          p,
          refl,
          record {
            flogi = sym h.kind ∙ second.0;
            enode = ap (λ y. same_enode p.enode y) (sym h.enode) ∙ second.1;
            name = eqb-true p.name r.name first.1 ∙ h.name;
          },
        )

pub grants_are_free : GrantsAreFree
grants_are_free c J port index a caught l = by_past (past_at a (tables_of c J).past) refl granted.2
  where
    granted : (r : Request) × IsAllowed c (tables_of c J) port caught r × IsTrue (is_free (tables_of c J) r a)
    granted = granted_allowed c (tables_of c J) port a caught l.1.1

    by_past : (o : Option Past) → past_at a (tables_of c J).past ≡ o → IsTrue (elim o as (λ _. Bool) [ None ↦ false | Some x ↦ is_open (tables_of c J) granted.0 x ]) → IsGrantable c J port caught a
    by_past None e t = cc
    by_past (Some x) e t =
        let at = counted J a x c.pool (c.domain * 65536 + 256) e in
        record { least = at.least; most = at.most; holder = held c J port caught granted.0 a x granted.1 at.least at.most at.address t }

-- ---- the pool

-- an entry that grants an address is a frame with that grant
granted_there : (c : Settings) (J : Journal) (a : ℕ) (e : Event) → Legal c (e ∷ J) → grants a e ≡ true → (c.domain * 65536 + 256 ≤ a) × (a < c.domain * 65536 + 256 + c.pool)
granted_there c J a (Frame port index caught (Granted b)) legal g =
    let there = grants_are_free c J port index b caught legal in
    let same : b ≡ a = sym (eqb-true a b g) in
    (subst (λ x. c.domain * 65536 + 256 ≤ x) same there.least, subst (λ x. x < c.domain * 65536 + 256 + c.pool) same there.most)
granted_there c J a e legal g = absurd cc

pub logins_are_in_pool : LoginsAreInPool
logins_are_in_pool c [] a p legal e = absurd cc
logins_are_in_pool c (e ∷ J) a p legal is = by_grant (grants a e) refl (λ q. logins_are_in_pool c J a q legal.0) (sym (steps_login a e J) ∙ is)
  where
    by_login : (o : Option NPort) → ((q : NPort) → o ≡ Some q → (c.domain * 65536 + 256 ≤ a) × (a < c.domain * 65536 + 256 + c.pool)) →
        option_and_then (λ q. if ends a q.enode e then None else Some q) o ≡ Some p → (c.domain * 65536 + 256 ≤ a) × (a < c.domain * 65536 + 256 + c.pool)
    by_login None before t = absurd cc
    by_login (Some q) before t = before q refl

    by_grant : (b : Bool) → grants a e ≡ b → ((q : NPort) → login a J ≡ Some q → (c.domain * 65536 + 256 ≤ a) × (a < c.domain * 65536 + 256 + c.pool)) →
        (if b then Some (n_port e) else option_and_then (λ q. if ends a q.enode e then None else Some q) (login a J)) ≡ Some p → (c.domain * 65536 + 256 ≤ a) × (a < c.domain * 65536 + 256 + c.pool)
    by_grant true g before t = granted_there c J a e legal g
    by_grant false g before t = by_login (login a J) before t
