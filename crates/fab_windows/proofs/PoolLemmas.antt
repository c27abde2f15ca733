-- Whoever is logged in has an address of the pool and came on a port of a forwarder, and of a free address one is found.
use Rattle.std.proofs.Common.{◌≡◌, ℕ, zero, suc, ◌+◌, ◌*◌, ◌^◌, ◌<◌, ◌≤◌, inl, inr, Bool, true, false, not, ◌==◌, cond, if◌then◌else◌, IsTrue, List, [], ◌∷◌, map, find, filter_map, is_some, Option, Some, None, option_map, option_and_then, unwrap_or, refl, sym, ap, subst, ◌∙◌, arith, nat_lt, nat_le}
use Rattle.std.specs.List.{list_any}
use Rattle.std.proofs.lemmas.Bool.{eqb-true, eqb-false, ltb-true, ltb-false, leb-true, leb-false}
use Rattle.fab_base.specs.Fabric.{Past, past_at}
use Rattle.fab_config.specs.Settings.{Settings, is_in_range}
use Rattle.fab_policy.specs.Free.{Request, is_open, is_free, has_free}
use Rattle.fab_policy.specs.Journal.{Journal}
use Rattle.fab_base.specs.Counting.{counting}
use Rattle.fab_policy.specs.Logins.{NPort, ends, grants, n_port, login, last_grant, since, is_live, end_clock}
use Rattle.fab_policy.specs.Ranged.{IsRanged}
use Rattle.fab_policy.specs.Rules.{holds}
use Rattle.fab_policy.specs.State.{Tables, LivePort, tables_of, live_port, with_all, past_of, port_at}
use Rattle.fab_policy.specs.declared.event.Event.TheVariants.{Tick, Frame}
use Rattle.fab_policy.specs.declared.verdict.Verdict.TheVariants.{Granted}
use Rattle.fab_policy.proofs.Found.{lives_are_found, others_are_none}
use Rattle.fab_policy.proofs.SoundMacs.{pool_fits}
use Rattle.fab_policy.proofs.Steps.{past_address}

-- ---- logins

abbrev pub IsPortOf : ℕ → Type 0
IsPortOf port = (1 ≤ port) × (port ≤ 64)

last_port : (a : ℕ) (J : Journal) (p : NPort) → IsRanged J → last_grant a J ≡ Some p → IsPortOf p.enode.port
last_port a [] p ranged e = absurd (cc)
last_port a (Tick m ended ∷ J) p ranged e = last_port a J p ranged.0 e
last_port a (Frame port index caught (Granted b) ∷ J) p ranged e = go (a == b) e (last_port a J p ranged.0)
  where
    go : (t : Bool) → elim (if t then Some (n_port (Frame port index caught (Granted b))) else None) as (λ _. Option NPort) [ Some x ↦ Some x | None ↦ last_grant a J ] ≡ Some p → (last_grant a J ≡ Some p → IsPortOf p.enode.port) → IsPortOf p.enode.port
    go true is later =
        let same : n_port (Frame port index caught (Granted b)) ≡ p = ap (λ (o : Option NPort). unwrap_or o p) is in
        subst (λ (q : NPort). IsPortOf q.enode.port) same (ranged.1.0, ranged.1.1)
    go false is later = later is
last_port a (Frame port index caught _ ∷ J) p ranged e = last_port a J p ranged.0 e

kept_if : (b : Bool) (p q : NPort) → (if b then None else Some q) ≡ Some p → Some q ≡ Some p
kept_if true p q e = absurd (let w : None ≡ Some p = e in cc)
kept_if false p q e = e

granted_last : (a : ℕ) (J : Journal) (p : NPort) → login a J ≡ Some p → last_grant a J ≡ Some p
granted_last a J p e = by_last (last_grant a J) e
  where
    by_last : (o : Option NPort) → option_and_then (λ q. if list_any (ends a q.enode) (since a J) then None else Some q) o ≡ Some p → o ≡ Some p
    by_last None is = is
    by_last (Some q) is = kept_if (list_any (ends a q.enode) (since a J)) p q is

-- an address at which somebody is found is one of the pool
pub in_pool : (c : Settings) (J : Journal) (a : ℕ) (q : LivePort) → port_at a (tables_of c J).ports ≡ Some q → (c.domain * 65536 + 256 ≤ a) × (a < c.domain * 65536 + 256 + c.pool)
in_pool c J a q e = go (nat_lt a (c.domain * 65536 + 256)) refl (nat_le (c.domain * 65536 + 256 + c.pool) a) refl
  where
    none : port_at a (tables_of c J).ports ≡ None → ⊥
    none is = let w : None ≡ Some q = sym is ∙ e in cc

    go : (b : Bool) → nat_lt a (c.domain * 65536 + 256) ≡ b → (t : Bool) → nat_le (c.domain * 65536 + 256 + c.pool) a ≡ t → (c.domain * 65536 + 256 ≤ a) × (a < c.domain * 65536 + 256 + c.pool)
    go true lt t le = absurd (none (others_are_none c J a (inl (ltb-true a (c.domain * 65536 + 256) lt))))
    go false lt true le = absurd (none (others_are_none c J a (inr (leb-true (c.domain * 65536 + 256 + c.pool) a le))))
    go false lt false le = (ltb-false a (c.domain * 65536 + 256) lt, leb-false (c.domain * 65536 + 256 + c.pool) a le)

pub live_small : (c : Settings) (J : Journal) (a : ℕ) (q : LivePort) → IsTrue (is_in_range c) → port_at a (tables_of c J).ports ≡ Some q → a < 2 ^ 24
live_small c J a q range e = let there = in_pool c J a q e in let fits = pool_fits c range in omega (arith, there.1, fits)

pub live_on_port : (c : Settings) (J : Journal) (a : ℕ) (q : LivePort) → IsRanged J → port_at a (tables_of c J).ports ≡ Some q → IsPortOf q.enode.port
live_on_port c J a q ranged e = by_login (login a J) refl (sym (lives_are_found c J a (in_pool c J a q e).0 (in_pool c J a q e).1) ∙ e)
  where
    by_login : (o : Option NPort) → login a J ≡ o → option_map (with_all a J) o ≡ Some q → IsPortOf q.enode.port
    by_login None is at = absurd (let w : None ≡ Some q = at in cc)
    by_login (Some p) is at =
        let same : with_all a J p ≡ q = ap (λ (o : Option LivePort). unwrap_or o q) at in
        subst (λ (x : LivePort). IsPortOf x.enode.port) same (last_port a J p ranged (granted_last a J p is))

-- who passes a test is there
pub holds_some : (test : LivePort → Bool) (o : Option LivePort) → holds test o ≡ true → (q : LivePort) × (o ≡ Some q)
holds_some test None e = absurd (let w : false ≡ true = e in cc)
holds_some test (Some q) e = (q, refl)

-- ---- free addresses

past_there : (J : Journal) (a n k : ℕ) → k ≤ a → a < k + n → past_at a (map (λ b. past_of b J) (counting k n)) ≡ Some (past_of a J)
past_there J a zero k le lt = absurd (omega (arith, le, lt))
past_there J a (suc n) k le lt = go ((past_of k J).address == a) refl (past_there J a n (k + 1))
  where
    here : (past_of k J).address ≡ k
    here = past_address k (last_grant k J) (is_live k J) (end_clock k J)

    further : (b : Bool) → nat_lt k a ≡ b → (k ≡ a → ⊥) → k + 1 ≤ a
    further true l other = let less = ltb-true k a l in omega (arith, less)
    further false l other = absurd (other (let more = ltb-false k a l in omega (arith, more, le)))

    go : (b : Bool) → (past_of k J).address == a ≡ b → (k + 1 ≤ a → a < k + 1 + n → past_at a (map (λ x. past_of x J) (counting (k + 1) n)) ≡ Some (past_of a J)) →
        cond b (Some (past_of k J)) (past_at a (map (λ x. past_of x J) (counting (k + 1) n))) ≡ Some (past_of a J)
    go true t later = ap (λ (x : ℕ). Some (past_of x J)) (sym here ∙ eqb-true (past_of k J).address a t)
    go false t later = later (further (nat_lt k a) refl (λ e. eqb-false (past_of k J).address a t (here ∙ e))) (omega (arith, lt))

open_there : (T : Tables) (r : Request) (J : Journal) (n k : ℕ) → is_some (find (is_open T r) (map (λ b. past_of b J) (counting k n))) ≡ true →
    (a : ℕ) × (k ≤ a) × (a < k + n) × IsTrue (is_open T r (past_of a J))
open_there T r J zero k e = absurd (let w : false ≡ true = e in cc)
open_there T r J (suc n) k e = go (is_open T r (past_of k J)) refl e (open_there T r J n (k + 1))
  where
    go : (b : Bool) → is_open T r (past_of k J) ≡ b → is_some (cond b (Some (past_of k J)) (find (is_open T r) (map (λ x. past_of x J) (counting (k + 1) n)))) ≡ true →
        (is_some (find (is_open T r) (map (λ x. past_of x J) (counting (k + 1) n))) ≡ true → (a : ℕ) × (k + 1 ≤ a) × (a < k + 1 + n) × IsTrue (is_open T r (past_of a J))) →
        (a : ℕ) × (k ≤ a) × (a < k + suc n) × IsTrue (is_open T r (past_of a J))
    go true t is later = (k, omega arith, omega arith, t)
    go false t is later = let x = later is in (x.0, omega (arith, x.1), omega (arith, x.2), x.3)

-- where some address may be granted, one is found that may
pub free_there : (c : Settings) (J : Journal) (r : Request) → IsTrue (is_in_range c) → has_free (tables_of c J) r ≡ true → (a : ℕ) × IsTrue (is_free (tables_of c J) r a) × (a < 2 ^ 24)
free_there c J r range e =
    let x = open_there (tables_of c J) r J c.pool (c.domain * 65536 + 256) e in
    let fits = pool_fits c range in
    let there = past_there J x.0 c.pool (c.domain * 65536 + 256) x.1 x.2 in
    (x.0, subst (λ (o : Option Past). IsTrue (elim o as (λ _. Bool) [ None ↦ false | Some p ↦ is_open (tables_of c J) r p ])) (sym there) x.3, omega (arith, x.2, fits))
