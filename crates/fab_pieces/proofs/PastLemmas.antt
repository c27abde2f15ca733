-- The past of each address goes on saying who holds it, whichever tables an entry changes.
use Rattle.std.proofs.Common.{◌≡◌, ℕ, zero, suc, ◌+◌, ◌*◌, ◌<◌, ◌≤◌, inl, inr, ◌==◌, Bool, true, false, cond, List, [], ◌∷◌, Option, Some, None, is_some, refl, sym, ap, subst, ◌∙◌, arith, map, option_map, option_and_then, unwrap_or, if◌then◌else◌}
use Rattle.std.proofs.lemmas.Bool.{eqb-true}
use Rattle.fab_base.specs.Counting.{counting}
use Rattle.fab_base.specs.Fabric.{Past, past_at}
use Rattle.fab_base.specs.declared.values.Enode.{Enode}
use Rattle.fab_config.specs.Settings.{Settings}
use Rattle.fab_policy.specs.Logins.{ends, grants, n_port, pool}
use Rattle.fab_policy.specs.State.{LivePort, Tables, port_at}
use Rattle.fab_policy.specs.Steps.{after, fresh, past_after, touched}
use Rattle.fab_policy.specs.declared.event.Event.{Event}
use Rattle.fab_policy.proofs.Steps.{present}
use Rattle.fab_pieces.specs.Sound.{AreFreed, EachPort, IsFreed, IsHolder}
use Rattle.fab_policy.proofs.Found.{found_address}
use Rattle.fab_policy.proofs.After.{Came, addressed, found, live_after, past_address_is, past_changed, past_kept, past_there, places_kept}
use Rattle.fab_policy.proofs.PortLists.{no_some, some_none}
use Rattle.fab_policy.proofs.SoundTables.{clock_at}

-- an address that has a past is one of the pool
pool_has : (a n k : ℕ) (past : List Past) (q : Past) → map (λ (x : Past). x.address) past ≡ counting k n → past_at a past ≡ Some q → (k ≤ a) × (a < k + n)
pool_has a n k [] q e is = absurd (cc)
pool_has a zero k (x ∷ past) q e is = absurd (cc)
pool_has a (suc n) k (x ∷ past) q e is = go (x.address == a) refl is (pool_has a n (k + 1) past q (let rest : map (λ (y : Past). y.address) past ≡ counting (k + 1) n = cc in rest))
  where
    head : x.address ≡ k
    head = cc

    go : (b : Bool) → x.address == a ≡ b → cond b (Some x) (past_at a past) ≡ Some q → (past_at a past ≡ Some q → (k + 1 ≤ a) × (a < k + 1 + n)) → (k ≤ a) × (a < k + suc n)
    go true t i later = let same = eqb-true x.address a t in (omega (arith, same, head), omega (arith, same, head))
    go false t i later = let h = later i in (omega (arith, h.0), omega (arith, h.1))

-- ---- one past

-- it is held, it ended, or it is as it was
abbrev pub held_by : ℕ → ℕ → Past
held_by a name = record { address = a; name = Some name; ended = None }

abbrev pub ended_at : ℕ → ℕ → Past → Past
ended_at t a q = record { address = a; name = q.name; ended = Some t }

pub granted : (t a : ℕ) (e : Event) (o : Option Enode) (q : Past) → grants a e ≡ true → past_after t a e o q ≡ held_by a (n_port e).name
granted t a e o q g = ap (λ b. if b then held_by a (n_port e).name else unwrap_or (option_map (λ x. if ends a x e then ended_at t a q else q) o) q) g

pub left_alone : (t a : ℕ) (e : Event) (q : Past) → grants a e ≡ false → past_after t a e None q ≡ q
left_alone t a e q g = ap (λ b. if b then held_by a (n_port e).name else q) g

pub ended : (t a : ℕ) (e : Event) (x : Enode) (q : Past) → grants a e ≡ false → ends a x e ≡ true → past_after t a e (Some x) q ≡ ended_at t a q
ended t a e x q g y = ap (λ b. if b then held_by a (n_port e).name else (if ends a x e then ended_at t a q else q)) g ∙ ap (λ b. if b then ended_at t a q else q) y

pub kept : (t a : ℕ) (e : Event) (x : Enode) (q : Past) → grants a e ≡ false → ends a x e ≡ false → past_after t a e (Some x) q ≡ q
kept t a e x q g y = ap (λ b. if b then held_by a (n_port e).name else (if ends a x e then ended_at t a q else q)) g ∙ ap (λ b. if b then ended_at t a q else q) y

-- ---- all pasts

abbrev pub holder : Tables → ℕ → Option Enode
holder T a = option_map (λ x. x.enode) (port_at a T.ports)

change : Tables → Event → Past → Past
change T e q = past_after (clock_at T e) q.address e (holder T q.address) q

change_keeps : (T : Tables) (e : Event) (q : Past) → (change T e q).address ≡ q.address
unfolding change
change_keeps T e q = past_kept (clock_at T e) e (λ x. holder T x.address) q

pasts_are : (c : Settings) (T : Tables) (e : Event) → (after c T e).past ≡ map (change T e) T.past
unfolding change
pasts_are c T e = refl

pub places_after : (c : Settings) (T : Tables) (e : Event) → map (λ (q : Past). q.address) T.past ≡ pool c → map (λ (q : Past). q.address) (after c T e).past ≡ pool c
places_after c T e places = ap (map (λ (q : Past). q.address)) (pasts_are c T e) ∙ places_kept (change T e) (change_keeps T e) T.past ∙ places

changed_at : (T : Tables) (e : Event) (a : ℕ) (q : Past) → q.address ≡ a → change T e q ≡ past_after (clock_at T e) a e (holder T a) q
unfolding change
changed_at T e a q same = ap (λ (n : ℕ). past_after (clock_at T e) n e (holder T n) q) same

pub past_is : (c : Settings) (T : Tables) (e : Event) (a : ℕ) (q : Past) → past_at a T.past ≡ Some q → past_at a (after c T e).past ≡ Some (past_after (clock_at T e) a e (holder T a) q)
past_is c T e a q is =
    ap (past_at a) (pasts_are c T e) ∙ past_changed (change T e) (change_keeps T e) a T.past ∙ ap (option_map (change T e)) is
    ∙ ap Some (changed_at T e a q (past_address_is a T.past q is))

pub past_none : (c : Settings) (T : Tables) (e : Event) (a : ℕ) → past_at a T.past ≡ None → past_at a (after c T e).past ≡ None
past_none c T e a is = ap (past_at a) (pasts_are c T e) ∙ past_changed (change T e) (change_keeps T e) a T.past ∙ ap (option_map (change T e)) is

-- the same of what a live N_Port's past says, at its own address
holds_at : (T : Tables) → EachPort T (IsHolder T) → (a : ℕ) (p : LivePort) → port_at a T.ports ≡ Some p → past_at a T.past ≡ Some (held_by a p.name)
holds_at T held a p is = subst (λ (b : ℕ). past_at b T.past ≡ Some (held_by b p.name)) (found_address a T.ports p is) (held a p is)

-- ---- who is live

came_held : (c : Settings) (T : Tables) (e : Event) → EachPort T (IsHolder T) → (a : ℕ) (p : LivePort) → (q : Past) × (past_at a T.past ≡ Some q) → Came c T e a p → past_at a (after c T e).past ≡ Some (held_by a p.name)
came_held c T e held a p there (inl f) =
    past_is c T e a there.0 there.1 ∙ ap Some (granted (clock_at T e) a e (holder T a) there.0 f.0) ∙ ap (λ (x : LivePort). Some (held_by a x.name)) f.1
came_held c T e held a p there (inr s) =
    past_is c T e a (held_by a s.0.name) (holds_at T held a s.0 s.1)
    ∙ ap (λ o. Some (past_after (clock_at T e) a e (option_map (λ x. x.enode) o) (held_by a s.0.name))) s.1
    ∙ ap Some (kept (clock_at T e) a e s.0.enode (held_by a s.0.name) s.2 s.3)
    ∙ ap (λ (x : LivePort). Some (held_by a x.name)) s.4

pub held_after : (c : Settings) (T : Tables) (e : Event) → map (λ (q : Past). q.address) T.past ≡ pool c → EachPort T (IsHolder T) → EachPort (after c T e) (IsHolder (after c T e))
held_after c T e places held a p is =
    let live = live_after c T e a p is in
    let there = past_there a c.pool (c.domain * 65536 + 256) T.past places live.0 live.1 in
    subst (λ (b : ℕ). past_at b (after c T e).past ≡ Some (held_by b p.name)) (sym (found_address a (after c T e).ports p is)) (came_held c T e held a p there live.3)

-- ---- who isn't

-- what is found where nobody is found: nothing was granted, and who was there has gone
gone_freed : (c : Settings) (T : Tables) (e : Event) → EachPort T (IsHolder T) → AreFreed T → (a : ℕ) (q : Past) → past_at a T.past ≡ Some q → (g : Bool) → grants a e ≡ g → (o : Option LivePort) → port_at a T.ports ≡ o →
    (if g then Some (fresh (clock_at T e) a (n_port e)) else option_and_then (λ p. if ends a p.enode e then None else Some (touched (clock_at T e) a e p)) o) ≡ None → IsFreed (past_after (clock_at T e) a e (option_map (λ x. x.enode) o) q)
gone_freed c T e held freed a q was true g o is none = some_none (fresh (clock_at T e) a (n_port e)) none
gone_freed c T e held freed a q was false g None is none = subst IsFreed (sym (left_alone (clock_at T e) a e q g)) (freed a q is was)
gone_freed c T e held freed a q was false g (Some p) is none = by_end (ends a p.enode e) refl none
  where
    had : q ≡ held_by a p.name
    had = ap (λ (o : Option Past). unwrap_or o q) (sym was ∙ holds_at T held a p is)

    by_end : (b : Bool) → ends a p.enode e ≡ b → (if b then None else Some (touched (clock_at T e) a e p)) ≡ None → IsFreed (past_after (clock_at T e) a e (Some p.enode) q)
    by_end false y none = some_none (touched (clock_at T e) a e p) none
    by_end true y none = subst IsFreed (sym (ended (clock_at T e) a e p.enode q g y)) (inr (ap (λ (z : Past). is_some z.name) had, refl))

pub freed_after : (c : Settings) (T : Tables) (e : Event) → map (λ (q : Past). q.address) T.past ≡ pool c → EachPort T (IsHolder T) → AreFreed T → AreFreed (after c T e)
freed_after c T e places held freed a q gone is = by (past_at a T.past) refl
  where
    by : (o : Option Past) → past_at a T.past ≡ o → IsFreed q
    by None was = no_some q (sym (past_none c T e a was) ∙ is)
    by (Some old) was =
        let inside = pool_has a c.pool (c.domain * 65536 + 256) T.past old places was in
        let none : found c T e a ≡ None = sym (present (found c T e) (addressed c T e) c.pool (c.domain * 65536 + 256) a inside.0 inside.1) ∙ gone in
        let same : past_after (clock_at T e) a e (holder T a) old ≡ q = ap (λ (o : Option Past). unwrap_or o q) (sym (past_is c T e a old was) ∙ is) in
        subst IsFreed same (gone_freed c T e held freed a old was (grants a e) refl (port_at a T.ports) refl none)
