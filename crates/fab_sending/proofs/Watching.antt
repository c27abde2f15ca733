-- The watchers after an entry, by those before it.
use Rattle.std.proofs.Common.{◌≡◌, ℕ, ◌&&◌, not, Bool, true, false, if◌then◌else◌, List, map, filter, Option, Some, None, option_and_then, unwrap_or, refl, sym, ap, ◌∙◌}
use Rattle.fab_base.specs.Fabric.{asks_fabric}
use Rattle.fab_config.specs.Settings.{Settings}
use Rattle.zone_rules.specs.Joined.{contains}
use Rattle.fab_policy.specs.Changes.{now_after}
use Rattle.fab_policy.specs.Logins.{ends, grants, n_port, pool, says_watch}
use Rattle.fab_policy.specs.Outputs.{Notice, is_watcher, told, watchers}
use Rattle.fab_policy.specs.State.{LivePort, Tables, port_at}
use Rattle.fab_policy.specs.Steps.{FoundByAddress, InPool, after, fresh, port_after, touched}
use Rattle.fab_policy.specs.declared.event.Event.{Event}
use Rattle.fab_policy.proofs.Found.{found_address}
use Rattle.fab_sending.proofs.Lists.{pick, filter-filter, filter_map-picked, filter_map-same}

-- An entry ends the logins of these addresses, asks for no state changes, and grants no address that stays live.
pub record Leaves (T : Tables) (e : Event) (but : List ℕ) : Type 0 where
  pub calm : (a : ℕ) → says_watch a e ≡ None
  pub ended : (a : ℕ) (p : LivePort) → port_at a T.ports ≡ Some p → contains a but ≡ ends a p.enode e
  pub granted : (a : ℕ) (p : LivePort) → grants a e ≡ true → port_at a T.ports ≡ Some p → contains a but ≡ true

-- a watcher whose name passes, but for these addresses
abbrev pub stays_watcher : List ℕ → (ℕ → Bool) → LivePort → Bool
stays_watcher but ok w = not (contains w.address but) && is_watcher w && ok w.name

-- what a watcher is told, which has this address
abbrev notice : LivePort → ℕ → ℕ → Notice
notice p affected x = record { port = p.enode.port; watcher = x; affected = affected }

-- an N_Port that stays, or is gone
kept : (at a affected : ℕ) (but : List ℕ) (ok : ℕ → Bool) (e : Event) (p : LivePort) → p.address ≡ a → says_watch a e ≡ None → contains a but ≡ ends a p.enode e →
    pick (λ w. is_watcher w && ok w.name) (λ w. told w affected) (if ends a p.enode e then None else Some (touched at a e p))
    ≡ pick (stays_watcher but ok) (λ w. told w affected) (Some p)
kept at a affected but ok e p is says gone =
    ap (λ b. pick (λ w. is_watcher w && ok w.name) (λ w. told w affected) (if b then None else Some (touched at a e p))) (sym gone)
    ∙ by_end (contains a but)
    ∙ ap (λ x. if not (contains x but) && is_watcher p && ok p.name then Some (notice p affected x) else None) (sym is)
  where
    by_end : (b : Bool) → pick (λ w. is_watcher w && ok w.name) (λ w. told w affected) (if b then None else Some (touched at a e p)) ≡ (if not b && is_watcher p && ok p.name then Some (notice p affected a) else None)
    by_end true = refl
    by_end false = ap (λ s. if asks_fabric (unwrap_or s p.watch) && ok p.name then Some (notice p affected a) else None) says

-- one address
each : (at a affected : ℕ) (but : List ℕ) (ok : ℕ → Bool) (e : Event) (o : Option LivePort) → says_watch a e ≡ None → ((p : LivePort) → o ≡ Some p → p.address ≡ a) →
    ((p : LivePort) → o ≡ Some p → contains a but ≡ ends a p.enode e) → (g : Bool) → ((p : LivePort) → g ≡ true → o ≡ Some p → contains a but ≡ true) →
    pick (λ w. is_watcher w && ok w.name) (λ w. told w affected) (if g then Some (fresh at a (n_port e)) else option_and_then (λ p. if ends a p.enode e then None else Some (touched at a e p)) o)
    ≡ pick (stays_watcher but ok) (λ w. told w affected) o
each at a affected but ok e None says is gone true held = refl
each at a affected but ok e None says is gone false held = refl
each at a affected but ok e (Some p) says is gone false held = kept at a affected but ok e p (is p refl) says (gone p refl)
each at a affected but ok e (Some p) says is gone true held =
    ap (λ b. if not b && is_watcher p && ok p.name then Some (told p affected) else None) (sym (ap (λ x. contains x but) (is p refl) ∙ held p refl refl))

-- The watchers after an entry whose names pass are told what those before it are, without the ones that it ends.
pub told_after : FoundByAddress → (c : Settings) (T : Tables) (e : Event) (but : List ℕ) → InPool c T.ports → Leaves T e but → (ok : ℕ → Bool) (affected : ℕ) →
    map (λ w. told w affected) (filter (λ w. ok w.name) (watchers (after c T e))) ≡ map (λ w. told w affected) (filter (stays_watcher but ok) T.ports)
told_after found c T e but asc h ok affected =
    ap (map (λ w. told w affected)) (filter-filter (λ w. ok w.name) is_watcher (after c T e).ports)
    ∙ filter_map-picked (λ w. is_watcher w && ok w.name) (λ w. told w affected) (λ a. port_after (now_after T e) a e (port_at a T.ports)) (pool c)
    ∙ filter_map-same _ (λ a. pick (stays_watcher but ok) (λ w. told w affected) (port_at a T.ports))
    (λ a. each (now_after T e) a affected but ok e (port_at a T.ports) (h.calm a) (found_address a T.ports) (h.ended a) (grants a e) (h.granted a)) (pool c)
    ∙ sym (filter_map-picked (stays_watcher but ok) (λ w. told w affected) (λ a. port_at a T.ports) (pool c))
    ∙ ap (λ ps. map (λ w. told w affected) (filter (stays_watcher but ok) ps)) (sym (found c T.ports (λ a. port_at a T.ports) asc (λ a l r. refl)))
