-- Each right entry keeps tables sound, whichever tables they are.
use Rattle.std.proofs.Common.{◌≡◌, ℕ, ◌+◌, ◌*◌, ◌<◌, ◌≤◌, ◌⊎◌, inl, inr, ◌==◌, ◌&&◌, ◌≢◌, Bool, true, false, not, Some, refl, sym, ap, subst, ◌∙◌, filter, filter_map, length, unwrap_or}
use Rattle.std.proofs.lemmas.Bool.{eqb-false, eqb-true, leb-false, or_from}
use Rattle.std.specs.Option.{option_map_or}
use Rattle.fab_base.specs.Fabric.{PORT_PERIOD, is_silent, same_enode}
use Rattle.fab_base.specs.declared.values.Caught.{Caught}
use Rattle.fab_config.specs.Settings.{Settings}
use Rattle.heard_frames.specs.Heard.{asked}
use Rattle.zone_rules.specs.Joined.{contains}
use Rattle.fab_policy.specs.Free.{Request}
use Rattle.fab_policy.specs.Legal.{IsRightEntry}
use Rattle.fab_policy.specs.Logins.{ends, grants, n_port, pool}
use Rattle.fab_policy.specs.State.{LivePort, Tables, is_overdue, now_of, port_at}
use Rattle.fab_policy.specs.Steps.{after, clock_after, fresh}
use Rattle.fab_policy.specs.Verdicts.{staying}
use Rattle.fab_policy.specs.Written.{IsSound}
use Rattle.fab_policy.specs.declared.event.Event.{Event}
use Rattle.fab_policy.specs.declared.event.Event.TheVariants.{Tick, Frame}
use Rattle.fab_policy.specs.declared.verdict.Verdict.TheVariants.{Granted}
use Rattle.fab_policy.proofs.Found.{ascends, found_by_address, listed_at}
use Rattle.fab_policy.proofs.SoundGrants.{IsAllowed, granted_allowed}
use Rattle.fab_policy.proofs.After.{Came, addressed, came, found}
use Rattle.fab_policy.proofs.PortLists.{Comes, as_much, fails, few_with, few_without, filtered, grants_none, left, names_apart, names_differ, no_bool, no_more, nobody, none_passes, not_less, not_silent, one_more, touched_quiet}

-- the clock of an entry over tables
abbrev pub clock_at : Tables → Event → ℕ
clock_at T e = unwrap_or (clock_after e T.clock) 0

-- the tables are those that are found address by address
whole : (c : Settings) (T : Tables) → IsSound c T → filter_map (λ a. port_at a T.ports) (pool c) ≡ T.ports
whole c T sound = sym (found_by_address c T.ports (λ a. port_at a T.ports) sound.ascending (λ a l r. refl))

-- the request of a right grant may be granted
allowed_by : (c : Settings) (T : Tables) (port index g : ℕ) (caught : Caught) → IsRightEntry c T (Frame port index caught (Granted g)) → (r : Request) × IsAllowed c T port caught r
allowed_by c T port index g caught right = let h = granted_allowed c T port g caught right.1 in (h.0, h.1)

-- ---- names

name_granted : (c : Settings) (T : Tables) (port index g : ℕ) (caught : Caught) (r : Request) → IsAllowed c T port caught r → (t a b : ℕ) (p q : LivePort) → a ≢ b →
    grants a (Frame port index caught (Granted g)) ≡ true → fresh t a (n_port (Frame port index caught (Granted g))) ≡ p → Came c T (Frame port index caught (Granted g)) b q → p.name ≢ q.name
name_granted c T port index g caught r allowed t a b p q ne ga fp (inl f) same = ne (eqb-true a g ga ∙ sym (eqb-true b g f.0))
name_granted c T port index g caught r allowed t a b p q ne ga fp (inr s) same =
    let stays = left c T port caught r s.0 allowed s.3 in
    let fails_name : s.0.name == r.name ≡ false = fails (λ x. not (r.flogi && same_enode x.enode r.enode)) (λ x. x.name == r.name) b s.0 T.ports s.1 stays allowed.other_names in
    let own : (asked caught).port_name ≡ p.name = ap (λ (x : LivePort). x.name) fp in
    let its : s.0.name ≡ q.name = ap (λ (x : LivePort). x.name) s.4 in
    eqb-false s.0.name r.name fails_name (its ∙ sym same ∙ sym own ∙ sym allowed.name)

apart : (c : Settings) (T : Tables) (e : Event) → IsSound c T → IsRightEntry c T e → (a b : ℕ) (p q : LivePort) → a ≢ b → Came c T e a p → Came c T e b q → p.name ≢ q.name
apart c T e sound right a b p q ne (inr s) (inr t) = λ same.
    names_apart T.ports sound.names a b s.0 t.0 ne s.1 t.1 (ap (λ (x : LivePort). x.name) s.4 ∙ same ∙ ap (λ (x : LivePort). x.name) (sym t.4))
apart c T e sound right a b p q ne (inl f) y = by (grants_none e) right f y
  where
    by : ((port index g : ℕ) × (caught : Caught) × (e ≡ Frame port index caught (Granted g))) ⊎ ((x : ℕ) → grants x e ≡ false) → IsRightEntry c T e →
        (grants a e ≡ true) × (fresh (clock_at T e) a (n_port e) ≡ p) → Came c T e b q → p.name ≢ q.name
    by (inr none) r f y = no_bool (sym (none a) ∙ f.0)
    by (inl h) r f y =
        let allowed = allowed_by c T h.0 h.1 h.2 h.3 (subst (IsRightEntry c T) h.4 r) in
        name_granted c T h.0 h.1 h.2 h.3 allowed.0 allowed.1 (clock_at T e) a b p q ne (subst (λ x. grants a x ≡ true) h.4 f.0)
        (subst (λ x. fresh (clock_at T e) a (n_port x) ≡ p) h.4 f.1) (subst (λ x. Came c T x b q) h.4 y)
apart c T e sound right a b p q ne (inr s) (inl f) = λ same. by (grants_none e) right f same
  where
    by : ((port index g : ℕ) × (caught : Caught) × (e ≡ Frame port index caught (Granted g))) ⊎ ((x : ℕ) → grants x e ≡ false) → IsRightEntry c T e →
        (grants b e ≡ true) × (fresh (clock_at T e) b (n_port e) ≡ q) → p.name ≡ q.name → ⊥
    by (inr none) r f same = no_bool (sym (none b) ∙ f.0)
    by (inl h) r f same =
        let allowed = allowed_by c T h.0 h.1 h.2 h.3 (subst (IsRightEntry c T) h.4 r) in
        name_granted c T h.0 h.1 h.2 h.3 allowed.0 allowed.1 (clock_at T e) b a q p (λ i. ne (sym i)) (subst (λ x. grants b x ≡ true) h.4 f.0)
        (subst (λ x. fresh (clock_at T e) b (n_port x) ≡ q) h.4 f.1) (subst (λ x. Came c T x a p) h.4 (inr s)) (sym same)

-- ---- how many

few_ungranted : (c : Settings) (T : Tables) (e : Event) → IsSound c T → ((x : ℕ) → grants x e ≡ false) → length (filter_map (found c T e) (pool c)) ≤ c.limit
few_ungranted c T e sound none =
    few_without (length (filter_map (found c T e) (pool c))) (length (filter (λ q. true) (filter_map (λ a. port_at a T.ports) (pool c)))) (length (filter_map (λ a. port_at a T.ports) (pool c))) (length T.ports) c.limit
    (no_more (found c T e) (λ a. port_at a T.ports) (λ q. true) c.pool (c.domain * 65536 + 256) comes)
    (filtered (λ q. true) (filter_map (λ a. port_at a T.ports) (pool c))) (ap length (whole c T sound)) sound.few
  where
    stayed : (a : ℕ) (p : LivePort) → Came c T e a p → (q : LivePort) × (port_at a T.ports ≡ Some q) × (true ≡ true)
    stayed a p (inl f) = no_bool (sym (none a) ∙ f.0)
    stayed a p (inr s) = (s.0, s.1, refl)

    comes : (a : ℕ) → c.domain * 65536 + 256 ≤ a → a < c.domain * 65536 + 256 + c.pool → Comes (found c T e) (λ a. port_at a T.ports) (λ q. true) a
    comes a l r p x = stayed a p (came c T e a p x)

few_granted : (c : Settings) (T : Tables) (port index g : ℕ) (caught : Caught) (r : Request) → IsSound c T → IsAllowed c T port caught r →
    length (filter_map (found c T (Frame port index caught (Granted g))) (pool c)) ≤ c.limit
few_granted c T port index g caught r sound allowed =
    few_with (length (filter_map (found c T (Frame port index caught (Granted g))) (pool c))) (length (filter keep (filter_map (λ a. port_at a T.ports) (pool c)))) (length (staying c T r)) c.limit
    (one_more (found c T (Frame port index caught (Granted g))) (λ a. port_at a T.ports) keep g c.pool (c.domain * 65536 + 256) comes)
    (ap (λ l. length (filter keep l)) (whole c T sound)) (leb-false c.limit (length (staying c T r)) allowed.room)
  where
    keep : LivePort → Bool
    keep p = not (r.flogi && same_enode p.enode r.enode)

    stayed : (a : ℕ) (p : LivePort) → (a ≡ g → ⊥) → Came c T (Frame port index caught (Granted g)) a p → (q : LivePort) × (port_at a T.ports ≡ Some q) × (keep q ≡ true)
    stayed a p ne (inl f) = absurd (ne (eqb-true a g f.0))
    stayed a p ne (inr s) = (s.0, s.1, left c T port caught r s.0 allowed s.3)

    comes : (a : ℕ) → c.domain * 65536 + 256 ≤ a → a < c.domain * 65536 + 256 + c.pool → (a ≡ g → ⊥) → Comes (found c T (Frame port index caught (Granted g))) (λ a. port_at a T.ports) keep a
    comes a l r' ne p x = stayed a p ne (came c T (Frame port index caught (Granted g)) a p x)

few_after : (c : Settings) (T : Tables) (e : Event) → IsSound c T → IsRightEntry c T e → length (filter_map (found c T e) (pool c)) ≤ c.limit
few_after c T e sound right = by (grants_none e)
  where
    by : ((port index g : ℕ) × (caught : Caught) × (e ≡ Frame port index caught (Granted g))) ⊎ ((x : ℕ) → grants x e ≡ false) → length (filter_map (found c T e) (pool c)) ≤ c.limit
    by (inr none) = few_ungranted c T e sound none
    by (inl h) =
        let allowed = allowed_by c T h.0 h.1 h.2 h.3 (subst (IsRightEntry c T) h.4 right) in
        subst (λ x. length (filter_map (found c T x) (pool c)) ≤ c.limit) (sym h.4) (few_granted c T h.0 h.1 h.2 h.3 allowed.0 sound allowed.1)

-- ---- silence

-- who stays isn't silent at the clock of the entry
was_quiet : (c : Settings) (T : Tables) (e : Event) → IsSound c T → IsRightEntry c T e → (a : ℕ) (q : LivePort) → port_at a T.ports ≡ Some q → ends a q.enode e ≡ false → is_overdue c (clock_at T e) q ≡ false
was_quiet c T (Frame port index caught verdict) sound right a q is stays = none_passes (is_overdue c (now_of T)) a q T.ports sound.quiet is
was_quiet c T (Tick m ended) sound right a q is stays =
    sym (listed_at (is_overdue c m) (c.domain * 65536 + 256) (c.domain * 65536 + 256 + c.pool) a T.ports sound.ascending ∙ ap (λ o. option_map_or (is_overdue c m) o false) is)
    ∙ ap (contains a) (sym right) ∙ stays

quiet_after : (c : Settings) (T : Tables) (e : Event) → IsSound c T → IsRightEntry c T e → (a : ℕ) (p : LivePort) → Came c T e a p → is_overdue c (clock_at T e) p ≡ false
quiet_after c T e sound right a p (inl f) =
    let t = clock_at T e in
    subst (λ q. is_overdue c t q ≡ false) f.1 (or_from (is_silent c.period t t) (is_silent PORT_PERIOD t t) (not_silent c.period t) (not_silent PORT_PERIOD t))
quiet_after c T e sound right a p (inr s) =
    subst (λ q. is_overdue c (clock_at T e) q ≡ false) s.4 (touched_quiet c (clock_at T e) a e s.0 (was_quiet c T e sound right a s.0 s.1 s.3))

-- ---- all of it

pub tables_sound : (c : Settings) (T : Tables) (e : Event) → IsSound c T → IsRightEntry c T e → IsSound c (after c T e)
tables_sound c T e sound right = record {
  ascending = ascends (found c T e) (addressed c T e) c.pool (c.domain * 65536 + 256) (c.domain * 65536 + 256 + c.pool) (as_much (c.domain * 65536 + 256 + c.pool));
  names = names_differ (found c T e) c.pool (c.domain * 65536 + 256)
      (λ a b p q l m r x y. apart c T e sound right a b p q (not_less a b m) (came c T e a p x) (came c T e b q y));
  few = few_after c T e sound right;
  quiet = nobody (found c T e) (is_overdue c (clock_at T e)) c.pool (c.domain * 65536 + 256) (λ a p l r x. quiet_after c T e sound right a p (came c T e a p x));
}
