-- The tables after a tick.
use Rattle.std.proofs.Common.{◌≡◌, ℕ, ◌+◌, ◌*◌, ◌≤◌, not, Bool, true, false, List, [], ◌∷◌, map, filter, Option, Some, None, refl, sym, ap, ◌∙◌, subst, arith, if◌then◌else◌, length, ◌++◌, option_and_then, unwrap_or}
use Rattle.std.specs.Option.{option_map_or}
use Rattle.std.proofs.lemmas.List.{length-map}
use Rattle.std.proofs.lemmas.List.Filters.{length-filter_both}
use Rattle.fab_base.specs.Fabric.{Past}
use Rattle.fab_base.specs.Keyed.{AscendFrom}
use Rattle.fab_base.proofs.KeyedLemmas.{AscendFrom-filter, equal_by_items, list_any-keys-filter}
use Rattle.fab_config.specs.Settings.{Settings}
use Rattle.zone_rules.specs.Joined.{contains}
use Rattle.fab_policy.specs.Changes.{all_ended, TickSteps}
use Rattle.fab_policy.specs.State.{LivePort, Tables, addresses, is_overdue, now_of, overdue, port_at}
use Rattle.fab_policy.specs.Steps.{after, InPool}
use Rattle.fab_policy.specs.declared.event.Event.TheVariants.{Tick}
use Rattle.fab_roster.specs.Changes.{EndsAll, IsSoundRoll, Moves}
use Rattle.fab_roster.specs.Roll.{Roll}
use Rattle.fab_roster.proofs.Found.{filtered}
use Rattle.fab_policy.specs.Outputs.{advertised_after}
use Rattle.fab_policy.specs.Standing.{Contents, Takes}
use Rattle.fab_sending.specs.Sends.{AreSent}
use Rattle.fab_sending.specs.declared.sends.Sends.{Sends}
use Rattle.fab_sending.proofs.Joining.{in_pool as pool_of}
pub use Rattle.fab_sending.proofs.Counting.{live_filter as live_listed}
use Rattle.forward_core.specs.Fabric.{contents_of, IsFabric}
use Rattle.forward_core.specs.Turns.{Keeps}
use Rattle.forward_core.specs.declared.fabric.Fabric.TheInside.{Inside}
use Rattle.forward_core.proofs.TakeLemmas.{takes}

-- N_Ports that are found where they aren't listed are those that aren't overdue
pub left_over : (p : LivePort → Bool) (k : ℕ) (old new : List LivePort) → AscendFrom (λ x. x.address) k old → AscendFrom (λ x. x.address) k new →
    ((a : ℕ) → port_at a new ≡ (if contains a (addresses (filter p old)) then None else port_at a old)) → new ≡ filter (λ x. not (p x)) old
left_over p k old new up up_new found =
    equal_by_items (λ x. x.address) k new (filter (λ x. not (p x)) old) up_new (AscendFrom-filter (λ x. x.address) (λ x. not (p x)) k old up) (λ a.
    found a ∙ (ap (λ b. if b then None else port_at a old) (list_any-keys-filter (λ x. x.address) p k a old up)
    ∙ (same (port_at a old) ∙ sym (filtered (λ x. x.address) (λ x. not (p x)) a k old up))))
  where
    one : (x : LivePort) (b : Bool) → (if b then None else Some x) ≡ (if not b then Some x else None)
    one x true = refl
    one x false = refl

    same : (o : Option LivePort) → (if option_map_or p o false then None else o) ≡ option_and_then (λ x. if not (p x) then Some x else None) o
    same None = refl
    same (Some x) = one x (p x)

pub few_listed : (p : LivePort → Bool) (limit : ℕ) (ports : List LivePort) → length ports ≤ limit → limit ≤ 1000 → length (addresses (filter p ports)) ≤ 1000
few_listed p limit ports few most =
    let all = length-filter_both p (λ x. not (p x)) (λ x. refl) ports in
    let same = length-map (filter p ports) (λ (x : LivePort). x.address) in
    omega (arith, all, same, few, most)

-- N_Ports of a sound roster are those of the pool
pub in_pool : (c : Settings) (r : Roll) → r.lowest ≡ c.domain * 65536 + 256 → r.count ≡ c.pool → IsSoundRoll r → InPool c r.tables.ports
in_pool c r low many sound = pool_of c r.lowest r.count r.tables.ports low many sound.ascending

abbrev made : Option ℕ → List LivePort → List Past → Tables
made clock ports past = record { clock = clock; ports = ports; past = past }

-- a roster whose clock moved on, and in which the overdue then ended, has the tables after the tick
pub ticked : TickSteps → (c : Settings) (m : ℕ) (ids : List ℕ) (old moved new : Roll) → old.lowest ≡ c.domain * 65536 + 256 → old.count ≡ c.pool →
    IsSoundRoll old → IsSoundRoll new → ids ≡ addresses (overdue c old.tables m) → Moves m old moved → EndsAll ids moved new → new.tables ≡ after c old.tables (Tick m (addresses (overdue c old.tables m)))
ticked steps c m ids old moved new low many sound sound_new listed moves ends =
    tables_are new.tables (filter (λ p. not (is_overdue c m p)) old.tables.ports) (map (all_ended (addresses (overdue c old.tables m)) m) old.tables.past) m
    (ends.clock ∙ moves.clock)
    (left_over (is_overdue c m) old.lowest old.tables.ports new.tables.ports sound.ascending.0 (subst (λ l. AscendFrom (λ (x : LivePort). x.address) l new.tables.ports) (ends.bounds.lowest ∙ moves.bounds.lowest) sound_new.ascending.0)
    (λ a. ends.ports a ∙ (ap (λ l. if contains a l then None else port_at a moved.tables.ports) listed ∙ ap (λ l. if contains a (addresses (overdue c old.tables m)) then None else port_at a l) moves.ports)))
    (ends.past ∙ (ap (λ (l : List Past). map (all_ended ids (now_of moved.tables)) l) moves.past ∙ (ap (λ (o : Option ℕ). map (all_ended ids (unwrap_or o 0)) old.tables.past) moves.clock ∙ ap (λ l. map (all_ended l m) old.tables.past) listed)))
    ∙ sym (steps c old.tables m (in_pool c old low many sound))
  where
    tables_are : (T : Tables) (ports : List LivePort) (past : List Past) (at : ℕ) → T.clock ≡ Some at → T.ports ≡ ports → T.past ≡ past → T ≡ record { clock = Some at; ports = ports; past = past }
    tables_are T ports past at e f g = ap (λ o. made o T.ports T.past) e ∙ (ap (λ l. made (Some at) l T.past) f ∙ ap (λ l. made (Some at) ports l) g)

-- a tick's turn: the entry is kept with what it sends, the clock moves on, and the overdue end
pub tick_takes : TickSteps → (F : Contents) (i : Inside) → IsFabric i → (m : ℕ) (listed ids : List ℕ) (s : Sends) (moved new : Roll) (advertised : Option ℕ) →
    Keeps F (Tick m listed) s (contents_of i) → AreSent F.settings F.count F.state (Tick m listed) (F.events ++ Tick m listed ∷ []) s →
    listed ≡ ids → ids ≡ addresses (overdue F.settings F.state.tables m) → Moves m i.roster moved → EndsAll ids moved new → IsSoundRoll new →
    advertised ≡ advertised_after i.config i.advertised (Tick m ids) →
    Takes F (Tick m (addresses (overdue F.settings F.state.tables m))) (contents_of (record i { roster = new; advertised = advertised }))
tick_takes steps F i f m listed ids s moved new advertised k sent copied are moves ends sound advert =
    let e = addresses (overdue F.settings F.state.tables m) in
    takes F (contents_of i) (Tick m e) s new.tables advertised (subst (λ l. Keeps F (Tick m l) s (contents_of i)) (copied ∙ are) k)
    (subst (λ l. AreSent F.settings F.count F.state (Tick m l) (F.events ++ Tick m l ∷ []) s) (copied ∙ are) sent)
    (subst (λ T. new.tables ≡ after F.settings T (Tick m (addresses (overdue F.settings T m)))) k.tables
    (ticked steps F.settings m ids i.roster moved new (subst (λ (c : Settings). i.roster.lowest ≡ c.domain * 65536 + 256) k.settings f.lowest) (subst (λ (c : Settings). i.roster.count ≡ c.pool) k.settings f.pool)
    f.sound sound (are ∙ ap (λ T. addresses (overdue F.settings T m)) (sym k.tables)) moves ends))
    (advert ∙ (ap (λ l. advertised_after i.config i.advertised (Tick m l)) are ∙ (ap (λ c. advertised_after c i.advertised (Tick m e)) k.settings ∙ ap (λ a. advertised_after F.settings a (Tick m e)) k.advertised)))
