-- What one more entry changes.
use Rattle.std.proofs.Common.{◌≡◌, ℕ, Bool, true, false, List, [], ◌∷◌, Option, Some, None, refl, sym, subst, ap, ◌∙◌, arith, is_some, not, ◌&&◌, ◌==◌, cond, ◌<◌, ◌≤◌, ◌*◌, ◌≢◌, ◌⊎◌, inl, inr, option_and_then, option_map, filter_map, if◌then◌else◌, unwrap_or, map, zero, suc, ◌+◌}
use Rattle.std.proofs.lemmas.Grind.{common_steps}
use Rattle.std.proofs.lemmas.Bool.Decides.{nat_tests}
use Rattle.std.specs.List.{list_any, cons_option}
use Rattle.std.proofs.lemmas.Bool.{and_from}
use Rattle.std.proofs.lemmas.Bool.Decides.{Decides-eqb}
use Rattle.std.proofs.lemmas.Slice.Eq.{bytes_eq-Decides}
use Rattle.std.specs.Str.{bytes_eq}
use Rattle.fab_base.specs.Fabric.{Past, same_enode}
use Rattle.fab_base.specs.declared.values.Enode.{Enode}
use Rattle.fab_policy.specs.Journal.{Journal, latest, now, clock}
use Rattle.ct_messages.specs.Ct.{Ask}
use Rattle.ct_messages.specs.declared.TypeMap.{TypeMap}
use Rattle.ct_messages.specs.Server.{Values, NO_TYPES, NO_FEATURES, first_values}
use Rattle.fab_policy.specs.Registered.{newest, feature, values, registrations, registration, says_node, says_types, says_feature, says_symbol, says_node_symbol}
use Rattle.fab_policy.specs.State.{LivePort, Tables, with_all, live_port, past_of, past_made, port_at, tables_of}
use Rattle.fab_base.specs.Counting.{counting}
use Rattle.fab_policy.specs.Logins.{NPort, login, is_live, end_clock, up_to_end, pool, grants, n_port, ends, last_grant, since, server, watch, says_server, says_watch, node_heard, port_heard, hears_node, hears_port}
use Rattle.fab_policy.specs.Steps.{login_after, StepsLogin, said, features_after, values_after, touched, fresh, port_after, past_after, clock_after, after, Steps}
use Rattle.fab_policy.specs.declared.event.Event.{Event}
use Rattle.fab_policy.specs.declared.event.Event.TheVariants.{Tick, Frame}
use Rattle.fab_policy.specs.declared.verdict.Verdict.TheVariants.{Granted}
use Rattle.heard_frames.specs.Heard.{sender}

-- a login that stood is left where neither an earlier entry nor this one ended it
kept : (a : ℕ) (e : Event) (s : List Event) (g : Option NPort) →
    option_and_then (λ p. if list_any (ends a p.enode) (e ∷ s) then None else Some p) g
    ≡ option_and_then (λ p. if ends a p.enode e then None else Some p) (option_and_then (λ p. if list_any (ends a p.enode) s then None else Some p) g)
kept a e s None = refl
kept a e s (Some p) = grind (arith, common_steps)

pub steps_login : StepsLogin
steps_login a e J =
    elim (grants a e) as (λ b.
    option_and_then (λ p. if list_any (ends a p.enode) (elim b as (λ _. List Event) [ true ↦ [] | false ↦ e ∷ since a J ]) then None else Some p)
    (elim (if b then Some (n_port e) else None) as (λ _. Option NPort) [ Some x ↦ Some x | None ↦ last_grant a J ])
    ≡ (if b then Some (n_port e) else option_and_then (λ p. if ends a p.enode e then None else Some p) (login a J)))
    [ true ↦ refl | false ↦ kept a e (since a J) (last_grant a J) ]

-- ---- a live N_Port

latest_step : {X : Type 0} → (says : Event → Option X) (e : Event) (s : List Event) (d : X) →
    unwrap_or (latest says (e ∷ s)) d ≡ unwrap_or (says e) (unwrap_or (latest says s) d)
latest_step says e s d = elim (says e) as (λ o. unwrap_or (elim o [ Some x ↦ Some x | None ↦ latest says s ]) d ≡ unwrap_or o (unwrap_or (latest says s) d)) [ Some x ↦ refl | None ↦ refl ]

-- the registrations with one more that may be there
newest_step : {X : Type 0} → (says : Ask → Option X) (asked : Option Ask) (asks : List Ask) (d : X) →
    unwrap_or (newest says (cons_option asked asks)) d ≡ said asked says (unwrap_or (newest says asks) d)
newest_step says None asks d = refl
newest_step says (Some ask) asks d = elim (says ask) as (λ o. unwrap_or (elim o [ Some x ↦ Some x | None ↦ newest says asks ]) d ≡ unwrap_or o (unwrap_or (newest says asks) d)) [ Some x ↦ refl | None ↦ refl ]

features_step : (asked : Option Ask) (asks : List Ask) (n k : ℕ) →
    map (λ t. feature t (cons_option asked asks)) (counting k n) ≡ features_after asked k (map (λ t. feature t asks) (counting k n))
features_step asked asks zero k = refl
features_step asked asks (suc n) k = cong2 (newest_step (says_feature k) asked asks 0) (features_step asked asks n (k + 1))
  where
    cong2 : {x y : ℕ} {xs ys : List ℕ} → x ≡ y → xs ≡ ys → x ∷ xs ≡ y ∷ ys
    cong2 e f = cc

same_values : {n n' : ℕ} {t t' : TypeMap} {f f' s s' y y' : List ℕ} → n ≡ n' → t ≡ t' → f ≡ f' → s ≡ s' → y ≡ y' →
    (let v : Values = record { node_name = n; types = t; features = f; symbol = s; node_symbol = y } in v) ≡ record { node_name = n'; types = t'; features = f'; symbol = s'; node_symbol = y' }
same_values e1 e2 e3 e4 e5 = cc

values_step : (first : ℕ) (asked : Option Ask) (asks : List Ask) → values first (cons_option asked asks) ≡ values_after first asked (values first asks)
values_step first asked asks = same_values (newest_step (says_node first) asked asks first) (newest_step says_types asked asks NO_TYPES) (features_step asked asks 256 0)
    (newest_step says_symbol asked asks []) (newest_step says_node_symbol asked asks [])

no_values : (first : ℕ) → values first [] ≡ first_values first
unfolding NO_FEATURES
no_values first = refl

since_more : (a : ℕ) (e : Event) (J : Journal) → grants a e ≡ false → since a (e ∷ J) ≡ e ∷ since a J
since_more a e J g = subst (λ b. elim b as (λ _. List Event) [ true ↦ [] | false ↦ e ∷ since a J ] ≡ e ∷ since a J) (sym g) refl

-- ENode and address are heard or not
node_step : (n : Enode) (e : Event) (J : Journal) → node_heard n (e ∷ J) ≡ (if hears_node n e then now (e ∷ J) else node_heard n J)
node_step n e J = grind (arith, common_steps)

port_step : (a : ℕ) (e : Event) (J : Journal) → port_heard a (e ∷ J) ≡ (if hears_port a e then now (e ∷ J) else port_heard a J)
port_step a e J = grind (arith, common_steps)

server_step : (a : ℕ) (e : Event) (J : Journal) → grants a e ≡ false → server a (e ∷ J) ≡ unwrap_or (says_server a e) (server a J)
server_step a e J g = rw (since_more a e J g) (latest_step (says_server a) e (since a J) None)

watch_step : (a : ℕ) (e : Event) (J : Journal) → grants a e ≡ false → watch a (e ∷ J) ≡ unwrap_or (says_watch a e) (watch a J)
watch_step a e J g = rw (since_more a e J g) (latest_step (says_watch a) e (since a J) 0)

registrations_step : (a : ℕ) (e : Event) (J : Journal) → grants a e ≡ false →
    registrations a (e ∷ J) ≡ cons_option (registration a e) (registrations a J)
registrations_step a e J g = rw (since_more a e J g) refl

-- N_Ports with equal parts are equal
made : ℕ → NPort → Option ℕ → ℕ → ℕ → ℕ → Values → LivePort
made a p server node_heard port_heard watch v = record {
  address = a;
  name = p.name;
  node = p.node;
  enode = p.enode;
  server = server;
  node_heard = node_heard;
  port_heard = port_heard;
  watch = watch;
  values = v;
}

same_made : (a : ℕ) (p : NPort) (sv sv' : Option ℕ) (nh nh' ph ph' wa wa' : ℕ) (v v' : Values) → sv ≡ sv' → nh ≡ nh' → ph ≡ ph' → wa ≡ wa' → v ≡ v' →
    made a p sv nh ph wa v ≡ made a p sv' nh' ph' wa' v'
same_made a p sv sv' nh nh' ph ph' wa wa' v v' e1 e2 e3 e4 e5 = cc

stays : (a : ℕ) (e : Event) (J : Journal) (p : NPort) → grants a e ≡ false → with_all a (e ∷ J) p ≡ touched (now (e ∷ J)) a e (with_all a J p)
unfolding made
stays a e J p g = same_made a p _ _ _ _ _ _ _ _ _ _ (server_step a e J g) (node_step p.enode e J) (port_step a e J) (watch_step a e J g)
    (ap (values p.node) (registrations_step a e J g) ∙ values_step p.node (registration a e) (registrations a J))

same_self : (x : Enode) → same_enode x x ≡ true
same_self x = and_from (x.port == x.port) (bytes_eq x.mac x.mac) ((Decides-eqb x.port x.port).1 refl) ((bytes_eq-Decides x.mac x.mac).1 refl)

-- an entry that grants an address hears its ENode and itself
granted_heard : (a : ℕ) (e : Event) → grants a e ≡ true → (hears_node (n_port e).enode e ≡ true) × (hears_port a e ≡ true)
granted_heard a (Tick m ended) g = cc
granted_heard a (Frame port index caught (Granted b)) g = (same_self (sender port caught), g)
granted_heard a (Frame port index caught _) g = cc

since_grant : (a : ℕ) (e : Event) (J : Journal) → grants a e ≡ true → since a (e ∷ J) ≡ []
since_grant a e J g = subst (λ b. elim b as (λ _. List Event) [ true ↦ [] | false ↦ e ∷ since a J ] ≡ []) (sym g) refl

begins : (a : ℕ) (e : Event) (J : Journal) → grants a e ≡ true → with_all a (e ∷ J) (n_port e) ≡ fresh (now (e ∷ J)) a (n_port e)
unfolding made
begins a e J g = same_made a (n_port e) _ _ _ _ _ _ _ _ _ _
    (ap (λ s. unwrap_or (latest (says_server a) s) None) none)
    (node_step (n_port e).enode e J ∙ ap (λ b. if b then now (e ∷ J) else node_heard (n_port e).enode J) (granted_heard a e g).0)
    (port_step a e J ∙ ap (λ b. if b then now (e ∷ J) else port_heard a J) (granted_heard a e g).1)
    (ap (λ s. unwrap_or (latest (says_watch a) s) 0) none)
    (ap (λ s. values (n_port e).node (filter_map (registration a) s)) none ∙ no_values (n_port e).node)
  where
    none : since a (e ∷ J) ≡ []
    none = since_grant a e J g

-- what a live N_Port becomes
left_or_ended : (a : ℕ) (e : Event) (J : Journal) → grants a e ≡ false → (l : Option NPort) →
    option_map (with_all a (e ∷ J)) (option_and_then (λ p. if ends a p.enode e then None else Some p) l)
    ≡ option_and_then (λ q. if ends a q.enode e then None else Some (touched (now (e ∷ J)) a e q)) (option_map (with_all a J) l)
left_or_ended a e J g None = refl
left_or_ended a e J g (Some p) =
    elim (ends a p.enode e) as (λ b. option_map (with_all a (e ∷ J)) (if b then None else Some p) ≡ (if b then None else Some (touched (now (e ∷ J)) a e (with_all a J p))))
    [ true ↦ refl | false ↦ ap Some (stays a e J p g) ]

pub live_step : (a : ℕ) (e : Event) (J : Journal) → live_port a (e ∷ J) ≡ port_after (now (e ∷ J)) a e (live_port a J)
live_step a e J = ap (option_map (with_all a (e ∷ J))) (steps_login a e J) ∙ by_grant (grants a e) refl
  where
    by_grant : (b : Bool) → grants a e ≡ b →
        option_map (with_all a (e ∷ J)) (if b then Some (n_port e) else option_and_then (λ p. if ends a p.enode e then None else Some p) (login a J))
        ≡ (if b then Some (fresh (now (e ∷ J)) a (n_port e)) else option_and_then (λ q. if ends a q.enode e then None else Some (touched (now (e ∷ J)) a e q)) (live_port a J))
    by_grant true g = ap Some (begins a e J g)
    by_grant false g = left_or_ended a e J g (login a J)

-- ---- the past of an address

-- the holder of an address: the ENode of its login
abbrev holder_of : Option NPort → Option Enode
holder_of l = option_map (λ p. p.enode) l

-- the last grant l stood or had ended, and the entry, which doesn't grant the address, ends it or not
past_left : (a : ℕ) (e : Event) (J : Journal) (s : List Event) (l : Option NPort) (t : ℕ) →
    let L : Option NPort = option_and_then (λ p. if list_any (ends a p.enode) s then None else Some p) l in
    let M : Option NPort = option_and_then (λ p. if ends a p.enode e then None else Some p) L in
    past_made a l (is_some M) (elim (is_some L && not (is_some M)) as (λ _. ℕ) [ true ↦ now (e ∷ J) | false ↦ t ])
    ≡ unwrap_or (option_map (λ x. if ends a x e then record { address = a; name = (past_made a l (is_some L) t).name; ended = Some (now (e ∷ J)) } else past_made a l (is_some L) t) (holder_of L)) (past_made a l (is_some L) t)
past_left a e J s None t = refl
past_left a e J s (Some p) t =
    elim (list_any (ends a p.enode) s) as (λ b.
    let L : Option NPort = if b then None else Some p in
    let M : Option NPort = option_and_then (λ p. if ends a p.enode e then None else Some p) L in
    past_made a (Some p) (is_some M) (elim (is_some L && not (is_some M)) as (λ _. ℕ) [ true ↦ now (e ∷ J) | false ↦ t ])
    ≡ unwrap_or (option_map (λ x. if ends a x e then record { address = a; name = (past_made a (Some p) (is_some L) t).name; ended = Some (now (e ∷ J)) } else past_made a (Some p) (is_some L) t) (holder_of L)) (past_made a (Some p) (is_some L) t)) [
      | true ↦ refl
      | false ↦ elim (ends a p.enode e) as (λ x.
          let M : Option NPort = if x then None else Some p in
          past_made a (Some p) (is_some M) (elim (not (is_some M)) as (λ _. ℕ) [ true ↦ now (e ∷ J) | false ↦ t ])
          ≡ (if x then record { address = a; name = Some p.name; ended = Some (now (e ∷ J)) } else past_made a (Some p) true t))
          [ true ↦ refl | false ↦ refl ]
    ]

now_of_either : (b : Bool) (x y : Journal) → now (elim b as (λ _. Journal) [ true ↦ x | false ↦ y ]) ≡ elim b as (λ _. ℕ) [ true ↦ now x | false ↦ now y ]
now_of_either true x y = refl
now_of_either false x y = refl

-- the ENode that holds an address is that of its live N_Port
same_holder : (a : ℕ) (J : Journal) (l : Option NPort) → holder_of l ≡ option_map (λ q. q.enode) (option_map (with_all a J) l)
same_holder a J None = refl
same_holder a J (Some p) = refl

pub past_step : (a : ℕ) (e : Event) (J : Journal) → past_of a (e ∷ J) ≡ past_after (now (e ∷ J)) a e (option_map (λ q. q.enode) (live_port a J)) (past_of a J)
past_step a e J = first ∙ by_grant (grants a e) refl
  where
    by : Option NPort → Bool → Past
    by M b = past_made a (elim (if b then Some (n_port e) else None) as (λ _. Option NPort) [ Some x ↦ Some x | None ↦ last_grant a J ]) (is_some M)
        (elim (is_live a J && not (is_some M)) as (λ _. ℕ) [ true ↦ now (e ∷ J) | false ↦ end_clock a J ])

    first : past_of a (e ∷ J) ≡ by (login_after a e (login a J)) (grants a e)
    first = ap (λ t. past_made a (last_grant a (e ∷ J)) (is_live a (e ∷ J)) t) (now_of_either (is_live a J && not (is_live a (e ∷ J))) (e ∷ J) (up_to_end a J))
        ∙ ap (λ M. by M (grants a e)) (steps_login a e J)

    by_grant : (b : Bool) → grants a e ≡ b →
        by (if b then Some (n_port e) else option_and_then (λ p. if ends a p.enode e then None else Some p) (login a J)) b
        ≡ (if b then record { address = a; name = Some (n_port e).name; ended = None }
        else unwrap_or (option_map (λ x. if ends a x e then record { address = a; name = (past_of a J).name; ended = Some (now (e ∷ J)) } else past_of a J) (option_map (λ q. q.enode) (live_port a J))) (past_of a J))
    by_grant true g = refl
    by_grant false g = past_left a e J (since a J) (last_grant a J) (end_clock a J)
        ∙ ap (λ h. unwrap_or (option_map (λ x. if ends a x e then record { address = a; name = (past_of a J).name; ended = Some (now (e ∷ J)) } else past_of a J) h) (past_of a J)) (same_holder a J (login a J))

-- ---- the tables

-- the ports of a table have the addresses that they stand for
abbrev pub AreAddressed : (ℕ → Option LivePort) → Type 0
AreAddressed f = (a : ℕ) (p : LivePort) → f a ≡ Some p → p.address ≡ a

pub live_addressed : (J : Journal) → AreAddressed (λ a. live_port a J)
live_addressed J a p h = of_login (login a J) h
  where
    of_login : (l : Option NPort) → option_map (with_all a J) l ≡ Some p → p.address ≡ a
    of_login None h = cc
    of_login (Some q) h = ap (λ (o : Option LivePort). unwrap_or (option_map (λ r. r.address) o) a) (sym h)

-- a number that isn't another
differ : (k a : ℕ) → k ≢ a → k == a ≡ false
differ k a h = grind (arith, nat_tests)

-- the first of a table stands for another address
skipped : (f : ℕ → Option LivePort) → AreAddressed f → (k a : ℕ) → k ≢ a → (o : Option LivePort) → f k ≡ o → (rest : List LivePort) → port_at a (cons_option o rest) ≡ port_at a rest
skipped f h k a ne None e rest = refl
skipped f h k a ne (Some p) e rest = ap (λ b. cond b (Some p) (port_at a rest)) (ap (λ x. x == a) (h k p e) ∙ differ k a ne)

-- an address below those of a table stands for nobody there
pub absent : (f : ℕ → Option LivePort) → AreAddressed f → (n k a : ℕ) → a < k → port_at a (filter_map f (counting k n)) ≡ None
absent f h zero k a lt = refl
absent f h (suc n) k a lt = skipped f h k a (omega arith) (f k) refl (filter_map f (counting (k + 1) n)) ∙ absent f h n (k + 1) a (omega arith)

-- nor does one above them
pub beyond : (f : ℕ → Option LivePort) → AreAddressed f → (n k a : ℕ) → k + n ≤ a → port_at a (filter_map f (counting k n)) ≡ None
beyond f h zero k a le = refl
beyond f h (suc n) k a le = skipped f h k a (omega arith) (f k) refl (filter_map f (counting (k + 1) n)) ∙ beyond f h n (k + 1) a (omega arith)

-- the first of a table stands for its own address
first_found : (f : ℕ → Option LivePort) → AreAddressed f → (k : ℕ) → (o : Option LivePort) → f k ≡ o → (rest : List LivePort) → port_at k rest ≡ None → port_at k (cons_option o rest) ≡ o
first_found f h k None e rest none = none
first_found f h k (Some p) e rest none = ap (λ b. cond b (Some p) (port_at k rest)) (ap (λ x. x == k) (h k p e) ∙ same_number k)
  where
    same_number : (x : ℕ) → x == x ≡ true
    same_number x = grind (arith, nat_tests)

pub present : (f : ℕ → Option LivePort) → AreAddressed f → (n k a : ℕ) → k ≤ a → a < k + n → port_at a (filter_map f (counting k n)) ≡ f a
present f h zero k a le lt = absurd (omega arith)
present f h (suc n) k a le lt = by_order (compared k a) (λ l. present f h n (k + 1) a l (omega arith))
  where
    compared : (x y : ℕ) → (x ≡ y) ⊎ (x ≢ y)
    compared x y = elim (x == y) as (λ b. x == y ≡ b → (x ≡ y) ⊎ (x ≢ y)) [ true ↦ λ t. inl (grind (arith, nat_tests)) | false ↦ λ t. inr (λ e. grind (arith, nat_tests)) ] refl

    by_order : (k ≡ a) ⊎ (k ≢ a) → (k + 1 ≤ a → port_at a (filter_map f (counting (k + 1) n)) ≡ f a) → port_at a (cons_option (f k) (filter_map f (counting (k + 1) n))) ≡ f a
    by_order (inl e) later = subst (λ x. port_at x (cons_option (f k) (filter_map f (counting (k + 1) n))) ≡ f x) e (first_found f h k (f k) refl (filter_map f (counting (k + 1) n)) (absent f h n (k + 1) k (omega arith)))
    by_order (inr ne) later = skipped f h k a ne (f k) refl (filter_map f (counting (k + 1) n)) ∙ later (omega arith)

-- tables whose entries are equal at each address
pub same_over : (f g : ℕ → Option LivePort) (n k : ℕ) → ((a : ℕ) → k ≤ a → a < k + n → f a ≡ g a) → filter_map f (counting k n) ≡ filter_map g (counting k n)
same_over f g zero k h = refl
same_over f g (suc n) k h =
    ap (λ o. cons_option o (filter_map f (counting (k + 1) n))) (h k (omega arith) (omega arith))
    ∙ ap (cons_option (g k)) (same_over f g n (k + 1) (λ a l r. h a (omega arith) (omega arith)))

same_map : {X : Type 0} → (f g : ℕ → X) (n k : ℕ) → ((a : ℕ) → k ≤ a → a < k + n → f a ≡ g a) → map f (counting k n) ≡ map g (counting k n)
same_map f g zero k h = refl
same_map f g (suc n) k h =
    ap (λ x. x ∷ map f (counting (k + 1) n)) (h k (omega arith) (omega arith)) ∙ ap (λ xs. g k ∷ xs) (same_map f g n (k + 1) (λ a l r. h a (omega arith) (omega arith)))

map_map : {X Y : Type 0} → (f : ℕ → X) (g : X → Y) (xs : List ℕ) → map g (map f xs) ≡ map (λ x. g (f x)) xs
map_map f g [] = refl
map_map f g (x ∷ xs) = ap (λ ys. g (f x) ∷ ys) (map_map f g xs)

pub past_address : (a : ℕ) (l : Option NPort) (live : Bool) (t : ℕ) → (past_made a l live t).address ≡ a
past_address a None live t = refl
past_address a (Some p) true t = refl
past_address a (Some p) false t = refl

-- what the clock is after an entry
clock_step : (e : Event) (J : Journal) → clock (e ∷ J) ≡ clock_after e (clock J)
clock_step (Tick m ended) J = refl
clock_step (Frame port index caught verdict) J = refl

-- tables with equal parts are equal
pub same_tables : {t t' : Option ℕ} {ps ps' : List LivePort} {qs qs' : List Past} → t ≡ t' → ps ≡ ps' → qs ≡ qs' →
    (let x : Tables = record { clock = t; ports = ps; past = qs } in x) ≡ record { clock = t'; ports = ps'; past = qs' }
same_tables e1 e2 e3 = cc

-- what a journal with one more entry says of each address of the pool
pub steps : Steps
steps c e J = same_tables (clock_step e J) ports past
  where
    now_step : now (e ∷ J) ≡ unwrap_or (clock_after e (clock J)) 0
    now_step = ap (λ o. unwrap_or o 0) (clock_step e J)

    found : (a : ℕ) → c.domain * 65536 + 256 ≤ a → a < c.domain * 65536 + 256 + c.pool → port_at a (tables_of c J).ports ≡ live_port a J
    found a l r = present (λ b. live_port b J) (live_addressed J) c.pool (c.domain * 65536 + 256) a l r

    ports : filter_map (λ a. live_port a (e ∷ J)) (pool c) ≡ (after c (tables_of c J) e).ports
    ports = same_over _ (λ a. port_after (unwrap_or (clock_after e (clock J)) 0) a e (port_at a (tables_of c J).ports)) c.pool (c.domain * 65536 + 256) (λ a l r.
        live_step a e J ∙ ap (λ t. port_after t a e (live_port a J)) now_step ∙ ap (λ o. port_after (unwrap_or (clock_after e (clock J)) 0) a e o) (sym (found a l r)))

    past : map (λ a. past_of a (e ∷ J)) (pool c) ≡ (after c (tables_of c J) e).past
    past = same_map (λ a. past_of a (e ∷ J)) (λ a. after_one (past_of a J)) c.pool (c.domain * 65536 + 256) (λ a l r.
        past_step a e J
        ∙ ap (λ t. past_after t a e (option_map (λ q. q.enode) (live_port a J)) (past_of a J)) now_step
        ∙ ap (λ o. past_after (unwrap_or (clock_after e (clock J)) 0) a e (option_map (λ q. q.enode) o) (past_of a J)) (sym (found a l r))
        ∙ ap (λ b. past_after (unwrap_or (clock_after e (clock J)) 0) b e (option_map (λ q. q.enode) (port_at b (tables_of c J).ports)) (past_of a J))
        (sym (past_address a (last_grant a J) (is_live a J) (end_clock a J))))
        ∙ sym (map_map (λ a. past_of a J) after_one (pool c))
      where
        after_one : Past → Past
        after_one p = past_after (unwrap_or (clock_after e (clock J)) 0) p.address e (option_map (λ q. q.enode) (port_at p.address (tables_of c J).ports)) p
