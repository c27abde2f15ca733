-- N_Ports go on sharing the voices of their ENodes, and have the features of all types.
use Rattle.std.proofs.Common.{◌≡◌, ℕ, ◌+◌, inl, inr, ◌==◌, Bool, true, false, List, [], ◌∷◌, Option, Some, None, IsSome, is_some, refl, sym, ap, subst, ◌∙◌, arith, ◌%◌, ◌<◌, length, if◌then◌else◌}
use Rattle.std.proofs.lemmas.Bool.{and_from, eq-eqb}
use Rattle.std.proofs.lemmas.Slice.Eq.{bytes_eq-Decides}
use Rattle.std.specs.Str.{bytes_eq}
use Rattle.fab_base.specs.Fabric.{same_enode}
use Rattle.fab_base.specs.declared.values.Enode.{Enode}
use Rattle.fab_config.specs.Settings.{Settings}
use Rattle.ct_messages.specs.Ct.{Ask}
use Rattle.ct_messages.specs.Server.{NO_FEATURES}
use Rattle.fab_policy.specs.Logins.{grants, hears_node, n_port}
use Rattle.fab_policy.specs.Outputs.{advertised_after, is_owed}
use Rattle.fab_policy.specs.Registered.{registration}
use Rattle.fab_policy.specs.State.{LivePort, Tables}
use Rattle.fab_policy.specs.Steps.{after, clock_after, features_after}
use Rattle.fab_policy.specs.declared.event.Event.{Event}
use Rattle.fab_policy.specs.declared.event.Event.TheVariants.{Tick, Frame}
use Rattle.fab_policy.specs.declared.verdict.Verdict.TheVariants.{Granted}
use Rattle.fab_pieces.specs.Sound.{EachPort, ShareVoices}
use Rattle.fab_policy.proofs.After.{Came, enode_is, live_after}
use Rattle.fab_policy.proofs.SoundTables.{clock_at}

-- an entry that grants an address hears the ENode of its request
hears_is : (e : Event) (x : ℕ) (n : Enode) → grants x e ≡ true → hears_node n e ≡ same_enode n (n_port e).enode
hears_is (Tick m ended) x n g = cc
hears_is (Frame port index caught (Granted b)) x n g = refl
hears_is (Frame port index caught _) x n g = cc

same_is : (x y : Enode) → x ≡ y → same_enode x y ≡ true
same_is x y e = and_from (x.port == y.port) (bytes_eq x.mac y.mac) (eq-eqb x.port y.port (ap (λ (z : Enode). z.port) e)) ((bytes_eq-Decides x.mac y.mac).1 (ap (λ (z : Enode). z.mac) e))

heard_now : (c : Settings) (T : Tables) (e : Event) (x b : ℕ) (q : LivePort) → grants x e ≡ true → q.enode ≡ (n_port e).enode → Came c T e b q → q.node_heard ≡ clock_at T e
heard_now c T e x b q g same (inl f) = ap (λ (p : LivePort). p.node_heard) (sym f.1)
heard_now c T e x b q g same (inr s) =
    let its : s.0.enode ≡ (n_port e).enode = ap (λ (p : LivePort). p.enode) s.4 ∙ same in
    ap (λ (p : LivePort). p.node_heard) (sym s.4)
    ∙ ap (λ t. if t then clock_at T e else s.0.node_heard) (hears_is e x s.0.enode g ∙ same_is s.0.enode (n_port e).enode its)

one_voice : (c : Settings) (T : Tables) (e : Event) → ShareVoices T → (a b : ℕ) (p q : LivePort) → p.enode ≡ q.enode → Came c T e a p → Came c T e b q → p.node_heard ≡ q.node_heard
one_voice c T e voices a b p q one (inl f) y =
    heard_now c T e a a p f.0 (ap (λ (z : LivePort). z.enode) (sym f.1)) (inl f) ∙ sym (heard_now c T e a b q f.0 (sym one ∙ ap (λ (z : LivePort). z.enode) (sym f.1)) y)
one_voice c T e voices a b p q one (inr s) (inl f) =
    heard_now c T e b a p f.0 (one ∙ ap (λ (z : LivePort). z.enode) (sym f.1)) (inr s) ∙ sym (heard_now c T e b b q f.0 (ap (λ (z : LivePort). z.enode) (sym f.1)) (inl f))
one_voice c T e voices a b p q one (inr s) (inr t) =
    let enodes : s.0.enode ≡ t.0.enode = ap (λ (z : LivePort). z.enode) s.4 ∙ one ∙ ap (λ (z : LivePort). z.enode) (sym t.4) in
    let were : s.0.node_heard ≡ t.0.node_heard = voices a b s.0 t.0 s.1 t.1 (same_is s.0.enode t.0.enode enodes) in
    ap (λ (z : LivePort). z.node_heard) (sym s.4)
    ∙ ap (λ x. if hears_node x e then clock_at T e else s.0.node_heard) enodes
    ∙ ap (λ (n : ℕ). if hears_node t.0.enode e then clock_at T e else n) were
    ∙ ap (λ (z : LivePort). z.node_heard) t.4

pub voices_after : (c : Settings) (T : Tables) (e : Event) → ShareVoices T → ShareVoices (after c T e)
voices_after c T e voices a b p q x y same = one_voice c T e voices a b p q (enode_is p.enode q.enode same) (live_after c T e a p x).3 (live_after c T e b q y).3

-- ---- features

all_features : length NO_FEATURES ≡ 256
unfolding NO_FEATURES
all_features = refl

features_kept : (asked : Option Ask) (features : List ℕ) (t : ℕ) → length (features_after asked t features) ≡ length features
features_kept asked [] t = refl
features_kept asked (f ∷ features) t = let e = features_kept asked features (t + 1) in omega arith

came_full : (c : Settings) (T : Tables) (e : Event) → EachPort T (λ p. length p.values.features ≡ 256) → (a : ℕ) (p : LivePort) → Came c T e a p → length p.values.features ≡ 256
came_full c T e features a p (inl f) = subst (λ (z : LivePort). length z.values.features ≡ 256) f.1 all_features
came_full c T e features a p (inr s) = subst (λ (z : LivePort). length z.values.features ≡ 256) s.4 (features_kept (registration a e) s.0.values.features 0 ∙ features a s.0 s.1)

pub features_after_all : (c : Settings) (T : Tables) (e : Event) → EachPort T (λ p. length p.values.features ≡ 256) → EachPort (after c T e) (λ p. length p.values.features ≡ 256)
features_after_all c T e features a p x = came_full c T e features a p (live_after c T e a p x).3

-- ---- the rest of a state

pub begun_after : (c : Settings) (last t : Option ℕ) (e : Event) → is_some last ≡ is_some t → is_some (advertised_after c last e) ≡ is_some (clock_after e t)
begun_after c None t (Tick m ended) h = refl
begun_after c (Some last) t (Tick m ended) h = by (is_owed c (Some last) m)
  where
    by : (b : Bool) → is_some (if b then Some m else Some last) ≡ true
    by true = refl
    by false = refl
begun_after c None t (Frame port index caught verdict) h = h
begun_after c (Some last) t (Frame port index caught verdict) h = h

pub below_most : (n : ℕ) → n % 65535 < 65535
below_most n = omega arith

-- a clock that runs isn't missing
pub never : {X : Type 0} → (t : Option ℕ) → IsSome t → t ≡ None → X
never None s e = absurd (cc)
never (Some n) s e = absurd (cc)
