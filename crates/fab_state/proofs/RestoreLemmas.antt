-- A fabric can be made of a seam that fits.
use Rattle.std.proofs.Common.{◌≡◌, ℕ, zero, suc, ◌+◌, ◌*◌, ◌-◌, ◌<◌, ◌≤◌, inl, inr, Bool, true, false, cond, List, [], ◌∷◌, length, map, filter, Option, Some, None, refl, sym, ap, subst, ◌∙◌, arith}
use Rattle.std.specs.Prelude.{◌==◌, filter_map, is_some, slice_get, IfSome, IsSome}
use Rattle.std.specs.List.{AllByRecursion}
use Rattle.std.proofs.lemmas.Bool.{eq-eqb, eqb-true, ne_eqb}
use Rattle.std.proofs.lemmas.List.Elements.{All-from_recursion}
use Rattle.fab_base.specs.Counting.{counting}
use Rattle.fab_base.specs.Fabric.{Past, past_at, same_enode}
use Rattle.fab_base.specs.Keyed.{AscendFrom, item_at}
use Rattle.fab_base.specs.declared.values.Enode.{Enode}
use Rattle.fab_config.specs.Settings.{Settings}
use Rattle.fab_policy.specs.Outputs.{State, state_of}
use Rattle.fab_policy.specs.State.{LivePort, Tables, is_overdue, live_port, now_of, past_of, port_at}
use Rattle.fab_policy.specs.Written.{HaveDifferentNames}
use Rattle.fab_policy.proofs.After.{enode_is}
use Rattle.fab_pieces.specs.Seam.{IsRangedSeam, Seam}
use Rattle.fab_pieces.specs.Sound.{AreFreed, EachPort, IsFreed, IsHolder, IsServed, IsSoundState, ShareVoices}
use Rattle.fab_pieces.proofs.SeamLemmas.{same_past}
use Rattle.fab_state.specs.Fit.{AreLogins, FitCanRestore, FitsClock, FitsLogin, FitsPast, IsFirst, IsFit, IsHeldBy, IsUnused, SharesVoice}
use Rattle.fab_state.proofs.FitLemmas.{places_so}

-- ---- items by their keys

module _ {X : Type 0} where
  pick : (P : X → Type 0) (x p : X) (o : Option X) (b : Bool) → cond b (Some x) o ≡ Some p → P x → (o ≡ Some p → P p) → P p
  pick P x p o true e h more = subst P (let same : x ≡ p = cc in same) h
  pick P x p o false e h more = more e

  each : (key : X → ℕ) (P : X → Type 0) (xs : List X) → AllByRecursion P xs → (a : ℕ) (p : X) → item_at key a xs ≡ Some p → P p
  each key P [] h a p e = absurd (cc)
  each key P (x ∷ xs) h a p e = pick P x p (item_at key a xs) (key x == a) e h.0 (each key P xs h.1 a p)

  key_by : (key : X → ℕ) (x p : X) (o : Option X) (a : ℕ) (b : Bool) → (key x == a) ≡ b → cond b (Some x) o ≡ Some p → (o ≡ Some p → key p ≡ a) → key p ≡ a
  key_by key x p o a true is e more = ap key (let same : p ≡ x = cc in same) ∙ eqb-true (key x) a is
  key_by key x p o a false is e more = more e

  key_of : (key : X → ℕ) (xs : List X) (a : ℕ) (p : X) → item_at key a xs ≡ Some p → key p ≡ a
  key_of key [] a p e = absurd (cc)
  key_of key (x ∷ xs) a p e = key_by key x p (item_at key a xs) a (key x == a) refl e (key_of key xs a p)

-- ---- addresses

at_place : (past : List Past) (first k n : ℕ) → map (λ (q : Past). q.address) past ≡ counting first n → past_at (first + k) past ≡ slice_get past k
at_place [] first k n e = refl
at_place (q ∷ past) first k zero e = absurd (cc)
at_place (q ∷ past) first zero (suc n) e =
    let head : q.address ≡ first = cc in
    let same = eq-eqb q.address (first + 0) (omega (arith, head)) in
    subst (λ (b : Bool). cond b (Some q) (past_at (first + 0) past) ≡ Some q) (sym same) refl
at_place (q ∷ past) first (suc k) (suc n) e =
    let head : q.address ≡ first = cc in
    let tail : map (λ (q : Past). q.address) past ≡ counting (first + 1) n = cc in
    let other = ne_eqb q.address (first + suc k) (λ same. absurd (let low : q.address < q.address = omega (arith, head, same) in omega arith)) in
    let next : first + suc k ≡ first + 1 + k = omega arith in
    subst (λ (b : Bool). cond b (Some q) (past_at (first + suc k) past) ≡ slice_get past k) (sym other) (ap (λ (a : ℕ). past_at a past) next ∙ at_place past (first + 1) k n tail)

held_low : (past : List Past) (k name : ℕ) → IsHeldBy name (slice_get past k) → k < length past
held_low [] k name h = absurd h
held_low (q ∷ past) zero name h = omega arith
held_low (q ∷ past) (suc k) name h = let low = held_low past k name h in omega arith

held_is : (past : List Past) (a name : ℕ) (o : Option Past) → past_at a past ≡ o → IsHeldBy name o → past_at a past ≡ Some (record { address = a; name = Some name; ended = None })
held_is past a name None e h = absurd h
held_is past a name (Some q) e h = e ∙ ap (λ (x : Past). Some x) (same_past (key_of (λ (q : Past). q.address) past a q e) h.0 h.1)

unused_past : (past : List Past) (first n : ℕ) → map (λ (q : Past). q.address) past ≡ counting first n → AllByRecursion IsUnused past → past ≡ map (λ a. past_of a []) (counting first n)
unused_past [] first zero e h = refl
unused_past [] first (suc n) e h = absurd (cc)
unused_past (q ∷ past) first zero e h = absurd (cc)
unused_past (q ∷ past) first (suc n) e h =
    let head : q.address ≡ first = cc in
    let tail : map (λ (q : Past). q.address) past ≡ counting (first + 1) n = cc in
    let same : q ≡ past_of first [] = same_past head h.0.0 h.0.1 in
    let rest = unused_past past (first + 1) n tail h.1 in
    (λ i. same i ∷ rest i)

-- ---- logins

of_logins : (P : LivePort → Type 0) (c : Settings) (n : ℕ) (T : Tables) (least : ℕ) (ports : List LivePort)
    → ((from : ℕ) (p : LivePort) (behind : List LivePort) → FitsLogin c n T from p behind → P p) → AreLogins c n T least ports → AllByRecursion P ports
of_logins P c n T least [] is h = tt
of_logins P c n T least (p ∷ behind) is h = (is least p behind h.0, of_logins P c n T (p.address + 1) behind is h.1)

ascend : (c : Settings) (n : ℕ) (T : Tables) (least : ℕ) (ports : List LivePort) → AreLogins c n T least ports → AscendFrom (λ p. p.address) least ports
ascend c n T least [] h = tt
ascend c n T least (p ∷ behind) h = (h.0.order, ascend c n T (p.address + 1) behind h.1)

names : (c : Settings) (n : ℕ) (T : Tables) (least : ℕ) (ports : List LivePort) → AreLogins c n T least ports → HaveDifferentNames ports
names c n T least [] h = tt
names c n T least (p ∷ behind) h = (h.0.name, names c n T (p.address + 1) behind h.1)

none_pass : (f : LivePort → Bool) (ports : List LivePort) → AllByRecursion (λ p. f p ≡ false) ports → filter f ports ≡ []
none_pass f [] h = refl
none_pass f (p ∷ ports) h = subst (λ (b : Bool). cond b (p ∷ filter f ports) (filter f ports) ≡ []) (sym h.0) (none_pass f ports h.1)

-- ---- voices

turned : (x y : Enode) → same_enode x y ≡ true → same_enode y x ≡ true
turned x y h = let e = enode_is x y h in subst (λ (z : Enode). same_enode z x ≡ true) e (subst (λ (z : Enode). same_enode x z ≡ true) (sym e) h)

one_voice : (x p q : LivePort) (o r : Option LivePort) (a b : Bool) → cond a (Some x) o ≡ Some p → cond b (Some x) r ≡ Some q
    → (o ≡ Some p → same_enode x.enode p.enode ≡ true → x.node_heard ≡ p.node_heard) → (r ≡ Some q → same_enode x.enode q.enode ≡ true → x.node_heard ≡ q.node_heard)
    → (o ≡ Some p → r ≡ Some q → p.node_heard ≡ q.node_heard) → same_enode p.enode q.enode ≡ true → p.node_heard ≡ q.node_heard
one_voice x p q o r true true e f first second both same = ap (λ (y : LivePort). y.node_heard) (let is : p ≡ q = cc in is)
one_voice x p q o r true false e f first second both same =
    let is : x ≡ p = cc in
    ap (λ (y : LivePort). y.node_heard) (sym is) ∙ second f (subst (λ (y : LivePort). same_enode y.enode q.enode ≡ true) (sym is) same)
one_voice x p q o r false true e f first second both same =
    let is : x ≡ q = cc in
    sym (first e (turned p.enode x.enode (subst (λ (y : LivePort). same_enode p.enode y.enode ≡ true) (sym is) same))) ∙ ap (λ (y : LivePort). y.node_heard) is
one_voice x p q o r false false e f first second both same = both e f

voices : (c : Settings) (n : ℕ) (T : Tables) (least : ℕ) (ports : List LivePort) → AreLogins c n T least ports
    → (a b : ℕ) (p q : LivePort) → port_at a ports ≡ Some p → port_at b ports ≡ Some q → same_enode p.enode q.enode ≡ true → p.node_heard ≡ q.node_heard
voices c n T least [] h a b p q e f same = absurd (cc)
voices c n T least (x ∷ behind) h a b p q e f same =
    let heard = each (λ (y : LivePort). y.address) (λ (y : LivePort). same_enode x.enode y.enode ≡ true → x.node_heard ≡ y.node_heard) behind h.0.voice in
    one_voice x p q (port_at a behind) (port_at b behind) (x.address == a) (x.address == b) e f (heard a p) (heard b q)
    (λ i j. voices c n T (x.address + 1) behind h.1 a b p q i j same) same

-- ---- the clock

begun : (c : Settings) (S : State) (t last : Option ℕ) → FitsClock c S t last → is_some last ≡ is_some t
begun c S None None h = refl
begun c S None (Some last) h = absurd h
begun c S (Some t) None h = absurd h
begun c S (Some t) (Some last) h = refl

before : (c : Settings) (S : State) (last : Option ℕ) → FitsClock c S None last → (last ≡ None) × IsFirst S
before c S None h = (refl, h)
before c S (Some last) h = absurd h

-- before the first entry nobody is logged in
nobody : (l : List ℕ) → filter_map (λ a. live_port a []) l ≡ []
nobody [] = refl
nobody (a ∷ l) = nobody l

first_state : (c : Settings) (S : State) → map (λ (q : Past). q.address) S.tables.past ≡ counting (c.domain * 65536 + 256) c.pool
    → S.tables.clock ≡ None → S.advertised ≡ None → IsFirst S → S ≡ state_of c []
first_state c S places clock last h =
    let ports : S.tables.ports ≡ (state_of c []).tables.ports = h.ports ∙ sym (nobody (counting (c.domain * 65536 + 256) c.pool)) in
    let past : S.tables.past ≡ (state_of c []).tables.past = unused_past S.tables.past (c.domain * 65536 + 256) c.pool places h.past in
    (λ i. record { tables = record { clock = clock i; ports = ports i; past = past i }; advertised = last i; rscns = h.rscns i })

-- ---- all of it

gone : {X : Type 0} (o : Option LivePort) → o ≡ None → IsSome o → X
gone None e some = absurd (cc)
gone (Some p) e some = absurd (cc)

module _ (c : Settings) (n : ℕ) (s : Seam) (h : IsFit c n s) where
  fit_each : (P : LivePort → Type 0) → ((from : ℕ) (p : LivePort) (behind : List LivePort) → FitsLogin c n s.state.tables from p behind → P p) → EachPort s.state.tables P
  fit_each P is a p e = each (λ (y : LivePort). y.address) P s.state.tables.ports (of_logins P c n s.state.tables (c.domain * 65536 + 256) s.state.tables.ports is h.logins) a p e

  fit_low : (p : LivePort) (from : ℕ) (behind : List LivePort) → FitsLogin c n s.state.tables from p behind → p.address < c.domain * 65536 + 256 + c.pool
  fit_low p from behind f =
      let low = held_low s.state.tables.past (p.address - (c.domain * 65536 + 256)) p.name f.holder in
      let count = (places_so s.state.tables.past (c.domain * 65536 + 256) c.pool h.places).0 in
      let least = f.lowest in
      omega arith

  fit_holder : (p : LivePort) (from : ℕ) (behind : List LivePort) → FitsLogin c n s.state.tables from p behind → IsHolder s.state.tables p
  fit_holder p from behind f =
      let first = c.domain * 65536 + 256 in
      let least = f.lowest in
      let place : first + (p.address - first) ≡ p.address = omega arith in
      held_is s.state.tables.past p.address p.name (slice_get s.state.tables.past (p.address - first))
      (ap (λ (a : ℕ). past_at a s.state.tables.past) (sym place) ∙ at_place s.state.tables.past first (p.address - first) c.pool h.places) f.holder

  fit_freed : AreFreed s.state.tables
  fit_freed a q none e =
      let key = key_of (λ (x : Past). x.address) s.state.tables.past a q e in
      elim ((each (λ (x : Past). x.address) (FitsPast s.state.tables) s.state.tables.past h.past a q e).freed) [
        | inl free ↦ free
        | inr found ↦ gone (port_at a s.state.tables.ports) none (subst (λ (k : ℕ). IsSome (port_at k s.state.tables.ports)) key found)
      ]

  pub fit_sound : IsSoundState c s.state
  fit_sound = record {
    tables = record {
      ascending = (
        ascend c n s.state.tables (c.domain * 65536 + 256) s.state.tables.ports h.logins,
        All-from_recursion (λ (p : LivePort). p.address < c.domain * 65536 + 256 + c.pool) s.state.tables.ports
            (of_logins (λ (p : LivePort). p.address < c.domain * 65536 + 256 + c.pool) c n s.state.tables (c.domain * 65536 + 256) s.state.tables.ports (λ from p behind f. fit_low p from behind f) h.logins),
      );
      names = names c n s.state.tables (c.domain * 65536 + 256) s.state.tables.ports h.logins;
      few = h.few;
      quiet = none_pass (is_overdue c (now_of s.state.tables)) s.state.tables.ports
          (of_logins (λ (p : LivePort). is_overdue c (now_of s.state.tables) p ≡ false) c n s.state.tables (c.domain * 65536 + 256) s.state.tables.ports (λ from p behind f. f.quiet) h.logins);
    };
    places = h.places;
    held = fit_each (IsHolder s.state.tables) (λ from p behind f. fit_holder p from behind f);
    freed = fit_freed;
    voices = voices c n s.state.tables (c.domain * 65536 + 256) s.state.tables.ports h.logins;
    features = fit_each (λ (p : LivePort). length p.values.features ≡ 256) (λ from p behind f. f.kept.count);
    begun = begun c s.state s.state.tables.clock s.state.advertised h.clock;
    first = λ none.
        let both = before c s.state s.state.advertised (subst (λ (t : Option ℕ). FitsClock c s.state t s.state.advertised) none h.clock) in
        first_state c s.state h.places none both.0 both.1;
    rscns = h.rscns;
  }

pub fit_can_restore : FitCanRestore
fit_can_restore c n s h ranged = record {
  sound = fit_sound c n s h;
  served = fit_each c n s h IsServed (λ from p behind f. f.served);
  behind = fit_each c n s h (λ (p : LivePort). (1 ≤ p.enode.port) × (p.enode.port ≤ n)) (λ from p behind f. (f.first, f.last));
  timely = record {
    heard = fit_each c n s h (λ (p : LivePort). (p.node_heard ≤ now_of s.state.tables) × (p.port_heard ≤ now_of s.state.tables)) (λ from p behind f. (f.node_heard, f.port_heard));
    ended = λ a q e. (each (λ (x : Past). x.address) (FitsPast s.state.tables) s.state.tables.past h.past a q e).ended;
  };
  ranged = ranged;
  ports = h.ports;
  order = h.order;
}
