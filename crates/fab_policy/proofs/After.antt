-- What an entry makes of tables, address by address, whichever tables they are.
use Rattle.std.proofs.Common.{◌≡◌, ℕ, zero, suc, ◌+◌, ◌*◌, ◌<◌, ◌≤◌, ◌⊎◌, inl, inr, ◌==◌, Bool, true, false, cond, List, [], ◌∷◌, Option, Some, None, refl, sym, ap, ◌∙◌, arith, map, option_map, option_and_then, unwrap_or, if◌then◌else◌}
use Rattle.std.proofs.lemmas.Bool.{and_parts, cases_order, eq-eqb, eqb-true}
use Rattle.std.proofs.lemmas.Slice.Eq.{bytes_eq-Decides}
use Rattle.std.specs.Str.{bytes_eq}
use Rattle.fab_base.specs.Counting.{counting}
use Rattle.fab_base.specs.Fabric.{Past, past_at, same_enode}
use Rattle.fab_base.specs.declared.values.Enode.{Enode}
use Rattle.fab_config.specs.Settings.{Settings}
use Rattle.fab_policy.specs.Logins.{ends, grants, n_port}
use Rattle.fab_policy.specs.State.{LivePort, Tables, port_at}
use Rattle.fab_policy.specs.Steps.{after, clock_after, fresh, past_after, port_after, touched}
use Rattle.fab_policy.specs.declared.event.Event.{Event}
use Rattle.fab_policy.proofs.Steps.{AreAddressed, absent, beyond, present}

-- an ENode is known by its port and its MAC
pub enode_is : (x y : Enode) → same_enode x y ≡ true → x ≡ y
enode_is x y h =
    let parts = and_parts (x.port == y.port) (bytes_eq x.mac y.mac) h in
    made (eqb-true x.port y.port parts.0) ((bytes_eq-Decides x.mac y.mac).0 parts.1)
  where
    made : {p q : ℕ} {m n : List ℕ} → p ≡ q → m ≡ n → (let z : Enode = record { port = p; mac = m } in z) ≡ record { port = q; mac = n }
    made e f = cc

pub the_same : (x p : LivePort) → Some x ≡ Some p → x ≡ p
the_same x p e = ap (λ (o : Option LivePort). unwrap_or o x) e

pub split : (x y : ℕ) → (x < y) ⊎ (y ≤ x)
split x y = elim (cases_order x y) [ inl e ↦ inr (omega (arith, e)) | inr (inl l) ↦ inl l | inr (inr m) ↦ inr (omega (arith, m)) ]

module _ (c : Settings) (T : Tables) (e : Event) where
  abbrev pub now_at : ℕ
  now_at = unwrap_or (clock_after e T.clock) 0

  abbrev pub lowest : ℕ
  lowest = c.domain * 65536 + 256

  -- the live N_Port of an address after the entry
  abbrev pub found : ℕ → Option LivePort
  found a = port_after now_at a e (port_at a T.ports)

  -- It was granted its address by the entry, or it stays.
  abbrev pub Came : ℕ → LivePort → Type 0
  Came a p =
      ((grants a e ≡ true) × (fresh now_at a (n_port e) ≡ p))
      ⊎ ((q : LivePort) × (port_at a T.ports ≡ Some q) × (grants a e ≡ false) × (ends a q.enode e ≡ false) × (touched now_at a e q ≡ p))

  pub came : (a : ℕ) (p : LivePort) → found a ≡ Some p → Came a p
  came a p h = by (grants a e) (port_at a T.ports) refl refl h
    where
      by_end : (q : LivePort) → port_at a T.ports ≡ Some q → grants a e ≡ false → (b : Bool) → ends a q.enode e ≡ b → (if b then None else Some (touched now_at a e q)) ≡ Some p → Came a p
      by_end q is g true t h = cc
      by_end q is g false t h = inr (q, is, g, t, the_same (touched now_at a e q) p h)

      by : (b : Bool) (o : Option LivePort) → grants a e ≡ b → port_at a T.ports ≡ o →
          (if b then Some (fresh now_at a (n_port e)) else option_and_then (λ q. if ends a q.enode e then None else Some (touched now_at a e q)) o) ≡ Some p → Came a p
      by true o g is h = inl (g, the_same (fresh now_at a (n_port e)) p h)
      by false None g is h = absurd (cc)
      by false (Some q) g is h = by_end q is g (ends a q.enode e) refl h

  pub addressed : AreAddressed found
  addressed a p h = elim (came a p h) [ inl f ↦ ap (λ (x : LivePort). x.address) (sym f.1) | inr s ↦ ap (λ (x : LivePort). x.address) (sym s.4) ]

  -- who is live after the entry has an address of the pool, and came so
  pub live_after : (a : ℕ) (p : LivePort) → port_at a (after c T e).ports ≡ Some p → (lowest ≤ a) × (a < lowest + c.pool) × (found a ≡ Some p) × Came a p
  live_after a p h = elim (split a lowest) [
    | inl lt ↦ absurd (none (sym (absent found addressed c.pool lowest a lt) ∙ h))
    | inr le ↦ elim (split a (lowest + c.pool)) [
      | inl lt ↦ (let is : found a ≡ Some p = sym (present found addressed c.pool lowest a le lt) ∙ h in (le, lt, is, came a p is))
      | inr past ↦ absurd (none (sym (beyond found addressed c.pool lowest a past) ∙ h))
    ]
  ]
    where
      none : (let o : Option LivePort = None in o) ≡ Some p → ⊥
      none x = cc

-- ---- the past of an address

-- the addresses that a list of pasts has are kept by a change that keeps each
module _ (change : Past → Past) (keeps : (q : Past) → (change q).address ≡ q.address) where
  pub places_kept : (past : List Past) → map (λ (q : Past). q.address) (map change past) ≡ map (λ (q : Past). q.address) past
  places_kept [] = refl
  places_kept (q ∷ past) = two (keeps q) (places_kept past)
    where
      two : {x y : ℕ} {xs ys : List ℕ} → x ≡ y → xs ≡ ys → x ∷ xs ≡ y ∷ ys
      two e f = cc

  pub past_changed : (a : ℕ) (past : List Past) → past_at a (map change past) ≡ option_map change (past_at a past)
  past_changed a [] = refl
  past_changed a (q ∷ past) =
      ap (λ (n : ℕ). cond (n == a) (Some (change q)) (past_at a (map change past))) (keeps q) ∙ go (q.address == a) (past_changed a past)
    where
      go : (b : Bool) → past_at a (map change past) ≡ option_map change (past_at a past) → cond b (Some (change q)) (past_at a (map change past)) ≡ option_map change (cond b (Some q) (past_at a past))
      go true ih = refl
      go false ih = ih

-- what is found of pasts has the address
pub past_address_is : (a : ℕ) (past : List Past) (q : Past) → past_at a past ≡ Some q → q.address ≡ a
past_address_is a [] q e = cc
past_address_is a (x ∷ past) q e = go (x.address == a) refl e (past_address_is a past q)
  where
    same : Some x ≡ Some q → x ≡ q
    same i = ap (λ (o : Option Past). unwrap_or o x) i

    go : (b : Bool) → x.address == a ≡ b → cond b (Some x) (past_at a past) ≡ Some q → (past_at a past ≡ Some q → q.address ≡ a) → q.address ≡ a
    go true t i ih = ap (λ (y : Past). y.address) (sym (same i)) ∙ eqb-true x.address a t
    go false t i ih = ih i

-- each address of the pool has a past
pub past_there : (a n k : ℕ) (past : List Past) → map (λ (q : Past). q.address) past ≡ counting k n → k ≤ a → a < k + n → (q : Past) × (past_at a past ≡ Some q)
past_there a zero k past e le lt = absurd (omega (arith, le, lt))
past_there a (suc n) k [] e le lt = absurd (cc)
past_there a (suc n) k (q ∷ past) e le lt = go (q.address == a) refl (λ above. past_there a n (k + 1) past (let rest : map (λ (x : Past). x.address) past ≡ counting (k + 1) n = cc in rest) above (omega (arith, lt)))
  where
    head : q.address ≡ k
    head = cc

    above : (q.address ≡ a → ⊥) → k + 1 ≤ a
    above ne = elim (cases_order k a) [ inl same ↦ absurd (ne (head ∙ same)) | inr (inl l) ↦ omega (arith, l) | inr (inr m) ↦ absurd (omega (arith, m, le)) ]

    go : (b : Bool) → q.address == a ≡ b → (k + 1 ≤ a → (x : Past) × (past_at a past ≡ Some x)) → (x : Past) × (cond b (Some q) (past_at a past) ≡ Some x)
    go true t later = (q, refl)
    go false t later = later (above (λ same. apart (q.address == a) t (eq_is q.address a same)))
      where
        apart : (b : Bool) → b ≡ false → b ≡ true → ⊥
        apart b x y = (let w : false ≡ true = sym x ∙ y in cc)

        eq_is : (x y : ℕ) → x ≡ y → x == y ≡ true
        eq_is x y same = eq-eqb x y same

-- the change of a past keeps its address
pub past_kept : (at : ℕ) (e : Event) (holder : Past → Option Enode) (q : Past) → (past_after at q.address e (holder q) q).address ≡ q.address
past_kept at e holder q = by (grants q.address e) (holder q)
  where
    by_end : (b : Bool) → (let z : Past = if b then record { address = q.address; name = q.name; ended = Some at } else q in z).address ≡ q.address
    by_end true = refl
    by_end false = refl

    by : (b : Bool) (o : Option Enode) →
        (let z : Past = if b then record { address = q.address; name = Some (n_port e).name; ended = None }
        else unwrap_or (option_map (λ x. if ends q.address x e then record { address = q.address; name = q.name; ended = Some at } else q) o) q in z).address ≡ q.address
    by true o = refl
    by false None = refl
    by false (Some x) = by_end (ends q.address x e)
