-- N_Ports that are found by their addresses.
use Rattle.std.proofs.Common.{◌≡◌, ℕ, ◌+◌, ◌==◌, inl, inr, Bool, true, false, cond, List, [], ◌∷◌, filter, filter_map, Option, Some, None, IsSome, option_to_list, refl, ap, ◌∙◌, arith}
use Rattle.std.proofs.lemmas.Bool.{cases_lt, eqb-true}
use Rattle.std.proofs.lemmas.List.Elements.{All-head, All-tail, All-weaker}
use Rattle.std.specs.List.{All}
use Rattle.std.specs.Option.{option_map_or}
use Rattle.fab_base.specs.Keyed as keyed
use Rattle.fab_base.proofs.KeyedLemmas.{list_any-keys-filter, item_at-below}
use Rattle.zone_rules.specs.Joined.{contains}
use Rattle.fab_base.specs.Counting.{counting}
use Rattle.fab_policy.specs.State.{LivePort, addresses, port_at}
use Rattle.fab_policy.proofs.Steps.{AreAddressed, absent, beyond, present}
use Rattle.fab_roster.proofs.Found.{All-item_at}

abbrev pub Ascend : ℕ → List LivePort → Type 0
Ascend from ports = keyed.AscendFrom (λ p. p.address) from ports

-- an N_Port of ascending ones is the one that is found at its address
abbrev pub IsFoundIn : List LivePort → LivePort → Type 0
IsFoundIn ports p = port_at p.address ports ≡ Some p

pub found_in : (from : ℕ) (ports : List LivePort) → Ascend from ports → All (IsFoundIn ports) ports
found_in from ports h = All-item_at (λ (p : LivePort). p.address) (IsFoundIn ports) from ports h (λ p e. e)

-- an address is listed of those that pass exactly where its N_Port passes
pub listed_of : (q : LivePort → Bool) (from a : ℕ) (ports : List LivePort) (p : LivePort) → Ascend from ports → port_at a ports ≡ Some p → contains a (addresses (filter q ports)) ≡ q p
listed_of q from a ports p h e = list_any-keys-filter (λ (x : LivePort). x.address) q from a ports h ∙ ap (λ o. option_map_or q o false) e

pub filter-same : (p q : LivePort → Bool) (ports : List LivePort) → All (λ x. p x ≡ q x) ports → filter p ports ≡ filter q ports
filter-same p q [] h = refl
filter-same p q (x ∷ ports) h =
    ap (λ b. cond b (x ∷ filter p ports) (filter p ports)) (All-head (λ (y : LivePort). p y ≡ q y) x ports h)
    ∙ ap (λ ys. cond (q x) (x ∷ ys) ys) (filter-same p q ports (All-tail (λ (y : LivePort). p y ≡ q y) x ports h))

-- those whose addresses are listed of those that pass are those that pass
pub filter-listed : (q : LivePort → Bool) (from : ℕ) (ports : List LivePort) → Ascend from ports → filter (λ p. contains p.address (addresses (filter q ports))) ports ≡ filter q ports
filter-listed q from ports h =
    filter-same (λ p. contains p.address (addresses (filter q ports))) q ports
    (All-weaker (IsFoundIn ports) (λ (p : LivePort). contains p.address (addresses (filter q ports)) ≡ q p) (λ p e. listed_of q from p.address ports p h e) ports (found_in from ports h))

pub filter-none : (ports : List LivePort) → filter (λ p. false) ports ≡ []
filter-none [] = refl
filter-none (p ∷ ports) = filter-none ports

-- those with an address are the one that is found
pub filter-address : (from a : ℕ) (ports : List LivePort) → Ascend from ports → filter (λ p. p.address == a) ports ≡ option_to_list (port_at a ports)
filter-address from a [] h = refl
filter-address from a (p ∷ ports) h = go (p.address == a) refl (filter-address (p.address + 1) a ports h.1)
  where
    go : (b : Bool) → p.address == a ≡ b → filter (λ x. x.address == a) ports ≡ option_to_list (port_at a ports) →
        cond b (p ∷ filter (λ x. x.address == a) ports) (filter (λ x. x.address == a) ports) ≡ option_to_list (cond b (Some p) (port_at a ports))
    go true e ih = ap (λ ys. p ∷ ys) (ih ∙ ap option_to_list (item_at-below (λ (x : LivePort). x.address) a (p.address + 1) ports h.1 (omega (arith, eqb-true p.address a e))))
    go false e ih = ih

-- ---- N_Ports that are found at places

-- at an address at which one table of the places has an N_Port, another has its own
pub found_at : (f g : ℕ → Option LivePort) → AreAddressed f → AreAddressed g → (n k a : ℕ) → IsSome (port_at a (filter_map g (counting k n))) → port_at a (filter_map f (counting k n)) ≡ f a
found_at f g h j n k a some = elim (cases_lt a k) [
  | inl lt ↦ absurd (none (absent g j n k a lt) some)
  | inr le ↦ elim (cases_lt a (k + n)) [ inl lt ↦ present f h n k a le lt | inr past ↦ absurd (none (beyond g j n k a past) some) ]
]
  where
    none : {o : Option LivePort} → o ≡ None → IsSome o → ⊥
    none e i = cc
