-- What a journal says of registrations is what the name server keeps: one more registration changes an N_Port as the table of
-- `ct_messages` says, and a grant gives it what the table gives a login.
use Rattle.std.proofs.Common.{◌≡◌, ℕ, zero, suc, ◌+◌, ◌<◌, true, List, [], ◌∷◌, length, set, replicate, Option, Some, None, option_map, refl, sym, ◌∙◌, ap, arith, zero-add}
use Rattle.std.proofs.lemmas.Bool.Decides.{nat_tests}
use Rattle.ct_messages.specs.Ct.{Ask, NextOf, PortNameOf, NodeNameOf, TypesOf, FeaturesOf, ByPortName, AddressesOfType, PortNamesOfType, NodeNamesOfType, AddressesOfPortType, SetNode, SetTypes, SetSymbol, SetFeature, SetNodeSymbol, Erase, Unknown}
use Rattle.ct_messages.specs.Server.{Values, NO_FEATURES, is_registration}
use Rattle.ct_messages.specs.Server as server
use Rattle.ct_messages.specs.CanWrite.{HasByte}
use Rattle.fab_policy.specs.Fits.{RegistrationsFit, LoginsFit, FeaturesAreAll}
use Rattle.fab_policy.specs.Journal.{Journal}
use Rattle.fab_policy.specs.Logins.{NPort, login}
use Rattle.fab_policy.specs.State.{LivePort, with_all}
use Rattle.fab_policy.specs.Registered.{says_feature}
use Rattle.fab_policy.specs.Steps.{features_after, values_after}

-- ---- features

features_same : (ask : Ask) → ((t : ℕ) → says_feature t ask ≡ None) → (t : ℕ) (fs : List ℕ) → features_after (Some ask) t fs ≡ fs
features_same ask silent t [] = refl
features_same ask silent t (f ∷ fs) = rw (silent t) (ap (λ l. f ∷ l) (features_same ask silent (t + 1) fs))

features_erased : (a t : ℕ) (fs : List ℕ) → features_after (Some (Erase a)) t fs ≡ replicate (length fs) 0
features_erased a t [] = refl
features_erased a t (f ∷ fs) = ap (λ l. 0 ∷ l) (features_erased a (t + 1) fs)

features_above : (a feature kind t : ℕ) (fs : List ℕ) → kind < t → features_after (Some (SetFeature a feature kind)) t fs ≡ fs
features_above a feature kind t [] above = refl
features_above a feature kind t (f ∷ fs) above = grind (arith, nat_tests, features_above a feature kind (t + 1) fs (omega (arith, above)))

features_set : (a feature kind t i : ℕ) (fs : List ℕ) → kind ≡ t + i → i < length fs → features_after (Some (SetFeature a feature kind)) t fs ≡ set fs i feature
features_set a feature kind t i [] place within = absurd (omega (arith, within))
features_set a feature kind t zero (f ∷ fs) place within = grind (arith, nat_tests, features_above a feature kind (t + 1) fs (omega (arith, place)))
features_set a feature kind t (suc i) (f ∷ fs) place within = grind (arith, nat_tests, features_set a feature kind (t + 1) i fs (omega (arith, place)) (omega (arith, within)))

-- ---- all values

with_features : (v : Values) (fs : List ℕ) → v.features ≡ fs → v ≡ record v { features = fs }
with_features v fs is = ap (λ l. record v { features = l }) is

pub by_ask : (first : ℕ) (ask : Ask) (v : Values) → is_registration ask ≡ true → HasByte ask → length v.features ≡ 256 → values_after first (Some ask) v ≡ server.after first ask v
unfolding NO_FEATURES
by_ask first (SetNode a name) v kind_is byte long = with_features _ _ (features_same (SetNode a name) (λ t. refl) 0 v.features)
by_ask first (SetTypes a types) v kind_is byte long = with_features _ _ (features_same (SetTypes a types) (λ t. refl) 0 v.features)
by_ask first (SetSymbol a symbol) v kind_is byte long = with_features _ _ (features_same (SetSymbol a symbol) (λ t. refl) 0 v.features)
by_ask first (SetNodeSymbol name symbol) v kind_is byte long = with_features _ _ (features_same (SetNodeSymbol name symbol) (λ t. refl) 0 v.features)
by_ask first (SetFeature a feature kind) v kind_is byte long = with_features _ _ (features_set a feature kind 0 kind v.features (sym (zero-add kind)) (omega (arith, byte, long)))
by_ask first (Erase a) v kind_is byte long = with_features _ _ (features_erased a 0 v.features ∙ ap (λ n. replicate n 0) long)
by_ask first (NextOf a) v kind_is byte long = absurd cc
by_ask first (PortNameOf a) v kind_is byte long = absurd cc
by_ask first (NodeNameOf a) v kind_is byte long = absurd cc
by_ask first (TypesOf a) v kind_is byte long = absurd cc
by_ask first (FeaturesOf a) v kind_is byte long = absurd cc
by_ask first (ByPortName name) v kind_is byte long = absurd cc
by_ask first (AddressesOfType kind) v kind_is byte long = absurd cc
by_ask first (PortNamesOfType kind) v kind_is byte long = absurd cc
by_ask first (NodeNamesOfType kind) v kind_is byte long = absurd cc
by_ask first (AddressesOfPortType kind) v kind_is byte long = absurd cc
by_ask first (Unknown command) v kind_is byte long = absurd cc

-- an N_Port that registers has the values of the table
pub registered_after : RegistrationsFit
registered_after at a e p ask is kind_is byte long = ap (λ asked. values_after p.node asked p.values) is ∙ by_ask p.node ask p.values kind_is byte long

-- an N_Port that has just logged in has those of its login
pub values_fresh : LoginsFit
values_fresh at a p = refl

-- a live N_Port has as many features as there are types
features_are_all_of : (J : Journal) (a : ℕ) (p : LivePort) (l : Option NPort) → option_map (with_all a J) l ≡ Some p → length p.values.features ≡ 256
features_are_all_of J a p None e = cc
features_are_all_of J a p (Some q) e = ap count (sym e)
  where
    count : Option LivePort → ℕ
    count (Some r) = length r.values.features
    count None = 256

pub features_are_all : FeaturesAreAll
features_are_all J a p e = features_are_all_of J a p (login a J) e
