-- How homes and bindings change with one more entry, and which MACs are bound.
use Rattle.std.proofs.Common.{◌≡◌, ℕ, Bool, true, false, cond, ◌||◌, List, [], ◌∷◌, Option, Some, None, is_some, option_and_then, refl, sym, ◌∙◌, ap, subst, inl, inr}
use Rattle.std.specs.List.{list_any}
use Rattle.fab_config.specs.Settings.{same_bytes}
use Rattle.fip_snoop.specs.History.{Handled, History, latest, or_else, Delivery, delivery, bound_by, if_of, binds, ends, ends_by, last_binding, since, if_unended, bound, bound_after, granted_in}
use Rattle.fip_snoop.specs.declared.bindings.Binding.{Binding}
use Rattle.fip_snoop.specs.declared.forwarder.Forwarder.{Forwarder}
use Rattle.fip_snoop.proofs.ListLemmas.{Among}

-- ---- one more entry

-- the binding of a MAC behind an entry that makes this binding, or else ends some
abbrev behind_entry : (Binding → Bool) → Option Binding → Option Binding → Option Binding
behind_entry ended made old = or_else made (option_and_then (λ b. cond (ended b) None (Some b)) old)

bound-entry : (w : Forwarder) (h : Handled) (L : History) (mac : List ℕ) → bound w (h ∷ L) mac ≡ behind_entry (λ b. ends w b h) (binds w mac h) (bound w L mac)
bound-entry w h L mac = go (binds w mac h)
  where
    unmade : (o : Option Binding) → option_and_then (if_unended w (h ∷ since w mac L)) o ≡ option_and_then (λ b. cond (ends w b h) None (Some b)) (option_and_then (if_unended w (since w mac L)) o)
    unmade None = refl
    unmade (Some b) = unmade_of b (ends w b h) (list_any (ends w b) (since w mac L)) refl
      where
        unmade_of : (b : Binding) (x y : Bool) → ends w b h ≡ x → cond (x || y) None (Some b) ≡ option_and_then (λ b. cond (ends w b h) None (Some b)) (cond y None (Some b))
        unmade_of b true true e = refl
        unmade_of b true false e = ap (λ x. cond x None (Some b)) (sym e)
        unmade_of b false true e = refl
        unmade_of b false false e = ap (λ x. cond x None (Some b)) (sym e)

    go : (o : Option Binding) →
        option_and_then (if_unended w (cond (is_some o) [] (h ∷ since w mac L))) (or_else o (last_binding w mac L))
        ≡ behind_entry (λ b. ends w b h) o (bound w L mac)
    go (Some b) = refl
    go None = unmade (last_binding w mac L)

pub bound-grows : (w : Forwarder) (h : Handled) (L : History) (mac : List ℕ) → bound w (h ∷ L) mac ≡ bound_after w mac (delivery h) (bound w L mac)
bound-grows w h L mac = bound-entry w h L mac ∙ go (delivery h) (bound w L mac)
  where
    go : (t : Option Delivery) (old : Option Binding) →
        behind_entry (λ b. elim t [ None ↦ false | Some d ↦ ends_by w b d ]) (option_and_then (if_of mac) (option_and_then (bound_by w) t)) old ≡ bound_after w mac t old
    go None None = refl
    go None (Some b) = refl
    go (Some d) old = refl

-- ---- which MACs are bound

latest-among : {X : Type 0} (says : Handled → Option X) (L : History) (x : X) → latest says L ≡ Some x → (h : Handled) × Among h L × (says h ≡ Some x)
latest-among says [] x e = absurd (cc)
latest-among {X} says (h ∷ L) x e = go (says h) refl e (λ e. latest-among says L x e)
  where
    go : (o : Option X) → says h ≡ o → or_else o (latest says L) ≡ Some x → (latest says L ≡ Some x → (g : Handled) × Among g L × (says g ≡ Some x)) → (g : Handled) × Among g (h ∷ L) × (says g ≡ Some x)
    go (Some y) is e later = (h, inl refl, is ∙ e)
    go None is e later = let f = later e in (f.0, inr f.1, f.2)

-- a binding was made by the last grant of its MAC
last_made : (w : Forwarder) (L : History) (mac : List ℕ) (b : Binding) → bound w L mac ≡ Some b → last_binding w mac L ≡ Some b
last_made w L mac b e = go (last_binding w mac L) e
  where
    kept : (x : Binding) (ended : Bool) → cond ended None (Some x) ≡ Some b → Some x ≡ Some b
    kept x true e = absurd (cc)
    kept x false e = e

    go : (o : Option Binding) → option_and_then (if_unended w (since w mac L)) o ≡ Some b → o ≡ Some b
    go None e = absurd (cc)
    go (Some x) e = kept x (list_any (ends w x) (since w mac L)) e

-- an entry that binds a MAC grants it
bound_grants : (mac : List ℕ) (b : Binding) (o : Option Binding) → option_and_then (if_of mac) o ≡ Some b → (o ≡ Some b) × (same_bytes b.mac mac ≡ true)
bound_grants mac b None e = absurd (cc)
bound_grants mac b (Some x) e = go (same_bytes x.mac mac) refl e
  where
    go : (t : Bool) → same_bytes x.mac mac ≡ t → cond t (Some x) None ≡ Some b → (Some x ≡ Some b) × (same_bytes b.mac mac ≡ true)
    go true is e = (e, subst (λ o. same_in o ≡ true) e is)
      where
        same_in : Option Binding → Bool
        same_in None = false
        same_in (Some y) = same_bytes y.mac mac
    go false is e = absurd (cc)

-- some entry granted the MAC of a binding
pub granted_once : (w : Forwarder) (L : History) (mac : List ℕ) (b : Binding) → bound w L mac ≡ Some b → (h : Handled) × Among h L × (granted_in w h ≡ Some b) × (same_bytes b.mac mac ≡ true)
granted_once w L mac b e =
    let made = latest-among (binds w mac) L b (last_made w L mac b e) in
    let grants = bound_grants mac b (granted_in w made.0) made.2 in
    (made.0, made.1, grants.0, grants.1)
