-- What is kept follows the history.
use Rattle.std.proofs.Common.{◌≡◌, ℕ, Bool, true, false, not, cond, ◌&&◌, List, [], ◌∷◌, ◌++◌, map, filter, Option, Some, None, option_and_then, option_to_list, append-nil, refl, sym, ◌∙◌, ap, subst}
use mathlib.Core.Bool.{false≢true}
use Rattle.std.proofs.lemmas.List.Elements.{filter-append}
use Rattle.fab_config.specs.Settings.{same_bytes}
use Rattle.heard_frames.specs.Heard.{What, Bad, Fip, Fcoe, decoded}
use Rattle.fip_snoop.specs.Messages.{is_port_alive}
use Rattle.fip_snoop.specs.History.{Handled, History, or_else, shown, home, Delivery, delivered, bound_by, if_of, ends_by, bound, bound_after}
use Rattle.fip_snoop.specs.Snoop.{Contents, is_home_of, with_home, without_home, is_binding_of, without_binding, with_binding, unended, behind, delivery_to, after, Remembers}
use Rattle.fip_snoop.specs.Maps.{IsLike}
use Rattle.fip_snoop.specs.declared.bindings.Binding.{Binding}
use Rattle.fip_snoop.specs.declared.home.Home.{Home}
use Rattle.fip_snoop.specs.declared.forwarder.Forwarder.{Forwarder}
use Rattle.fip_snoop.specs.declared.way.Way.{Way}
use Rattle.fip_snoop.specs.declared.way.Way.TheVariants.{Up, Down, All, Dropped}
use Rattle.fip_snoop.proofs.ListLemmas.{filter-swap, filter-gone, filter-kept}
use Rattle.fip_snoop.proofs.SameLemmas.{same_is, is_same}
use Rattle.fip_snoop.proofs.BoundLemmas.{bound-grows}

not_true : (b : Bool) → b ≡ true → not b ≡ false
not_true true e = refl
not_true false e = absurd (false≢true e)

not_false : (b : Bool) → (b ≡ true → ⊥) → not b ≡ true
not_false true e = absurd (e refl)
not_false false e = refl

-- ---- homes

module _ (mac own : List ℕ) (homes : List Home) where
  -- those of another MAC stay
  other_homes : (same_bytes own mac ≡ true → ⊥) → filter (is_home_of mac) (without_home own homes) ≡ filter (is_home_of mac) homes
  other_homes differ = filter-kept (is_home_of mac) (λ h. not (is_home_of own h)) homes
      (λ h is. not_false (same_bytes h.mac own) (λ own_too. differ (is_same own mac (sym (same_is h.mac own own_too) ∙ same_is h.mac mac is))))

  -- none of its own is left
  own_homes : own ≡ mac → filter (is_home_of mac) (without_home own homes) ≡ []
  own_homes e = filter-gone (is_home_of mac) (λ h. not (is_home_of own h)) homes
      (λ h is. not_true (same_bytes h.mac own) (is_same h.mac own (same_is h.mac mac is ∙ sym e)))

-- the home of a MAC behind one that is put
homes_put : (mac : List ℕ) (h : Home) (homes : List Home) (o : Option ℕ) → map (λ h. h.port) (filter (is_home_of mac) homes) ≡ option_to_list o
    → map (λ h. h.port) (filter (is_home_of mac) (with_home h homes)) ≡ option_to_list (or_else (cond (same_bytes h.mac mac) (Some h.port) None) o)
homes_put mac h homes o e =
    ap ports (filter-append (is_home_of mac) (without_home h.mac homes) (h ∷ [])) ∙ go (same_bytes h.mac mac) refl
  where
    ports : List Home → List ℕ
    ports hs = map (λ h. h.port) hs

    go : (b : Bool) → same_bytes h.mac mac ≡ b → map (λ h. h.port) (filter (is_home_of mac) (without_home h.mac homes) ++ cond b (h ∷ []) []) ≡ option_to_list (or_else (cond b (Some h.port) None) o)
    go true is = ap (λ hs. map (λ h. h.port) (hs ++ h ∷ [])) (own_homes mac h.mac homes (same_is h.mac mac is))
    go false is = ap ports (append-nil (filter (is_home_of mac) (without_home h.mac homes))) ∙ ap ports (other_homes mac h.mac homes (λ same. false≢true (sym is ∙ same))) ∙ e

-- ---- bindings

module _ (mac own : List ℕ) (bindings : List Binding) where
  pub other_bindings : (same_bytes own mac ≡ true → ⊥) → filter (is_binding_of mac) (without_binding own bindings) ≡ filter (is_binding_of mac) bindings
  other_bindings differ = filter-kept (is_binding_of mac) (λ b. not (is_binding_of own b)) bindings
      (λ b is. not_false (same_bytes b.mac own) (λ own_too. differ (is_same own mac (sym (same_is b.mac own own_too) ∙ same_is b.mac mac is))))

  pub own_bindings : own ≡ mac → filter (is_binding_of mac) (without_binding own bindings) ≡ []
  own_bindings e = filter-gone (is_binding_of mac) (λ b. not (is_binding_of own b)) bindings
      (λ b is. not_true (same_bytes b.mac own) (is_same b.mac own (same_is b.mac mac is ∙ sym e)))

-- the binding of a MAC behind what ends some
unended_one : (w : Forwarder) (d : Delivery) (mac : List ℕ) (bindings : List Binding) (o : Option Binding) → filter (is_binding_of mac) bindings ≡ option_to_list o
    → filter (is_binding_of mac) (unended w d bindings) ≡ option_to_list (option_and_then (λ b. cond (ends_by w b d) None (Some b)) o)
unended_one w d mac bindings o e =
    filter-swap (is_binding_of mac) (λ b. not (ends_by w b d)) bindings ∙ ap (filter (λ b. not (ends_by w b d))) e ∙ go o
  where
    tested : (b : Binding) (x : Bool) → cond (not x) (b ∷ []) [] ≡ option_to_list (cond x None (Some b))
    tested b true = refl
    tested b false = refl

    go : (o : Option Binding) → filter (λ b. not (ends_by w b d)) (option_to_list o) ≡ option_to_list (option_and_then (λ b. cond (ends_by w b d) None (Some b)) o)
    go None = refl
    go (Some b) = tested b (ends_by w b d)

-- the binding of a MAC behind one that is put
binding_put : (mac : List ℕ) (b : Option Binding) (bindings : List Binding) (o : Option Binding) → filter (is_binding_of mac) bindings ≡ option_to_list o
    → filter (is_binding_of mac) (with_binding b bindings) ≡ option_to_list (or_else (option_and_then (if_of mac) b) o)
binding_put mac None bindings o e = e
binding_put mac (Some b) bindings o e =
    filter-append (is_binding_of mac) (without_binding b.mac bindings) (b ∷ []) ∙ go (same_bytes b.mac mac) refl
  where
    go : (x : Bool) → same_bytes b.mac mac ≡ x → filter (is_binding_of mac) (without_binding b.mac bindings) ++ cond x (b ∷ []) [] ≡ option_to_list (or_else (cond x (Some b) None) o)
    go true is = ap (λ bs. bs ++ b ∷ []) (own_bindings mac b.mac bindings (same_is b.mac mac is))
    go false is = append-nil (filter (is_binding_of mac) (without_binding b.mac bindings)) ∙ other_bindings mac b.mac bindings (λ same. false≢true (sym is ∙ same)) ∙ e

-- ---- all that is kept

-- behind an entry, by its parts
kept_homes : (w : Forwarder) (L : History) (s : Contents) (port : ℕ) (what : What) (way : Way) → Remembers w L s
    → (mac : List ℕ) → map (λ h. h.port) (filter (is_home_of mac) (after port what way s).homes) ≡ option_to_list (or_else (shown mac port what way) (home L mac))
kept_homes w L s port (Fip f m) Up r mac = go (is_port_alive m)
  where
    go : (b : Bool) → map (λ h. h.port) (filter (is_home_of mac) (cond b s (record { forwarder = s.forwarder; homes = with_home (record { mac = f.src; port = port }) s.homes; bindings = s.bindings })).homes)
        ≡ option_to_list (or_else (cond (not b && same_bytes f.src mac) (Some port) None) (home L mac))
    go true = r.homes mac
    go false = homes_put mac (record { mac = f.src; port = port }) s.homes (home L mac) (r.homes mac)
kept_homes w L s port (Fip f m) (Down q) r mac = r.homes mac
kept_homes w L s port (Fip f m) All r mac = r.homes mac
kept_homes w L s port (Fip f m) (Dropped why) r mac = r.homes mac
kept_homes w L s port (Fcoe f x) way r mac = r.homes mac
kept_homes w L s port (Bad fault) way r mac = r.homes mac

kept_bindings : (w : Forwarder) (L : History) (s : Contents) (port : ℕ) (what : What) (way : Way) → Remembers w L s
    → (mac : List ℕ) → filter (is_binding_of mac) (after port what way s).bindings ≡ option_to_list (bound_after w mac (delivered what way) (bound w L mac))
kept_bindings w L s port (Fip f m) Up r mac = go (is_port_alive m)
  where
    go : (b : Bool) → filter (is_binding_of mac) (cond b s (record { forwarder = s.forwarder; homes = with_home (record { mac = f.src; port = port }) s.homes; bindings = s.bindings })).bindings ≡ option_to_list (bound w L mac)
    go true = r.bindings mac
    go false = r.bindings mac
kept_bindings w L s port (Fip f m) (Down q) r mac =
    subst (λ v. filter (is_binding_of mac) (behind v d s.bindings) ≡ option_to_list (bound_after w mac (Some d) (bound w L mac))) (sym r.forwarder)
    (binding_put mac (bound_by w d) (unended w d s.bindings) _ (unended_one w d mac s.bindings (bound w L mac) (r.bindings mac)))
  where
    d : Delivery
    d = delivery_to q f.dst m
kept_bindings w L s port (Fip f m) All r mac = r.bindings mac
kept_bindings w L s port (Fip f m) (Dropped why) r mac = r.bindings mac
kept_bindings w L s port (Fcoe f x) way r mac = r.bindings mac
kept_bindings w L s port (Bad fault) way r mac = r.bindings mac

kept_forwarder : (s : Contents) (port : ℕ) (what : What) (way : Way) → (after port what way s).forwarder ≡ s.forwarder
kept_forwarder s port (Fip f m) Up = go (is_port_alive m)
  where
    go : (b : Bool) → (cond b s (record { forwarder = s.forwarder; homes = with_home (record { mac = f.src; port = port }) s.homes; bindings = s.bindings })).forwarder ≡ s.forwarder
    go true = refl
    go false = refl
kept_forwarder s port (Fip f m) (Down q) = refl
kept_forwarder s port (Fip f m) All = refl
kept_forwarder s port (Fip f m) (Dropped why) = refl
kept_forwarder s port (Fcoe f x) way = refl
kept_forwarder s port (Bad fault) way = refl

-- What is kept behind an entry is what its history has.
pub remembers-entry : (w : Forwarder) (L : History) (s : Contents) (h : Handled) → Remembers w L s → Remembers w (h ∷ L) (after h.port (decoded h.caught) h.way s)
remembers-entry w L s h r = record {
  forwarder = kept_forwarder s h.port (decoded h.caught) h.way ∙ r.forwarder;
  homes = λ mac. kept_homes w L s h.port (decoded h.caught) h.way r mac;
  bindings = λ mac. kept_bindings w L s h.port (decoded h.caught) h.way r mac ∙ ap option_to_list (sym (bound-grows w h L mac));
}

-- ---- the same for each MAC

pub remembers-like : (w : Forwarder) (L : History) (s t : Contents) → IsLike s t → Remembers w L t → Remembers w L s
remembers-like w L s t like r = record {
  forwarder = like.forwarder ∙ r.forwarder;
  homes = λ mac. ap (map (λ (h : Home). h.port)) (like.homes mac) ∙ r.homes mac;
  bindings = λ mac. like.bindings mac ∙ r.bindings mac;
}
