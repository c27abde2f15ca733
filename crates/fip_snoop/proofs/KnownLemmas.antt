-- A frame that the bridge remembers already tells nothing new.
use Rattle.std.proofs.Common.{◌≡◌, ℕ, false, not, cond, ◌&&◌, List, ◌∷◌, Some, None, option_map, option_and_then, option_to_list, refl, sym, ◌∙◌, ap, subst}
use Rattle.fab_base.specs.declared.values.Caught.{Caught}
use Rattle.fab_config.specs.Settings.{same_bytes}
use Rattle.eth_frames.specs.Ethernet as eth
use Rattle.fcoe_codec.specs.Fcoe as capsule
use Rattle.fip_codec.specs.Message as fip
use Rattle.fcoe_codec.specs.declared.FcoeFault.{FcoeFault}
use Rattle.std.specs.Prelude.{Result}
use Rattle.heard_frames.specs.Heard.{What, Bad, Fip, Fcoe, decoded}
use Rattle.fip_snoop.specs.History.{History, Delivery, shown, home, or_else, if_of, bound, bound_by, bound_after, delivered, ends_by}
use Rattle.fip_snoop.specs.Messages.{grant_in, is_port_alive}
use Rattle.fip_snoop.specs.declared.grant.Grant.{Grant}
use Rattle.fip_snoop.specs.Snoop.{Contents, is_home_of, home_in, is_binding_of, binding_in, binding_by, delivery_to, Remembers}
use Rattle.fip_snoop.specs.Maps.{IsBoundAlready, IsKnownAlready}
use Rattle.fip_snoop.specs.declared.bindings.Binding.{Binding}
use Rattle.fip_snoop.specs.declared.forwarder.Forwarder.{Forwarder}
use Rattle.fip_snoop.specs.declared.way.Way.{Way}
use Rattle.fip_snoop.specs.declared.way.Way.TheVariants.{Up, Down, All, Dropped}
use Rattle.fip_snoop.proofs.BoundLemmas.{bound-grows}
use Rattle.fip_snoop.proofs.ListLemmas.{found, found_by}
use Rattle.fip_snoop.proofs.SameLemmas.{is_same}

module _ (w : Forwarder) (L : History) (s : Contents) (port : ℕ) (caught : Caught) where
  by_up : (f : eth.Eth) (m : fip.Fip) → decoded caught ≡ Fip f m → Remembers w (record { port = port; caught = caught; way = Up } ∷ L) s → is_port_alive m ≡ false → home_in s.homes f.src ≡ Some port
  by_up f m is r of_enode =
      found_by (λ h. h.port) (is_home_of f.src) s.homes (Some port)
      (r.homes f.src ∙ ap (λ o. option_to_list o) here)
    where
      here : home (record { port = port; caught = caught; way = Up } ∷ L) f.src ≡ Some port
      here =
          ap (λ what. or_else (shown f.src port what Up) (home L f.src)) is
          ∙ ap (λ a. or_else (cond (not a && same_bytes f.src f.src) (Some port) None) (home L f.src)) of_enode
          ∙ ap (λ b. or_else (cond b (Some port) None) (home L f.src)) (is_same f.src f.src refl)

  by_down : (f : eth.Eth) (m : fip.Fip) (q : ℕ) → decoded caught ≡ Fip f m → Remembers w (record { port = port; caught = caught; way = Down q } ∷ L) s → IsBoundAlready s.forwarder (delivery_to q f.dst m) s.bindings
  by_down f m q is r b makes =
      found (is_binding_of b.mac) s.bindings (Some b) (r.bindings b.mac ∙ ap (λ o. option_to_list o) here)
    where
      d : Delivery
      d = delivery_to q f.dst m

      own : bound_by w d ≡ Some b
      own = ap (λ v. bound_by v d) (sym r.forwarder) ∙ makes

      here : bound w (record { port = port; caught = caught; way = Down q } ∷ L) b.mac ≡ Some b
      here =
          bound-grows w (record { port = port; caught = caught; way = Down q }) L b.mac
          ∙ ap (λ what. bound_after w b.mac (delivered what (Down q)) (bound w L b.mac)) is
          ∙ ap (λ o. or_else (option_and_then (if_of b.mac) o) (option_and_then (λ x. cond (ends_by w x d) None (Some x)) (bound w L b.mac))) own
          ∙ ap (λ t. or_else (cond t (Some b) None) (option_and_then (λ x. cond (ends_by w x d) None (Some x)) (bound w L b.mac))) (is_same b.mac b.mac refl)

  by_what : (what : What) (way : Way) → decoded caught ≡ what → Remembers w (record { port = port; caught = caught; way = way } ∷ L) s → IsKnownAlready port what way s
  by_what (Bad fault) way is r = tt
  by_what (Fcoe f read) way is r = tt
  by_what (Fip f m) All is r = tt
  by_what (Fip f m) (Dropped why) is r = tt
  by_what (Fip f m) Up is r = by_up f m is r
  by_what (Fip f m) (Down q) is r = by_down f m q is r

  pub known_already : (what : What) (way : Way) → what ≡ decoded caught → Remembers w (record { port = port; caught = caught; way = way } ∷ L) s → IsKnownAlready port what way s
  known_already what way is r = by_what what way (sym is) r

-- of data nothing is kept
pub data_is_known : (what : What) (f : eth.Eth) (port : ℕ) (way : Way) (s : Contents) (caught : Caught) (read : Result capsule.Fcoe FcoeFault) → what ≡ decoded caught → decoded caught ≡ Fcoe f read → IsKnownAlready port what way s
data_is_known what f port way s caught read is of_data = subst (λ x. IsKnownAlready port x way s) (sym (is ∙ of_data)) tt

-- what is known of one is known of what is equal to it
module _ (port : ℕ) {a b : What} {v w : Way} {s t : Contents} where
  pub known_as : a ≡ b → v ≡ w → t ≡ s → IsKnownAlready port a v s → IsKnownAlready port b w t
  known_as what way state known =
      subst (λ (x : Contents). IsKnownAlready port b w x) (sym state)
      (subst (λ (x : Way). IsKnownAlready port b x s) way
      (subst (λ (x : What). IsKnownAlready port x v s) what known))

-- what a grant binds is what a delivery binds
pub granted_already : (w : Forwarder) (d : Delivery) (g : Grant) (b : Binding) (bindings : List Binding) → grant_in w d.message ≡ Some g → b ≡ binding_by w d.port d.enode g → IsBoundAlready w d bindings → binding_in bindings b.mac ≡ Some b
granted_already w d g b bindings is made known = known b (ap (option_map (binding_by w d.port d.enode)) is ∙ ap Some (sym made))
