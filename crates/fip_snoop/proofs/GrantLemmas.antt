-- What a message to an ENode ends, and what is kept behind it.
use Rattle.std.proofs.Common.{◌≡◌, ℕ, Bool, true, false, not, cond, ◌&&◌, ◌||◌, List, [], ◌∷◌, ◌++◌, filter, Option, Some, None, option_map, is_some, append-nil, refl, sym, ◌∙◌, ap, subst}
use mathlib.Core.Bool.{false≢true}
use Rattle.std.proofs.lemmas.Bool.{and_parts}
use Rattle.std.proofs.lemmas.List.Elements.{filter-append}
use Rattle.fab_config.specs.Settings.{same_bytes}
use Rattle.fip_codec.specs.Message as fip
use Rattle.fip_codec.specs.declared.message.LoginKind.TheVariants.{Flogi, Fdisc, Logo}
use Rattle.sorted_lists.proofs.IndexLemmas.{none_some}
use Rattle.fip_snoop.specs.Messages.{is_at, clears, grant_in, is_first_grant, released_in}
use Rattle.fip_snoop.specs.History.{Delivery}
use Rattle.fip_snoop.specs.Snoop.{is_binding_of, without_binding, with_one, with_binding, binding_by, is_ended, unended_by, behind}
use Rattle.fip_snoop.specs.Maps.{SameBindings, IsOf, IsBound, is_ended_by, may_end}
use Rattle.fip_snoop.specs.declared.bindings.Binding.{Binding}
use Rattle.fip_snoop.specs.declared.forwarder.Forwarder.{Forwarder}
use Rattle.fip_snoop.specs.declared.grant.Ending.{Ending}
use Rattle.fip_snoop.specs.declared.grant.Ending.TheVariants.{Others, Told}
use Rattle.fip_snoop.specs.declared.grant.Grant.{Grant}
use Rattle.fip_snoop.proofs.KeptLemmas.{other_bindings, own_bindings}
use Rattle.fip_snoop.proofs.ListLemmas.{filter-swap}
use Rattle.fip_snoop.proofs.KeyLemmas.{filter-alike, filter-all, filter-among-all, All-from_among}
use Rattle.fip_snoop.proofs.SameLemmas.{same_is, is_same}

pub ended_own : (enode : List ℕ) (ending : Ending) (b : Binding) → is_ended_by enode ending b ≡ true → IsOf enode b
ended_own enode (Others own) b e = (and_parts (same_bytes enode b.enode) (not (is_binding_of own b)) e).0
ended_own enode (Told message released) b e = (and_parts (same_bytes enode b.enode) (is_at b.address released || clears b.mac (fip.view message.now) || false) e).0

unended_at : (enode : List ℕ) (m : fip.Fip) (released : Option ℕ) → is_some released ≡ false → (b : Binding) → clears b.mac m ≡ false → is_ended enode m false released b ≡ false
unended_at enode m None e b clear = ap (λ (c : Bool). same_bytes enode b.enode && (false || c || false)) clear ∙ neither (same_bytes enode b.enode)
  where
    neither : (s : Bool) → (s && false) ≡ false
    neither true = refl
    neither false = refl
unended_at enode m (Some a) e b clear = absurd (false≢true (sym e))

-- what accepts no LOGO and clears nothing ends nothing
unended_all : (enode : List ℕ) (m : fip.Fip) (released : Option ℕ) → may_end m released ≡ false → (b : Binding) → is_ended enode m false released b ≡ false
unended_all enode (fip.Clear mac switch ports) released e b = absurd (false≢true (sym e))
unended_all enode (fip.LoginReply kind fp frame mac) released e b = unended_at enode (fip.LoginReply kind fp frame mac) released e b refl
unended_all enode (fip.Solicit from_fcf fp mac name size) released e b = unended_at enode (fip.Solicit from_fcf fp mac name size) released e b refl
unended_all enode (fip.Advertise solicited available from_fcf fp priority mac switch fc_map fabric silent period) released e b = unended_at enode (fip.Advertise solicited available from_fcf fp priority mac switch fc_map fabric silent period) released e b refl
unended_all enode (fip.Login kind fp frame mac) released e b = unended_at enode (fip.Login kind fp frame mac) released e b refl
unended_all enode (fip.Keep mac port) released e b = unended_at enode (fip.Keep mac port) released e b refl
unended_all enode (fip.VlanAsk mac name) released e b = unended_at enode (fip.VlanAsk mac name) released e b refl
unended_all enode (fip.VlanTell mac vlans) released e b = unended_at enode (fip.VlanTell mac vlans) released e b refl

-- a grant accepts no LOGO and clears nothing
quiet : (w : Forwarder) (m : fip.Fip) (g : Grant) → grant_in w m ≡ Some g → (released_in m ≡ None) × ((mac : List ℕ) → clears mac m ≡ false)
quiet w (fip.LoginReply Flogi fp frame (Some mac)) g e = (refl, λ _. refl)
quiet w (fip.LoginReply Fdisc fp frame (Some mac)) g e = (refl, λ _. refl)
quiet w (fip.LoginReply Logo fp frame (Some mac)) g e = absurd (none_some g e)
quiet w (fip.LoginReply kind fp frame None) g e = absurd (none_some g e)
quiet w (fip.Solicit from_fcf fp mac name size) g e = absurd (none_some g e)
quiet w (fip.Advertise solicited available from_fcf fp priority mac switch fc_map fabric silent period) g e = absurd (none_some g e)
quiet w (fip.Login kind fp frame mac) g e = absurd (none_some g e)
quiet w (fip.Keep mac port) g e = absurd (none_some g e)
quiet w (fip.Clear mac switch ports) g e = absurd (none_some g e)
quiet w (fip.VlanAsk mac name) g e = absurd (none_some g e)
quiet w (fip.VlanTell mac vlans) g e = absurd (none_some g e)

and_false : (s : Bool) → not (s && false) ≡ true
and_false true = refl
and_false false = refl

-- lists that are the same stay so where some go
same_kept : (p : Binding → Bool) (bs cs : List Binding) → SameBindings bs cs → SameBindings (filter p bs) (filter p cs)
same_kept p bs cs same mac = filter-swap (is_binding_of mac) p bs ∙ ap (filter p) (same mac) ∙ filter-swap p (is_binding_of mac) cs

module _ (enode : List ℕ) (m : fip.Fip) (released : Option ℕ) (none : released ≡ None) (clear : (mac : List ℕ) → clears mac m ≡ false) (x : Binding) (bs : List Binding) where
  plain : (first : Bool) (b : Binding) → is_ended enode m first released b ≡ (same_bytes enode b.enode && first)
  plain first b =
      ap (λ (o : Option ℕ). same_bytes enode b.enode && (is_at b.address o || clears b.mac m || first)) none
      ∙ ap (λ (c : Bool). same_bytes enode b.enode && (false || c || first)) (clear b.mac)

  abbrev others : Binding → Bool
  others b = not (is_binding_of x.mac b)

  abbrev keeps : Binding → Bool
  keeps b = not (is_ended_by enode (Others x.mac) b)

  abbrev unended : Binding → Bool
  unended b = not (is_ended enode m true released b)

  -- a grant that answers a FLOGI ends all others of its ENode
  first_ends : filter keeps (with_one x bs) ≡ with_one x (unended_by enode m true released bs)
  first_ends =
      filter-append keeps (without_binding x.mac bs) (x ∷ [])
      ∙ ap (λ (t : Bool). filter keeps (filter others bs) ++ cond t (x ∷ []) []) (ap (λ (t : Bool). not (same_bytes enode x.enode && not t)) (is_same x.mac x.mac refl) ∙ and_false (same_bytes enode x.enode))
      ∙ ap (λ (l : List Binding). l ++ x ∷ [])
      (filter-alike (λ b. others b ≡ true) keeps unended
      (λ b other. ap (λ (t : Bool). not (same_bytes enode b.enode && t)) other ∙ sym (ap not (plain true b)))
      (filter others bs) (All-from_among (λ b. others b ≡ true) (filter others bs) (λ b here. (filter-among-all others b bs here).1))
      ∙ filter-swap unended others bs)

  -- another grant ends none
  more_ends : unended_by enode m false released bs ≡ bs
  more_ends = filter-all (λ b. not (is_ended enode m false released b)) bs
      (All-from_among (λ b. not (is_ended enode m false released b) ≡ true) bs (λ b here. ap not (plain false b) ∙ and_false (same_bytes enode b.enode)))

-- a binding that is there is in its place
pub bound_stays : (x : Binding) (bs : List Binding) → IsBound x bs → SameBindings bs (with_one x bs)
bound_stays x bs bound mac = go (same_bytes x.mac mac) refl ∙ sym (filter-append (is_binding_of mac) (without_binding x.mac bs) (x ∷ []))
  where
    go : (s : Bool) → same_bytes x.mac mac ≡ s → filter (is_binding_of mac) bs ≡ filter (is_binding_of mac) (without_binding x.mac bs) ++ cond s (x ∷ []) []
    go true is =
        ap (λ (l : List ℕ). filter (is_binding_of l) bs) (sym (same_is x.mac mac is)) ∙ bound
        ∙ ap (λ (l : List Binding). l ++ x ∷ []) (sym (own_bindings mac x.mac bs (same_is x.mac mac is)))
    go false is =
        sym (append-nil (filter (is_binding_of mac) (without_binding x.mac bs)) ∙ other_bindings mac x.mac bs (λ same. false≢true (sym is ∙ same)))

-- ---- what is kept behind a message

module _ (w : Forwarder) (d : Delivery) (bs : List Binding) where
  abbrev by : Option Grant → List Binding
  by o = with_binding (option_map (λ g. binding_by w d.port d.enode g) o) (unended_by d.enode d.message (is_first_grant o) (released_in d.message) bs)

  module _ (g : Grant) (granted : grant_in w d.message ≡ Some g) (x : Binding) (is : x ≡ binding_by w d.port d.enode g) where
    behind_is : (first : Bool) → g.first ≡ first → with_one x (unended_by d.enode d.message first (released_in d.message) bs) ≡ behind w d bs
    behind_is first e =
        ap (λ (f : Bool). with_one x (unended_by d.enode d.message f (released_in d.message) bs)) (sym e)
        ∙ ap (λ (b : Binding). with_one b (unended_by d.enode d.message g.first (released_in d.message) bs)) is
        ∙ sym (ap by granted)

    pub granted_first : (put new : List Binding) → g.first ≡ true → SameBindings put (with_one x bs) → new ≡ filter (λ b. not (is_ended_by d.enode (Others x.mac) b)) put → SameBindings new (behind w d bs)
    granted_first put new first same e =
        let h = quiet w d.message g granted in
        subst (λ (l : List Binding). SameBindings new l) (first_ends d.enode d.message (released_in d.message) h.0 h.1 x bs ∙ behind_is true first)
        (subst (λ (l : List Binding). SameBindings l (filter (λ b. not (is_ended_by d.enode (Others x.mac) b)) (with_one x bs))) (sym e)
        (same_kept (λ b. not (is_ended_by d.enode (Others x.mac) b)) put (with_one x bs) same))

    pub granted_more : (new : List Binding) → g.first ≡ false → SameBindings new (with_one x bs) → SameBindings new (behind w d bs)
    granted_more new more same =
        let h = quiet w d.message g granted in
        subst (λ (l : List Binding). SameBindings new l)
        (ap (λ (l : List Binding). with_one x l) (sym (more_ends d.enode d.message (released_in d.message) h.0 h.1 x bs)) ∙ behind_is false more) same

  pub told : (new : List Binding) → grant_in w d.message ≡ None → new ≡ unended_by d.enode d.message false (released_in d.message) bs → SameBindings new (behind w d bs)
  told new none e mac = ap (filter (is_binding_of mac)) (e ∙ sym (ap by none))

  pub told_nothing : (released : Option ℕ) → grant_in w d.message ≡ None → released ≡ released_in d.message → may_end d.message released ≡ false → SameBindings bs (behind w d bs)
  told_nothing released none is may = told bs none (sym (filter-all (λ b. not (is_ended d.enode d.message false (released_in d.message) b)) bs
      (All-from_among (λ b. not (is_ended d.enode d.message false (released_in d.message) b) ≡ true) bs (λ b here.
      ap not (unended_all d.enode d.message (released_in d.message) (ap (λ (o : Option ℕ). may_end d.message o) (sym is) ∙ may) b)))))
