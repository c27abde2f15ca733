-- Who is bound, who has moved, and which data goes up.
use Rattle.std.proofs.Common.{◌≡◌, ◌≢◌, ℕ, ◌↔◌, Bool, true, false, not, cond, ◌&&◌, ◌||◌, ◌==◌, List, [], ◌∷◌, ◌++◌, Option, Some, None, is_some, option_and_then, refl, sym, ◌∙◌, ap, subst, arith}
use mathlib.Core.Bool.{false≢true}
use Rattle.std.specs.Prelude.{Result, Ok, Err}
use Rattle.std.specs.List.{list_any}
use Rattle.std.proofs.lemmas.Bool.Decides.{nat_tests}
use Rattle.fab_config.specs.Settings.{same_bytes}
use Rattle.eth_frames.specs.Ethernet as eth
use Rattle.fcoe_codec.specs.Fcoe as capsule
use Rattle.fcoe_codec.specs.declared.FcoeFault.{FcoeFault}
use Rattle.heard_frames.specs.Heard.{Fcoe}
use Rattle.heard_frames.specs.Rows.{is_wrong_vlan}
use Rattle.fip_snoop.specs.History.{Handled, History, home, or_else, binds, ends, is_grant, last_binding, since, if_unended, bound, is_elsewhere, has_moved}
use Rattle.fip_snoop.specs.Laws.{NoneOf, IsBound, BoundIs, MovedIs, IsOfLogin, DataGoesUp}
use Rattle.fip_snoop.specs.Ways.{FORWARDER_PORT, is_on, is_of, drops, up_data_rows, down_data_rows, down_data_to, way_of, way_by}
use Rattle.fip_snoop.specs.declared.bindings.Binding.{Binding}
use Rattle.fip_snoop.specs.declared.forwarder.Forwarder.{Forwarder}
use Rattle.fip_snoop.specs.declared.way.Way.TheVariants.{Up}
use Rattle.fip_snoop.specs.declared.way.SnoopRule.{SnoopRule}
use Rattle.fip_snoop.proofs.BoundLemmas.{granted_once}
use Rattle.fip_snoop.proofs.SameLemmas.{is_same, same_is}
use Rattle.fip_snoop.proofs.MovedLemmas.{has_moved-bound, bound-has_moved}

-- ---- who is bound

none_any : (p : Handled → Bool) (L : History) → NoneOf p L → list_any p L ≡ false
none_any p [] none = refl
none_any p (h ∷ L) none = grind (arith, nat_tests, none_any p L none.1, none.0)

any_none : (p : Handled → Bool) (L : History) → list_any p L ≡ false → NoneOf p L
any_none p [] none = tt
any_none p (h ∷ L) none = go (p h) refl none (any_none p L)
  where
    go : (a : Bool) → p h ≡ a → a || list_any p L ≡ false → (list_any p L ≡ false → NoneOf p L) → (p h ≡ false) × NoneOf p L
    go true is none later = absurd (false≢true (sym none))
    go false is none later = (is, later none)

-- the last grant of a MAC parts a history
pub record Parts (w : Forwarder) (L : History) (mac : List ℕ) (b : Binding) : Type 0 where
  pub later : History
  pub entry : Handled
  pub before : History
  pub are : L ≡ later ++ entry ∷ before
  pub makes : binds w mac entry ≡ Some b
  pub last : NoneOf (is_grant w mac) later
  pub since_ : since w mac L ≡ later

parts : (w : Forwarder) (mac : List ℕ) (b : Binding) (L : History) → last_binding w mac L ≡ Some b → Parts w L mac b
parts w mac b [] e = absurd (cc)
parts w mac b (h ∷ L) e = go (binds w mac h) refl e (parts w mac b L)
  where
    go : (o : Option Binding) → binds w mac h ≡ o → or_else o (last_binding w mac L) ≡ Some b → (last_binding w mac L ≡ Some b → Parts w L mac b) → Parts w (h ∷ L) mac b
    go (Some x) is e later = record { later = []; entry = h; before = L; are = refl; makes = is ∙ e; last = tt; since_ = ap (λ o. cond (is_some o) [] (h ∷ since w mac L)) is }
    go None is e later =
        let p = later e in
        record {
          later = h ∷ p.later;
          entry = p.entry;
          before = p.before;
          are = ap (λ l. h ∷ l) p.are;
          makes = p.makes;
          last = (ap is_some is, p.last);
          since_ = ap (λ o. cond (is_some o) [] (h ∷ since w mac L)) is ∙ ap (λ l. h ∷ l) p.since_;
        }

-- where it is parted so, its last grant is that one
parted : (w : Forwarder) (mac : List ℕ) (b : Binding) (later : History) (entry : Handled) (before : History) → binds w mac entry ≡ Some b → NoneOf (is_grant w mac) later
    → (last_binding w mac (later ++ entry ∷ before) ≡ Some b) × (since w mac (later ++ entry ∷ before) ≡ later)
parted w mac b [] entry before makes none =
    (ap (λ o. or_else o (last_binding w mac before)) makes, ap (λ o. cond (is_some o) [] (entry ∷ since w mac before)) makes)
parted w mac b (h ∷ later) entry before makes none = go (binds w mac h) refl none.0 (parted w mac b later entry before makes none.1)
  where
    go : (o : Option Binding) → binds w mac h ≡ o → is_some (binds w mac h) ≡ false → (last_binding w mac (later ++ entry ∷ before) ≡ Some b) × (since w mac (later ++ entry ∷ before) ≡ later)
        → (last_binding w mac (h ∷ later ++ entry ∷ before) ≡ Some b) × (since w mac (h ∷ later ++ entry ∷ before) ≡ h ∷ later)
    go (Some x) is fails rest = absurd (false≢true (sym fails ∙ ap is_some is))
    go None is fails rest = (
      ap (λ o. or_else o (last_binding w mac (later ++ entry ∷ before))) is ∙ rest.0,
      ap (λ o. cond (is_some o) [] (h ∷ since w mac (later ++ entry ∷ before))) is ∙ ap (λ l. h ∷ l) rest.1,
    )

pub bound_is : BoundIs
bound_is w L mac b = (there, back)
  where
    unended : (o : Option Binding) → option_and_then (if_unended w (since w mac L)) o ≡ Some b → (o ≡ Some b) × (list_any (ends w b) (since w mac L) ≡ false)
    unended None e = absurd (cc)
    unended (Some x) e = go (list_any (ends w x) (since w mac L)) refl e
      where
        go : (t : Bool) → list_any (ends w x) (since w mac L) ≡ t → cond t None (Some x) ≡ Some b → (Some x ≡ Some b) × (list_any (ends w b) (since w mac L) ≡ false)
        go true is e = absurd (cc)
        go false is e = (e, subst (λ o. ended o ≡ false) e is)
          where
            ended : Option Binding → Bool
            ended None = false
            ended (Some y) = list_any (ends w y) (since w mac L)

    there : bound w L mac ≡ Some b → IsBound w L mac b
    there e =
        let u = unended (last_binding w mac L) e in
        let p = parts w mac b L u.0 in
        record { later = p.later; entry = p.entry; before = p.before; are = p.are; makes = p.makes; last = p.last; stands = any_none (ends w b) p.later (subst (λ l. list_any (ends w b) l ≡ false) p.since_ u.1) }

    back : IsBound w L mac b → bound w L mac ≡ Some b
    back i =
        let p = parted w mac b i.later i.entry i.before i.makes i.last in
        subst (λ l. bound w l mac ≡ Some b) (sym i.are)
        (ap (option_and_then (if_unended w (since w mac (i.later ++ i.entry ∷ i.before)))) p.0
        ∙ ap (λ l. cond (list_any (ends w b) l) None (Some b)) p.1
        ∙ ap (λ t. cond t None (Some b)) (none_any (ends w b) i.later i.stands))

-- ---- who has moved

elsewhere_is : (port : ℕ) (enode : List ℕ) (b : Binding) → is_elsewhere port enode (Some b) ≡ true → (b.enode ≡ enode) × (b.port ≢ port)
elsewhere_is port enode b e = go (same_bytes b.enode enode) refl (b.port == port) refl e
  where
    go : (x : Bool) → same_bytes b.enode enode ≡ x → (y : Bool) → (b.port == port) ≡ y → x && not y ≡ true → (b.enode ≡ enode) × (b.port ≢ port)
    go true same true on e = absurd (false≢true e)
    go true same false on e = (same_is b.enode enode same, grind (arith, nat_tests))
    go false same y on e = absurd (false≢true e)

is_elsewhere_there : (port : ℕ) (enode : List ℕ) (b : Binding) → b.enode ≡ enode → b.port ≢ port → is_elsewhere port enode (Some b) ≡ true
is_elsewhere_there port enode b e differ = grind (arith, nat_tests, is_same b.enode enode e)

pub moved_is : MovedIs
moved_is w L port enode = (there, back)
  where
    there : has_moved w L port enode ≡ true → (mac : List ℕ) × (b : Binding) × (bound w L mac ≡ Some b) × (b.enode ≡ enode) × (b.port ≢ port)
    there e = let m = bound-has_moved w L port enode e in let q = elsewhere_is port enode m.1 m.3 in (m.0, m.1, m.2, q.0, q.1)

    back : (mac : List ℕ) × (b : Binding) × (bound w L mac ≡ Some b) × (b.enode ≡ enode) × (b.port ≢ port) → has_moved w L port enode ≡ true
    back m =
        let same = same_is (m.1).mac m.0 (granted_once w L m.0 m.1 m.2).3 in
        has_moved-bound w L port enode m.0 m.1 m.2 (is_same (m.1).mac m.0 same) enode (is_elsewhere_there port enode m.1 m.3 m.4) (subst (λ a. bound w L a ≡ Some m.1) (sym same) m.2)

-- ---- data

-- four rows drop nothing exactly where none of their conditions holds
four : (q r s t : SnoopRule) (a b c d : Bool) → drops ((a, q) ∷ (b, r) ∷ (c, s) ∷ (d, t) ∷ []) Up ≡ Up → (a ≡ false) × (b ≡ false) × (c ≡ false) × (d ≡ false)
four q r s t true b c d e = absurd (cc)
four q r s t false true c d e = absurd (cc)
four q r s t false false true d e = absurd (cc)
four q r s t false false false true e = absurd (cc)
four q r s t false false false false e = (refl, refl, refl, refl)

unfour : (q r s t : SnoopRule) (a b c d : Bool) → a ≡ false → b ≡ false → c ≡ false → d ≡ false → drops ((a, q) ∷ (b, r) ∷ (c, s) ∷ (d, t) ∷ []) Up ≡ Up
unfour q r s t true b c d e1 e2 e3 e4 = absurd (false≢true (sym e1))
unfour q r s t false true c d e1 e2 e3 e4 = absurd (false≢true (sym e2))
unfour q r s t false false true d e1 e2 e3 e4 = absurd (false≢true (sym e3))
unfour q r s t false false false true e1 e2 e3 e4 = absurd (false≢true (sym e4))
unfour q r s t false false false false e1 e2 e3 e4 = refl

pub not_not : (b : Bool) → not b ≡ false → b ≡ true
not_not true e = refl
not_not false e = absurd (false≢true (sym e))

pub not_is : (b : Bool) → b ≡ true → not b ≡ false
not_is true e = refl
not_is false e = absurd (false≢true e)

on_is : (port : ℕ) (o : Option Binding) → is_on port o ≡ true → (b : Binding) × (o ≡ Some b) × (b.port ≡ port)
on_is port None e = absurd (false≢true e)
on_is port (Some b) e = (b, refl, grind (arith, nat_tests))

of_is : (a : ℕ) (b : Binding) → is_of a (Some b) ≡ true → b.address ≡ a
of_is a b e = grind (arith, nat_tests)

pub vlan_is : (w : Forwarder) (f : eth.Eth) → is_wrong_vlan w.vlan f false ≡ false → eth.vlan_of_tag f.tag ≡ w.vlan
vlan_is w f e = grind (arith, nat_tests)

pub is_vlan : (w : Forwarder) (f : eth.Eth) → eth.vlan_of_tag f.tag ≡ w.vlan → is_wrong_vlan w.vlan f false ≡ false
is_vlan w f e = grind (arith, nat_tests)

-- the way of data from the port of an ENode
module _ (w : Forwarder) (L : History) (port : ℕ) (f : eth.Eth) (x : capsule.Fcoe) where
  up_is : drops (up_data_rows w port f x (bound w L f.src)) Up ≡ Up → IsOfLogin w L port f x
  up_is e =
      let r = four _ _ _ _ (is_wrong_vlan w.vlan f false) (not (same_bytes f.dst w.mac)) (not (is_on port (bound w L f.src))) (not (is_of x.frame.head.s_id (bound w L f.src))) e in
      let o = on_is port (bound w L f.src) (not_not _ r.2) in
      record {
        vlan = vlan_is w f r.0;
        forwarder = same_is f.dst w.mac (not_not _ r.1);
        binding = o.0;
        bound_ = (bound_is w L f.src o.0).0 o.1;
        port_ = o.2;
        address = of_is x.frame.head.s_id o.0 (subst (λ b. is_of x.frame.head.s_id b ≡ true) o.1 (not_not _ r.3));
      }

  is_up : IsOfLogin w L port f x → drops (up_data_rows w port f x (bound w L f.src)) Up ≡ Up
  is_up i =
      let is = (bound_is w L f.src i.binding).1 i.bound_ in
      let on : is_on port (bound w L f.src) ≡ true = ap (is_on port) is ∙ grind (arith, nat_tests, i.port_) in
      let own : is_of x.frame.head.s_id (bound w L f.src) ≡ true = ap (is_of x.frame.head.s_id) is ∙ grind (arith, nat_tests, i.address) in
      unfour _ _ _ _ (is_wrong_vlan w.vlan f false) (not (same_bytes f.dst w.mac)) (not (is_on port (bound w L f.src))) (not (is_of x.frame.head.s_id (bound w L f.src)))
      (is_vlan w f i.vlan) (not_is _ (is_same f.dst w.mac i.forwarder)) (not_is _ on) (not_is _ own)

abbrev pub read_as : capsule.Fcoe → Result capsule.Fcoe FcoeFault
read_as x = Ok x

pub data_up : DataGoesUp
unfolding way_of
data_up w L port caught f read differ is =
    subst (λ d. (way_by w (home L) (bound w L) (has_moved w L port) port d ≡ Up) ↔ ((x : capsule.Fcoe) × (read ≡ Ok x) × IsOfLogin w L port f x)) (sym is) (by_read read)
  where
    not_there : (port == FORWARDER_PORT) ≡ false
    not_there = grind (arith, nat_tests)

    by_read : (read : Result capsule.Fcoe FcoeFault) → (way_by w (home L) (bound w L) (has_moved w L port) port (Fcoe f read) ≡ Up) ↔ ((x : capsule.Fcoe) × (read ≡ Ok x) × IsOfLogin w L port f x)
    by_read (Err fault) = (λ e. absurd (cc), λ h. absurd (let e : Err fault ≡ Ok h.0 = h.1 in cc))
    by_read (Ok x) = (there, back)
      where
        other : cond (port == FORWARDER_PORT) (drops (down_data_rows w f) (down_data_to x.frame.head.d_id (bound w L f.dst))) (drops (up_data_rows w port f x (bound w L f.src)) Up) ≡ drops (up_data_rows w port f x (bound w L f.src)) Up
        other = ap (λ b. cond b (drops (down_data_rows w f) (down_data_to x.frame.head.d_id (bound w L f.dst))) (drops (up_data_rows w port f x (bound w L f.src)) Up)) not_there

        there : way_by w (home L) (bound w L) (has_moved w L port) port (Fcoe f (Ok x)) ≡ Up → (y : capsule.Fcoe) × (read_as x ≡ read_as y) × IsOfLogin w L port f y
        there e = (x, refl, up_is w L port f x (sym other ∙ e))

        back : (y : capsule.Fcoe) × (read_as x ≡ read_as y) × IsOfLogin w L port f y → way_by w (home L) (bound w L) (has_moved w L port) port (Fcoe f (Ok x)) ≡ Up
        back h = other ∙ is_up w L port f x (subst (λ r. of_login r) (sym h.1) h.2)
          where
            of_login : Result capsule.Fcoe FcoeFault → Type 0
            of_login (Err fault) = ⊥
            of_login (Ok y) = IsOfLogin w L port f y
