-- Where ENodes are, and which ports get what comes.
use Rattle.std.proofs.Common.{◌≡◌, ◌≢◌, ℕ, ◌↔◌, Bool, true, false, not, cond, ◌&&◌, ◌==◌, List, [], ◌∷◌, ◌++◌, Option, Some, None, refl, sym, ◌∙◌, ap, subst, arith}
use mathlib.Core.Bool.{false≢true}
use Rattle.std.specs.Prelude.{Result, Ok, Err}
use Rattle.std.proofs.lemmas.Bool.Decides.{nat_tests}
use Rattle.fab_config.specs.Settings.{same_bytes}
use Rattle.eth_frames.specs.Ethernet as eth
use Rattle.fcoe_codec.specs.Fcoe as capsule
use Rattle.fcoe_codec.specs.declared.FcoeFault.{FcoeFault}
use Rattle.heard_frames.specs.Heard.{What, Bad, Fip, Fcoe, decoded}
use Rattle.heard_frames.specs.Rows.{first_row, is_wrong_vlan}
use Rattle.fip_snoop.specs.Bridge.{leads_to}
use Rattle.fip_snoop.specs.History.{Handled, History, shown, shows, home, or_else, bound, has_moved}
use Rattle.fip_snoop.specs.Laws.{ShowsHome, NoneShows, IsHome, HomeIs, ENodesAreApart, IsToLogin, DataGoesDown}
use Rattle.fip_snoop.specs.Messages.{is_port_alive}
use Rattle.fip_snoop.specs.Ways.{FORWARDER_PORT, drops, down_rows, down_to, up_rows, up_data_rows, down_data_rows, down_data_to, way_of, way_by}
use Rattle.fip_snoop.specs.declared.bindings.Binding.{Binding}
use Rattle.fip_snoop.specs.declared.forwarder.Forwarder.{Forwarder}
use Rattle.fip_snoop.specs.declared.way.SnoopRule.{SnoopRule}
use Rattle.fip_snoop.specs.declared.way.SnoopRule.TheVariants as rule
use Rattle.fip_snoop.specs.declared.way.Way.{Way}
use Rattle.fip_snoop.specs.declared.way.Way.TheVariants.{Up, Down, All, Dropped}
use Rattle.fip_snoop.proofs.LawLemmas.{bound_is, not_not, not_is, vlan_is, is_vlan, read_as}
use Rattle.fip_snoop.proofs.SameLemmas.{is_same, same_is}

-- ---- where an ENode is

shown_is : (mac : List ℕ) (h : Handled) (port : ℕ) → shows mac h ≡ Some port → ShowsHome mac h × (h.port ≡ port)
shown_is mac h port e = by_what (decoded h.caught) refl h.way refl e
  where
    some_is : (p q : ℕ) → Some p ≡ Some q → p ≡ q
    some_is p q e = cc

    by_what : (what : What) → decoded h.caught ≡ what → (way : Way) → h.way ≡ way → shown mac h.port what way ≡ Some port → ShowsHome mac h × (h.port ≡ port)
    by_what (Bad fault) is way goes e = absurd (cc)
    by_what (Fcoe f read) is way goes e = absurd (cc)
    by_what (Fip f m) is (Down q) goes e = absurd (cc)
    by_what (Fip f m) is All goes e = absurd (cc)
    by_what (Fip f m) is (Dropped r) goes e = absurd (cc)
    by_what (Fip f m) is Up goes e = tests (is_port_alive m) refl (same_bytes f.src mac) refl e
      where
        tests : (a : Bool) → is_port_alive m ≡ a → (b : Bool) → same_bytes f.src mac ≡ b → cond (not a && b) (Some h.port) None ≡ Some port → ShowsHome mac h × (h.port ≡ port)
        tests true alive b same e = absurd (cc)
        tests false alive false same e = absurd (cc)
        tests false alive true same e = (record { frame = f; message = m; is = is; source = same_is f.src mac same; of_enode = alive; up = goes }, some_is h.port port e)

is_shown : (mac : List ℕ) (h : Handled) → ShowsHome mac h → shows mac h ≡ Some h.port
is_shown mac h s =
    ap (λ what. shown mac h.port what h.way) s.is
    ∙ ap (shown mac h.port (Fip s.frame s.message)) s.up
    ∙ ap (λ a. cond (not a && same_bytes s.frame.src mac) (Some h.port) None) s.of_enode
    ∙ ap (λ b. cond b (Some h.port) None) (is_same s.frame.src mac s.source)

none_shown : (mac : List ℕ) (h : Handled) → shows mac h ≡ None → ShowsHome mac h → ⊥
none_shown mac h none s = let e : None ≡ Some h.port = sym none ∙ is_shown mac h s in cc

shown_none : (mac : List ℕ) (h : Handled) → (ShowsHome mac h → ⊥) → shows mac h ≡ None
shown_none mac h never = go (shows mac h) refl
  where
    go : (o : Option ℕ) → shows mac h ≡ o → shows mac h ≡ None
    go None is = is
    go (Some port) is = absurd (never (shown_is mac h port is).0)

home_there : (mac : List ℕ) (port : ℕ) (L : History) → home L mac ≡ Some port → IsHome L mac port
home_there mac port [] e = absurd (cc)
home_there mac port (h ∷ L) e = go (shows mac h) refl e (home_there mac port L)
  where
    go : (o : Option ℕ) → shows mac h ≡ o → or_else o (home L mac) ≡ Some port → (home L mac ≡ Some port → IsHome L mac port) → IsHome (h ∷ L) mac port
    go (Some x) is e later = let s = shown_is mac h port (is ∙ e) in record { later = []; entry = h; before = L; are = refl; shows_ = s.0; port_ = s.1; last = tt }
    go None is e later =
        let p = later e in
        record { later = h ∷ p.later; entry = p.entry; before = p.before; are = ap (λ l. h ∷ l) p.are; shows_ = p.shows_; port_ = p.port_; last = (none_shown mac h is, p.last) }

home_back : (mac : List ℕ) (later : History) (entry : Handled) (before : History) → ShowsHome mac entry → NoneShows mac later → home (later ++ entry ∷ before) mac ≡ Some entry.port
home_back mac [] entry before s none = ap (λ o. or_else o (home before mac)) (is_shown mac entry s)
home_back mac (h ∷ later) entry before s none =
    ap (λ o. or_else o (home (later ++ entry ∷ before) mac)) (shown_none mac h none.0) ∙ home_back mac later entry before s none.1

pub home_is : HomeIs
home_is L mac port = (home_there mac port L, back)
  where
    back : IsHome L mac port → home L mac ≡ Some port
    back i = subst (λ l. home l mac ≡ Some port) (sym i.are) (home_back mac i.later i.entry i.before i.shows_ i.last ∙ ap Some i.port_)

-- ---- from the port of an ENode

-- what may be dropped, or else goes up, leads to no other port
up_alone : (rows : List (Bool × SnoopRule)) (q : ℕ) → leads_to q (drops rows Up) ≡ true → q ≡ FORWARDER_PORT
up_alone rows q e = go (first_row rows) e
  where
    go : (o : Option SnoopRule) → leads_to q (elim o [ Some r ↦ Dropped r | None ↦ Up ]) ≡ true → q ≡ FORWARDER_PORT
    go (Some r) e = absurd (false≢true e)
    go None e = grind (arith, nat_tests)

pub enodes_are_apart : ENodesAreApart
unfolding way_of
enodes_are_apart w L port caught q differ e = by_what (decoded caught) e
  where
    not_there : (port == FORWARDER_PORT) ≡ false
    not_there = grind (arith, nat_tests)

    by_what : (what : What) → leads_to q (way_by w (home L) (bound w L) (has_moved w L port) port what) ≡ true → q ≡ FORWARDER_PORT
    by_what (Bad fault) e = absurd (false≢true e)
    by_what (Fcoe f (Err fault)) e = absurd (false≢true e)
    by_what (Fcoe f (Ok x)) e =
        up_alone (up_data_rows w port f x (bound w L f.src)) q
        (subst (λ b. leads_to q (cond b (drops (down_data_rows w f) (down_data_to x.frame.head.d_id (bound w L f.dst))) (drops (up_data_rows w port f x (bound w L f.src)) Up)) ≡ true) not_there e)
    by_what (Fip f m) e =
        up_alone (up_rows w port f m (bound w L f.src) (has_moved w L port f.src)) q
        (subst (λ b. leads_to q (cond b (drops (down_rows w f m) (down_to f.dst (home L f.dst))) (drops (up_rows w port f m (bound w L f.src) (has_moved w L port f.src)) Up)) ≡ true) not_there e)

-- ---- data from the forwarder's port

-- two rows drop nothing, and the way leads there
two : (r s : SnoopRule) (a b : Bool) (way : Way) (q : ℕ) → leads_to q (drops ((a, r) ∷ (b, s) ∷ []) way) ≡ true → (a ≡ false) × (b ≡ false) × (leads_to q way ≡ true)
two r s true b way q e = absurd (false≢true e)
two r s false true way q e = absurd (false≢true e)
two r s false false way q e = (refl, refl, e)

untwo : (r s : SnoopRule) (a b : Bool) (way : Way) → a ≡ false → b ≡ false → drops ((a, r) ∷ (b, s) ∷ []) way ≡ way
untwo r s true b way e1 e2 = absurd (false≢true (sym e1))
untwo r s false true way e1 e2 = absurd (false≢true (sym e2))
untwo r s false false way e1 e2 = refl

-- data leads to the port of the binding, where it is of its address
to_port : (d_id q : ℕ) (o : Option Binding) → leads_to q (down_data_to d_id o) ≡ true → (b : Binding) × (o ≡ Some b) × (b.port ≡ q) × (b.address ≡ d_id)
to_port d_id q None e = absurd (false≢true e)
to_port d_id q (Some b) e = go (b.address == d_id) refl e
  where
    go : (t : Bool) → (b.address == d_id) ≡ t → leads_to q (cond t (Down b.port) (Dropped rule.Address)) ≡ true → (c : Binding) × (Some b ≡ Some c) × (c.port ≡ q) × (c.address ≡ d_id)
    go true is e = (b, refl, grind (arith, nat_tests), grind (arith, nat_tests))
    go false is e = absurd (false≢true e)

port_to : (d_id q : ℕ) (b : Binding) → b.port ≡ q → b.address ≡ d_id → leads_to q (down_data_to d_id (Some b)) ≡ true
port_to d_id q b on own = ap (λ t. leads_to q (cond t (Down b.port) (Dropped rule.Address))) same ∙ grind (arith, nat_tests)
  where
    same : (b.address == d_id) ≡ true
    same = grind (arith, nat_tests)

module _ (w : Forwarder) (L : History) (q : ℕ) (f : eth.Eth) (x : capsule.Fcoe) where
  down_is : leads_to q (drops (down_data_rows w f) (down_data_to x.frame.head.d_id (bound w L f.dst))) ≡ true → IsToLogin w L q f x
  down_is e =
      let r = two _ _ (is_wrong_vlan w.vlan f false) (not (same_bytes f.src w.mac)) (down_data_to x.frame.head.d_id (bound w L f.dst)) q e in
      let o = to_port x.frame.head.d_id q (bound w L f.dst) r.2 in
      record { vlan = vlan_is w f r.0; forwarder = same_is f.src w.mac (not_not _ r.1); binding = o.0; bound_ = (bound_is w L f.dst o.0).0 o.1; port_ = o.2; address = o.3 }

  is_down : IsToLogin w L q f x → leads_to q (drops (down_data_rows w f) (down_data_to x.frame.head.d_id (bound w L f.dst))) ≡ true
  is_down i =
      ap (leads_to q) (untwo _ _ (is_wrong_vlan w.vlan f false) (not (same_bytes f.src w.mac)) (down_data_to x.frame.head.d_id (bound w L f.dst)) (is_vlan w f i.vlan) (not_is _ (is_same f.src w.mac i.forwarder)))
      ∙ ap (λ o. leads_to q (down_data_to x.frame.head.d_id o)) ((bound_is w L f.dst i.binding).1 i.bound_)
      ∙ port_to x.frame.head.d_id q i.binding i.port_ i.address

pub data_down : DataGoesDown
unfolding way_of
data_down w L port caught f read q there_ is =
    subst (λ d. (leads_to q (way_by w (home L) (bound w L) (has_moved w L port) port d) ≡ true) ↔ ((x : capsule.Fcoe) × (read ≡ Ok x) × IsToLogin w L q f x)) (sym is) (by_read read)
  where
    on_it : (port == FORWARDER_PORT) ≡ true
    on_it = grind (arith, nat_tests)

    by_read : (read : Result capsule.Fcoe FcoeFault) → (leads_to q (way_by w (home L) (bound w L) (has_moved w L port) port (Fcoe f read)) ≡ true) ↔ ((x : capsule.Fcoe) × (read ≡ Ok x) × IsToLogin w L q f x)
    by_read (Err fault) = (λ e. absurd (false≢true e), λ h. absurd (let e : Err fault ≡ Ok h.0 = h.1 in cc))
    by_read (Ok x) = (there, back)
      where
        down_way : Way
        down_way = drops (down_data_rows w f) (down_data_to x.frame.head.d_id (bound w L f.dst))

        here : leads_to q (cond (port == FORWARDER_PORT) down_way (drops (up_data_rows w port f x (bound w L f.src)) Up)) ≡ leads_to q down_way
        here = ap (λ b. leads_to q (cond b down_way (drops (up_data_rows w port f x (bound w L f.src)) Up))) on_it

        there : leads_to q (way_by w (home L) (bound w L) (has_moved w L port) port (Fcoe f (Ok x))) ≡ true → (y : capsule.Fcoe) × (read_as x ≡ read_as y) × IsToLogin w L q f y
        there e = (x, refl, down_is w L q f x (sym here ∙ e))

        back : (y : capsule.Fcoe) × (read_as x ≡ read_as y) × IsToLogin w L q f y → leads_to q (way_by w (home L) (bound w L) (has_moved w L port) port (Fcoe f (Ok x))) ≡ true
        back h = here ∙ is_down w L q f x (subst (λ r. to_login r) (sym h.1) h.2)
          where
            to_login : Result capsule.Fcoe FcoeFault → Type 0
            to_login (Err fault) = ⊥
            to_login (Ok y) = IsToLogin w L q f y
