-- What a bridge sends to a port came in on a port from which its way leads there.
use Rattle.std.proofs.Common.{◌≡◌, ◌≢◌, ℕ, ◌+◌, ◌==◌, nat_le, not, ◌&&◌, Bool, true, false, cond, ◌⊎◌, inl, inr, List, [], ◌∷◌, ◌++◌, map, Option, Some, None, Ok, Err, option_map, option_and_then, refl, sym, ap, ◌∙◌, subst, arith}
use Rattle.std.specs.List.{list_any}
use Rattle.std.proofs.lemmas.Bool.{eqb-true}
use Rattle.std.proofs.lemmas.Bool.Decides.{nat_tests, eqb_tells}
use Rattle.fab_base.specs.declared.values.Caught.{Caught}
use Rattle.fab_config.specs.Settings.{same_bytes}
use Rattle.pcap_file.specs.Capture.{head_bytes, record_bytes}
use Rattle.pcap_file.specs.declared.Record.{Record}
use Rattle.heard_frames.specs.Heard.{What, Bad, Fip, Fcoe, decoded}
use Rattle.heard_frames.specs.Rows.{first_row, ALL_ENODES}
use Rattle.fip_snoop.specs.Bridge.{Arrival, arrival, arrivals_from, with_arrival, in_order, arrivals, handled, history, leads_to}
use Rattle.side_runs.specs.Copies.{records_to, capture}
use Rattle.fip_snoop.specs.History.{Handled, History, Delivery, or_else, latest, shown, shows, home, delivered, delivery, bound_by, if_of, binds, last_binding, since, if_unended, ends, bound, has_moved}
use Rattle.fip_snoop.specs.Laws.{ENodesAreApart}
use Rattle.fip_snoop.specs.Messages.{grant_in, granted_mac, is_port_alive}
use Rattle.fip_snoop.specs.Ways.{FORWARDER_PORT, drops, down_rows, down_to, down_data_rows, down_data_to, up_rows, up_data_rows, way_by, way_of}
use Rattle.fip_snoop.specs.declared.bindings.Binding.{Binding}
use Rattle.fip_snoop.specs.declared.forwarder.Forwarder.{Forwarder}
use Rattle.fip_snoop.specs.declared.way.SnoopRule.{SnoopRule}
use Rattle.fip_snoop.specs.declared.way.SnoopRule.TheVariants as rule
use Rattle.fip_snoop.specs.declared.way.Way.{Way}
use Rattle.fip_snoop.specs.declared.way.Way.TheVariants.{Up, Down, All, Dropped}
use Rattle.enode_core.specs.Laws.{IsAmong}
use Rattle.enode_core.proofs.Sources.{Each}
use Rattle.joined_runs.specs.Box.{IsAt}
use Rattle.joined_runs.specs.Sent.{IsPassed}
use Rattle.joined_runs.proofs.AmongLemmas.{among_append, among_back}
use Rattle.joined_runs.proofs.BackLemmas.{written_of}

-- ---- what comes

came_in : (x : Arrival) (xs : List Arrival) (a : Arrival) → IsAmong a (with_arrival x xs) → (a ≡ x) ⊎ IsAmong a xs
came_in x [] a h = h
came_in x (y ∷ ys) a h = by_test (nat_le x.moment y.moment) h (came_in x ys a)
  where
    by_test : (b : Bool) → IsAmong a (cond b (x ∷ y ∷ ys) (y ∷ with_arrival x ys)) → (IsAmong a (with_arrival x ys) → (a ≡ x) ⊎ IsAmong a ys) → (a ≡ x) ⊎ IsAmong a (y ∷ ys)
    by_test true (inl is) more = inl is
    by_test true (inr there) more = inr there
    by_test false (inl is) more = inr (inl is)
    by_test false (inr there) more = elim (more there) [ inl is ↦ inl is | inr later ↦ inr (inr later) ]

ordered_in : (xs : List Arrival) (a : Arrival) → IsAmong a (in_order xs) → IsAmong a xs
ordered_in [] a h = h
ordered_in (x ∷ xs) a h = elim (came_in x (in_order xs) a h) [ inl is ↦ inl is | inr there ↦ inr (ordered_in xs a there) ]

-- A frame that is handled is one of the capture of its port.
pub record IsOfPort (first : ℕ) (ins : List (List Record)) (a : Arrival) : Type 0 where
  pub records : List Record
  pub r : Record
  pub at : IsAt first ins a.port records
  pub among : IsAmong r records
  pub frame : a.caught ≡ r.caught

mapped : (port : ℕ) (records : List Record) (a : Arrival) → IsAmong a (map (arrival port) records) → (r : Record) × IsAmong r records × (a ≡ arrival port r)
mapped port [] a h = absurd h
mapped port (r ∷ records) a (inl is) = (r, inl refl, is)
mapped port (r ∷ records) a (inr later) = let l = mapped port records a later in (l.0, inr l.1, l.2)

from_port : (first : ℕ) (ins : List (List Record)) (a : Arrival) → IsAmong a (arrivals_from first ins) → IsOfPort first ins a
from_port first [] a h = absurd h
from_port first (records ∷ ins) a h = elim (among_append (map (arrival first) records) (arrivals_from (first + 1) ins) a h) [
  | inl here ↦ let m = mapped first records a here in record { records = records; r = m.0; at = inl (ap (λ (x : Arrival). x.port) m.2, refl); among = m.1; frame = ap (λ (x : Arrival). x.caught) m.2 }
  | inr later ↦ let l = from_port (first + 1) ins a later in record { records = l.records; r = l.r; at = inr l.at; among = l.among; frame = l.frame }
]

pub came_from : (ins : List (List Record)) (a : Arrival) → IsAmong a (arrivals ins) → IsOfPort 1 ins a
came_from ins a h = from_port 1 ins a (ordered_in (arrivals_from 1 ins) a h)

-- ---- ways

-- What comes on the forwarder's port doesn't go up, and nothing goes down to that port.
abbrev IsSided : ℕ → Way → Type 0
IsSided port Up = port ≢ FORWARDER_PORT
IsSided port (Down q) = q ≢ FORWARDER_PORT
IsSided port All = Unit {0}
IsSided port (Dropped why) = Unit {0}

abbrev AreSided : History → Type 0
AreSided L = Each (λ h. IsSided h.port h.way) L

latest_there : {X : Type 0} (says : Handled → Option X) (L : History) (x : X) → latest says L ≡ Some x → AreSided L → (h : Handled) × (says h ≡ Some x) × IsSided h.port h.way
latest_there {X = X} says [] x e sided = absurd (cc)
latest_there {X = X} says (h ∷ L) x e sided = go (says h) refl e (latest_there says L x)
  where
    go : (o : Option X) → says h ≡ o → or_else o (latest says L) ≡ Some x → (latest says L ≡ Some x → AreSided L → (g : Handled) × (says g ≡ Some x) × IsSided g.port g.way) → (g : Handled) × (says g ≡ Some x) × IsSided g.port g.way
    go None is e later = later e sided.1
    go (Some y) is e later = (h, is ∙ e, sided.0)

home_far : (L : History) (mac : List ℕ) (q : ℕ) → home L mac ≡ Some q → AreSided L → q ≢ FORWARDER_PORT
home_far L mac q e sided = let l = latest_there (shows mac) L q e sided in by_what l.0 (decoded l.0.caught) l.0.way l.1 l.2
  where
    by_test : (h : Handled) (b : Bool) → cond b (Some h.port) None ≡ Some q → h.port ≢ FORWARDER_PORT → q ≢ FORWARDER_PORT
    by_test h true e far = λ is. far ((let same : h.port ≡ q = cc in same) ∙ is)
    by_test h false e far = absurd (cc)

    by_what : (h : Handled) (what : What) (way : Way) → shown mac h.port what way ≡ Some q → IsSided h.port way → q ≢ FORWARDER_PORT
    by_what h (Bad cause) way e far = absurd (cc)
    by_what h (Fcoe f read) way e far = absurd (cc)
    by_what h (Fip f m) (Down p) e far = absurd (cc)
    by_what h (Fip f m) All e far = absurd (cc)
    by_what h (Fip f m) (Dropped why) e far = absurd (cc)
    by_what h (Fip f m) Up e far = by_test h (not (is_port_alive m) && same_bytes f.src mac) e far

bound_far : (w : Forwarder) (L : History) (mac : List ℕ) (b : Binding) → bound w L mac ≡ Some b → AreSided L → b.port ≢ FORWARDER_PORT
bound_far w L mac b e sided = by_last (last_binding w mac L) refl e
  where
    by_way : (h : Handled) (d : Delivery) (what : What) (way : Way) → delivered what way ≡ Some d → IsSided h.port way → d.port ≢ FORWARDER_PORT
    by_way h d (Bad cause) way e far = absurd (cc)
    by_way h d (Fcoe f read) way e far = absurd (cc)
    by_way h d (Fip f m) Up e far = absurd (cc)
    by_way h d (Fip f m) All e far = absurd (cc)
    by_way h d (Fip f m) (Dropped why) e far = absurd (cc)
    by_way h d (Fip f m) (Down q) e far = λ is. far (ap (λ (x : Delivery). x.port) (let same : record { port = q; enode = f.dst; message = m } ≡ d = cc in same) ∙ is)

    by_same : (x y : Binding) (b : Bool) → cond b (Some x) None ≡ Some y → x ≡ y
    by_same x y true e = cc
    by_same x y false e = absurd (cc)

    by_grant : {G : Type 0} (d : Delivery) (x : Binding) (o : Option G) (f : G → Binding) → ((g : G) → (f g).port ≡ d.port) → option_and_then (if_of mac) (option_map f o) ≡ Some x → d.port ≡ x.port
    by_grant d x None f is e = absurd (cc)
    by_grant d x (Some g) f is e = sym (is g) ∙ ap (λ (y : Binding). y.port) (by_same (f g) x (same_bytes (f g).mac mac) e)

    by_delivery : (h : Handled) (x : Binding) (o : Option Delivery) → delivery h ≡ o → option_and_then (if_of mac) (option_and_then (bound_by w) o) ≡ Some x → IsSided h.port h.way → x.port ≢ FORWARDER_PORT
    by_delivery h x None is e far = absurd (cc)
    by_delivery h x (Some d) is e far = λ same. by_way h d (decoded h.caught) h.way is far (by_grant d x (grant_in w d.message) (λ g. record { mac = granted_mac w g.address; port = d.port; enode = d.enode; address = g.address }) (λ g. refl) e ∙ same)

    far_of : (x : Binding) → last_binding w mac L ≡ Some x → x.port ≢ FORWARDER_PORT
    far_of x is = let l = latest_there (binds w mac) L x is sided in by_delivery l.0 x (delivery l.0) refl l.1 l.2

    by_end : (x : Binding) (t : Bool) → last_binding w mac L ≡ Some x → cond t None (Some x) ≡ Some b → b.port ≢ FORWARDER_PORT
    by_end x true is e = absurd (cc)
    by_end x false is e = λ same. far_of x is (ap (λ (y : Binding). y.port) (let one : x ≡ b = cc in one) ∙ same)

    by_last : (o : Option Binding) → last_binding w mac L ≡ o → option_and_then (if_unended w (since w mac L)) o ≡ Some b → b.port ≢ FORWARDER_PORT
    by_last None is e = absurd (cc)
    by_last (Some x) is e = by_end x (list_any (ends w x) (since w mac L)) is e

drops_sided : (port : ℕ) (rows : List (Bool × SnoopRule)) (way : Way) → IsSided port way → IsSided port (drops rows way)
drops_sided port rows way h = go (first_row rows)
  where
    go : (o : Option SnoopRule) → IsSided port (elim o as (λ _. Way) [ Some r ↦ Dropped r | None ↦ way ])
    go (Some r) = tt
    go None = h

way_sided : (w : Forwarder) (L : History) (port : ℕ) (caught : Caught) → AreSided L → IsSided port (way_of w L port caught)
unfolding way_of
way_sided w L port caught sided = by_what (decoded caught)
  where
    up_there : (b : Bool) → (port == FORWARDER_PORT) ≡ b → (near far : Way) → IsSided port near → (port ≢ FORWARDER_PORT → IsSided port far) → IsSided port (cond b near far)
    up_there true is near far h g = h
    up_there false is near far h g = g (grind (arith, nat_tests))

    down : (dst : List ℕ) (o : Option ℕ) → home L dst ≡ o → IsSided port (down_to dst o)
    down dst None is = by_all (same_bytes dst ALL_ENODES)
      where
        by_all : (b : Bool) → IsSided port (cond b All (Dropped rule.NoHome))
        by_all true = tt
        by_all false = tt
    down dst (Some q) is = by_all (same_bytes dst ALL_ENODES)
      where
        by_all : (b : Bool) → IsSided port (cond b All (Down q))
        by_all true = tt
        by_all false = home_far L dst q is sided

    down_data : (dst : List ℕ) (d_id : ℕ) (o : Option Binding) → bound w L dst ≡ o → IsSided port (down_data_to d_id o)
    down_data dst d_id None is = tt
    down_data dst d_id (Some b) is = by_address (b.address == d_id)
      where
        by_address : (t : Bool) → IsSided port (cond t (Down b.port) (Dropped rule.Address))
        by_address true = bound_far w L dst b is sided
        by_address false = tt

    by_what : (what : What) → IsSided port (way_by w (home L) (bound w L) (has_moved w L port) port what)
    by_what (Bad cause) = tt
    by_what (Fcoe f (Err fault)) = tt
    by_what (Fcoe f (Ok x)) =
        up_there (port == FORWARDER_PORT) refl (drops (down_data_rows w f) (down_data_to x.frame.head.d_id (bound w L f.dst))) (drops (up_data_rows w port f x (bound w L f.src)) Up)
        (drops_sided port (down_data_rows w f) _ (down_data f.dst x.frame.head.d_id (bound w L f.dst) refl)) (λ far. drops_sided port (up_data_rows w port f x (bound w L f.src)) Up far)
    by_what (Fip f m) =
        up_there (port == FORWARDER_PORT) refl (drops (down_rows w f m) (down_to f.dst (home L f.dst))) (drops (up_rows w port f m (bound w L f.src) (has_moved w L port f.src)) Up)
        (drops_sided port (down_rows w f m) _ (down f.dst (home L f.dst) refl)) (λ far. drops_sided port (up_rows w port f m (bound w L f.src) (has_moved w L port f.src)) Up far)

-- what leads to the forwarder's port came on another
up_from : (port : ℕ) (way : Way) → IsSided port way → leads_to FORWARDER_PORT way ≡ true → port ≢ FORWARDER_PORT
up_from port Up sided e = sided
up_from port (Down q) sided e = absurd (sided (sym (eqb-true FORWARDER_PORT q e)))
up_from port All sided e = absurd (cc)
up_from port (Dropped why) sided e = absurd (cc)

-- ---- what is sent

-- the frames whose way leads to a port
abbrev pub copied : Forwarder → ℕ → History → List Arrival → List Arrival
copied w q L [] = []
copied w q L (a ∷ more) = cond (leads_to q (way_of w L a.port a.caught)) (a ∷ copied w q (handled w L a ∷ L) more) (copied w q (handled w L a ∷ L) more)

abbrev pub moment : Arrival → ℕ
moment a = a.moment

abbrev pub bytes : Arrival → List ℕ
bytes a = a.caught.bytes

records_are : (w : Forwarder) (q : ℕ) (L : History) (came : List Arrival) → records_to w q L came ≡ written_of moment bytes (copied w q L came)
records_are w q L [] = refl
records_are w q L (a ∷ more) = go (leads_to q (way_of w L a.port a.caught)) (records_are w q (handled w L a ∷ L) more)
  where
    rest : List Arrival
    rest = copied w q (handled w L a ∷ L) more

    go : (b : Bool) → records_to w q (handled w L a ∷ L) more ≡ written_of moment bytes (copied w q (handled w L a ∷ L) more) →
        cond b (record_bytes a.moment a.caught.bytes) [] ++ records_to w q (handled w L a ∷ L) more ≡ written_of moment bytes (cond b (a ∷ copied w q (handled w L a ∷ L) more) (copied w q (handled w L a ∷ L) more))
    go true e = ap (λ l. record_bytes a.moment a.caught.bytes ++ l) e
    go false e = e

pub capture_is : (w : Forwarder) (q : ℕ) (came : List Arrival) → capture w q came ≡ head_bytes ++ written_of moment bytes (copied w q [] came)
capture_is w q came = ap (λ l. head_bytes ++ l) (records_are w q [] came)

-- where a frame came of which a copy was sent
record IsCopied (w : Forwarder) (q : ℕ) (L : History) (came : List Arrival) (a : Arrival) : Type 0 where
  before : List Arrival
  later : List Arrival
  are : came ≡ before ++ a ∷ later
  leads : leads_to q (way_of w (history w L before) a.port a.caught) ≡ true
  sided : IsSided a.port (way_of w (history w L before) a.port a.caught)

copied_from : (w : Forwarder) (q : ℕ) (L : History) (came : List Arrival) (a : Arrival) → AreSided L → IsAmong a (copied w q L came) → IsCopied w q L came a
copied_from w q L [] a sided h = absurd h
copied_from w q L (x ∷ more) a sided h =
    let one : IsSided x.port (way_of w L x.port x.caught) = way_sided w L x.port x.caught sided in
    go one (leads_to q (way_of w L x.port x.caught)) refl h (copied_from w q (handled w L x ∷ L) more a (one, sided))
  where
    onward : IsCopied w q (handled w L x ∷ L) more a → IsCopied w q L (x ∷ more) a
    onward c = record { before = x ∷ c.before; later = c.later; are = ap (λ l. x ∷ l) c.are; leads = c.leads; sided = c.sided }

    go : IsSided x.port (way_of w L x.port x.caught) → (b : Bool) → leads_to q (way_of w L x.port x.caught) ≡ b → IsAmong a (cond b (x ∷ copied w q (handled w L x ∷ L) more) (copied w q (handled w L x ∷ L) more)) →
        (IsAmong a (copied w q (handled w L x ∷ L) more) → IsCopied w q (handled w L x ∷ L) more a) → IsCopied w q L (x ∷ more) a
    go one true is (inl same) rest = record {
      before = [];
      later = more;
      are = ap (λ y. y ∷ more) (sym same);
      leads = ap (λ (y : Arrival). leads_to q (way_of w L y.port y.caught)) same ∙ is;
      sided = subst (λ (y : Arrival). IsSided y.port (way_of w L y.port y.caught)) (sym same) one;
    }
    go one true is (inr there) rest = onward (rest there)
    go one false is there rest = onward (rest there)

pub passed_of : ENodesAreApart → (w : Forwarder) (q : ℕ) (came : List Arrival) (a : Arrival) → IsAmong a (copied w q [] came) → IsPassed w came q a
passed_of apart w q came a h =
    let c = copied_from w q [] came a tt h in
    record {
      before = c.before;
      later = c.later;
      are = c.are;
      leads = c.leads;
      from_enode = λ is. up_from a.port (way_of w (history w [] c.before) a.port a.caught) c.sided (ap (λ p. leads_to p (way_of w (history w [] c.before) a.port a.caught)) (sym is) ∙ c.leads);
      from_forwarder = λ far. elim (eqb_tells a.port FORWARDER_PORT) [
        | inl is ↦ is.1
        | inr not ↦ absurd (far (apart w (history w [] c.before) a.port a.caught q not.1 c.leads))
      ];
    }

pub passed_among : (w : Forwarder) (came : List Arrival) (q : ℕ) (a : Arrival) → IsPassed w came q a → IsAmong a came
passed_among w came q a p = subst (λ (l : List Arrival). IsAmong a l) (sym p.are) (among_back p.before (a ∷ p.later) a (inl refl))
