-- Which window comes next, and what is to come then.
use Rattle.std.proofs.Common.{◌≡◌, ℕ, zero, suc, ◌+◌, ◌-◌, ◌%◌, ◌^◌, ◌<◌, ◌≤◌, ◌⊎◌, inl, inr, min, Bool, true, false, cond, List, [], ◌∷◌, ◌++◌, length, length-append, slice_get, Option, Some, None, IfSome, option_map, refl, sym, ap, ◌∙◌, subst, arith}
use Rattle.std.specs.Prelude.{nat_lt, option_to_list, unwrap_or}
use Rattle.std.proofs.lemmas.Option.{slice_get_within, slice_get-map}
use Rattle.fab_base.specs.Seen.{Seen}
use Rattle.fab_config.specs.Settings.{Settings}
use Rattle.window_records.specs.Keeping.{IsFrom, AllAhead, StopsAhead}
use Rattle.fab_policy.specs.Legal.{window_start}
use Rattle.window_records.specs.Looks.{Spot, Look, looks, comes_before, with_look, in_order, first_window, is_too_late, stop_in, Stop, Span, stop_at, LateIsStop, MOST_SPAN}
use Rattle.pcap_file.specs.Reading.{Reading}
use Rattle.pcap_file.specs.declared.Budget.{Budget}
use Rattle.pcap_file.specs.declared.Record.{Record}
use Rattle.pcap_file.proofs.lemmas.Numbers.{le_or_lt}
use Rattle.window_records.specs.declared.shelf.Input.{Input}
use Rattle.window_records.specs.declared.shelf.Shelf.{Shelf}
use Rattle.pcap_file.specs.declared.fault.LimitKind.TheVariants as limit
use Rattle.pcap_file.specs.declared.fault.GatherFault.TheVariants as fault
use Rattle.window_records.specs.First.{IsNextWindow}
use Rattle.window_records.specs.Laws.{LooksAhead, NextIsAhead, NextIsFirst, LateEnds, NoneIsLeft, AllIn, ahead_of, WindowMoves}
use Rattle.window_records.specs.Port.{to_look, spot_of, ending}
use Rattle.window_records.specs.Ports.{At, AreReady, TookAll, walk_at, rests, joined, counts_of}
use Rattle.window_records.specs.Reads.{batches_of}
use Rattle.window_records.proofs.SlotLemmas.{item_at, push_last, push_before, push_stays, push_at}
use Rattle.window_records.proofs.OrderLemmas.{Later, later_looks, not_before, earlier_before}

-- ---- windows of the looks to come

ahead-append : (w : ℕ) (l m : List Look) → AllAhead w l → AllAhead w m → AllAhead w (l ++ m)
ahead-append w [] m h k = k
ahead-append w (x ∷ l) m h k = (h.0, ahead-append w l m h.1 k)

ahead_later : (port v n : ℕ) (l : List Look) → Later port v n l → AllAhead v l
ahead_later port v n [] h = tt
ahead_later port v n (x ∷ l) h = (h.1, ahead_later port v n l h.3)

ahead_rests : (c : Settings) (w p : ℕ) (d : Seen) (ins : List Input) (shelves : List Shelf) (left : Budget) → AreReady c w ins shelves left → AllAhead w (joined (rests c p d ins shelves))
ahead_rests c w p d [] shelves left h = tt
ahead_rests c w p d (i ∷ ins) [] left h = tt
ahead_rests c w p d (i ∷ ins) (s ∷ shelves) left h =
    let own = h 0 i s (record { input = refl; shelf = refl }) in
    ahead-append w (to_look c p d i.slot i.reader s.count s.next) (joined (rests c (p + 1) d ins shelves)) (ahead_later p w 0 _ (later_looks c p d i.slot i.reader s.count s.next w own.0.last own.1))
    (ahead_rests c w (p + 1) d ins shelves left (λ q j u at. h (suc q) j u (record { input = at.input; shelf = at.shelf })))

pub looks_ahead : StopsAhead → LooksAhead
looks_ahead ahead c first w d ins shelves left ready = ahead w first left.bytes left.frames (joined (rests c 1 d ins shelves)) (ahead_rests c w 1 d ins shelves left ready)

-- ---- the next window

-- a port whose record is of the next window, with its reader
record Leader (c : Settings) (w : ℕ) (ins : List Input) (shelves : List Shelf) : Type 0 where
  q : ℕ
  i : Input
  s : Shelf
  r : Record
  at : At q ins shelves i s
  is : s.next ≡ Some r
  window : window_start c r.moment ≡ w

leader : (c : Settings) (w : ℕ) (ins : List Input) (shelves : List Shelf) → length shelves ≡ length ins → IsNextWindow c shelves (Some w) → Leader c w ins shelves
leader c w ins shelves count next =
    let p = next.0 in
    let less = slice_get_within shelves p.0 p.1 p.3 in
    let own = item_at ins p.0 (omega arith) in
    record { q = p.0; i = own.0; s = p.1; r = p.2; at = record { input = own.1; shelf = p.3 }; is = p.4; window = p.5 }

pub next_is_ahead : NextIsAhead
next_is_ahead c v w ins shelves left count ready next =
    let l = leader c w ins shelves count next in
    let own = ready l.q l.i l.s l.at in
    let from : v ≤ window_start c l.r.moment = subst (λ o. IfSome o (λ x. v ≤ window_start c x.moment)) l.is own.1 in
    let early : l.r.moment < 2 ^ 43 = subst (λ o. IfSome o (λ x. x.moment < 2 ^ 43)) l.is own.0.early in
    let is = l.window in (
      omega arith,
      below_all c l.r.moment w is early,
      λ q i s at. ((ready q i s at).0, next.1 q s at.shelf),
    )
  where
    below_all : (c : Settings) (m w : ℕ) → window_start c m ≡ w → m < 2 ^ 43 → w < 2 ^ 43
    below_all c m w e lt = omega arith

-- ---- finding it

module _ (c : Settings) (l : List Shelf) (s : Shelf) where
  -- what holds of each shelf and of one more
  each : (P : Shelf → Type 0) → ((q : ℕ) (u : Shelf) → slice_get l q ≡ Some u → P u) → P s → (q : ℕ) (u : Shelf) → slice_get (l ++ s ∷ []) q ≡ Some u → P u
  each P h own q u at = elim (le_or_lt (length l) q) [
    | inl le ↦
        let less = slice_get_within (l ++ s ∷ []) q u at in
        let many = length-append l (s ∷ []) in
        let same : length l ≡ q = omega arith in
        let is_u = push_last l (length l) s u refl (ap (slice_get (l ++ s ∷ [])) same ∙ at) in
        subst P (sym is_u) own
    | inr lt ↦ h q u (push_before l q s u lt at)
  ]

  -- a shelf behind which nothing was found
  pub next_still : (o : Option ℕ) → s.next ≡ None → IsNextWindow c l o → IsNextWindow c (l ++ s ∷ []) o
  next_still None none h = each (λ u. u.next ≡ None) h none
  next_still (Some w) none h = (
    (h.0.0, h.0.1, h.0.2, push_stays l h.0.0 s h.0.1 h.0.3, h.0.4, h.0.5),
    each (λ u. IfSome u.next (λ r. w ≤ window_start c r.moment)) h.1 (subst (λ o. IfSome o (λ r. w ≤ window_start c r.moment)) (sym none) tt),
  )

  module _ (r : Record) (is : s.next ≡ Some r) (v : ℕ) (window : v ≡ window_start c r.moment) where
    own_from : (w : ℕ) → w ≤ v → IfSome s.next (λ x. w ≤ window_start c x.moment)
    own_from w le = subst (λ o. IfSome o (λ x. w ≤ window_start c x.moment)) (sym is) (let e = window in omega arith)

    -- one with an earlier record, or a later one
    pub next_lesser : (o : Option ℕ) (w : ℕ) → w ≡ min (unwrap_or o v) v → IsNextWindow c l o → IsNextWindow c (l ++ s ∷ []) (Some w)
    next_lesser None w e h =
        let same : v ≡ w = omega arith in (
          (length l, s, r, push_at l s, is, sym window ∙ same),
          each (λ u. IfSome u.next (λ x. w ≤ window_start c x.moment)) (λ q u at. subst (λ o. IfSome o (λ x. w ≤ window_start c x.moment)) (sym (h q u at)) tt) (own_from w (omega arith)),
        )
    next_lesser (Some u) w e h = elim (le_or_lt u v) [
      | inl le ↦
          let same : u ≡ w = omega arith in (
            (h.0.0, h.0.1, h.0.2, push_stays l h.0.0 s h.0.1 h.0.3, h.0.4, h.0.5 ∙ same),
            each (λ z. IfSome z.next (λ x. w ≤ window_start c x.moment)) (λ q z at. later u w (omega arith) z.next (h.1 q z at)) (own_from w (omega arith)),
          )
      | inr lt ↦
          let same : v ≡ w = omega arith in (
            (length l, s, r, push_at l s, is, sym window ∙ same),
            each (λ z. IfSome z.next (λ x. w ≤ window_start c x.moment)) (λ q z at. later u w (omega arith) z.next (h.1 q z at)) (own_from w (omega arith)),
          )
    ]
      where
        later : (u w : ℕ) → w ≤ u → (o : Option Record) → IfSome o (λ x. u ≤ window_start c x.moment) → IfSome o (λ x. w ≤ window_start c x.moment)
        later u w le None k = tt
        later u w le (Some x) k = omega arith

-- the lesser of two windows is one of them
pub start_lesser : (p : ℕ) (o : Option ℕ) (v w : ℕ) → w ≡ min (unwrap_or o v) v → IfSome o (λ u. u % p ≡ 0) → v % p ≡ 0 → w % p ≡ 0
start_lesser p None v w e h k = let same : v ≡ w = omega arith in subst (λ (n : ℕ). n % p ≡ 0) same k
start_lesser p (Some u) v w e h k = elim (le_or_lt u v) [
  | inl le ↦ let same : u ≡ w = omega arith in subst (λ (n : ℕ). n % p ≡ 0) same h
  | inr lt ↦ let same : v ≡ w = omega arith in subst (λ (n : ℕ). n % p ≡ 0) same k
]

-- ---- the first look

-- looks that begin in a window, or in it or later
abbrev StartsAt : ℕ → List Look → Type 0
StartsAt w [] = ⊥
StartsAt w (x ∷ l) = x.window ≡ Some w

abbrev StartsFrom : ℕ → List Look → Type 0
StartsFrom w [] = Unit {0}
StartsFrom w (x ∷ l) = IsFrom w x.window

-- looks of which one is in a window
abbrev HasAt : ℕ → List Look → Type 0
HasAt w [] = ⊥
HasAt w (x ∷ l) = (x.window ≡ Some w) ⊎ HasAt w l

abbrev put : Bool → Look → Look → List Look → List Look
put first x y l = cond first (x ∷ y ∷ l) (y ∷ with_look x l)

from_put : (w : ℕ) (x : Look) (l : List Look) → IsFrom w x.window → StartsFrom w l → StartsFrom w (with_look x l)
from_put w x [] h k = h
from_put w x (y ∷ l) h k = by_test (comes_before x y)
  where
    by_test : (b : Bool) → StartsFrom w (put b x y l)
    by_test true = h
    by_test false = k

from_order : (w : ℕ) (l : List Look) → AllAhead w l → StartsFrom w (in_order l)
from_order w [] h = tt
from_order w (x ∷ l) h = from_put w x (in_order l) h.0 (from_order w l h.1)

-- one in the window goes to the front, or behind another in it
own_put : (w : ℕ) (x : Look) (l : List Look) → x.window ≡ Some w → StartsFrom w l → StartsAt w (with_look x l)
own_put w x [] e k = e
own_put w x (y ∷ l) e k = by_test (comes_before x y) refl y.window refl k
  where
    by_test : (b : Bool) → comes_before x y ≡ b → (o : Option ℕ) → y.window ≡ o → IsFrom w o → StartsAt w (put b x y l)
    by_test true f o g from = e
    by_test false f None g from = absurd from
    by_test false f (Some v) g from = elim (le_or_lt v w) [
      | inl le ↦ let same : v ≡ w = omega arith in g ∙ ap Some same
      | inr lt ↦ let yes = earlier_before x y w v e g lt in absurd (cc)
    ]

-- and others stay behind such
other_put : (w : ℕ) (x : Look) (l : List Look) → IsFrom w x.window → StartsAt w l → StartsAt w (with_look x l)
other_put w x [] h k = absurd k
other_put w x (y ∷ l) h k = by_test (comes_before x y) refl x.window refl h
  where
    by_test : (b : Bool) → comes_before x y ≡ b → (o : Option ℕ) → x.window ≡ o → IsFrom w o → StartsAt w (put b x y l)
    by_test false f o g from = k
    by_test true f None g from = absurd from
    by_test true f (Some v) g from = elim (le_or_lt v w) [
      | inl le ↦ let same : v ≡ w = omega arith in g ∙ ap Some same
      | inr lt ↦ let no = not_before x y v w g k lt in absurd (cc)
    ]

starts_order : (w : ℕ) (l : List Look) → AllAhead w l → HasAt w l → StartsAt w (in_order l)
starts_order w [] h k = k
starts_order w (x ∷ l) h (inl e) = own_put w x (in_order l) e (from_order w l h.1)
starts_order w (x ∷ l) h (inr more) = other_put w x (in_order l) h.0 (starts_order w l h.1 more)

has-before : (w : ℕ) (l m : List Look) → HasAt w l → HasAt w (l ++ m)
has-before w [] m h = absurd h
has-before w (x ∷ l) m (inl e) = inl e
has-before w (x ∷ l) m (inr h) = inr (has-before w l m h)

has-behind : (w : ℕ) (l m : List Look) → HasAt w m → HasAt w (l ++ m)
has-behind w [] m h = h
has-behind w (x ∷ l) m h = inr (has-behind w l m h)

has_looks : (c : Settings) (port w : ℕ) (s : Spot) → s.window ≡ Some w → HasAt w (looks c port s)
unfolding looks
has_looks c port w s e = inl e

has_own : (c : Settings) (port w : ℕ) (d : Seen) (slot : ℕ) (r : Reading) (count : ℕ) (next : Option Record) (x : Record) → next ≡ Some x → window_start c x.moment ≡ w → HasAt w (to_look c port d slot r count next)
has_own c port w d slot r count None x e is = absurd (cc)
has_own c port w d slot r count (Some y) x e is =
    let same : y ≡ x = cc in
    has_looks c port w (spot_of d slot r count (Some (window_start c y.moment))) (ap (λ (z : Record). Some (window_start c z.moment)) same ∙ ap Some is)

has_rests : (c : Settings) (w p : ℕ) (d : Seen) (ins : List Input) (shelves : List Shelf) (q : ℕ) (i : Input) (s : Shelf) (x : Record) → At q ins shelves i s → s.next ≡ Some x → window_start c x.moment ≡ w → HasAt w (joined (rests c p d ins shelves))
has_rests c w p d [] shelves q i s x at e is = let a = at.input in absurd (cc)
has_rests c w p d (j ∷ ins) [] q i s x at e is = let a = at.shelf in absurd (cc)
has_rests c w p d (j ∷ ins) (u ∷ shelves) zero i s x at e is =
    let a = at.shelf in
    let same : u ≡ s = cc in
    has-before w (to_look c p d j.slot j.reader u.count u.next) (joined (rests c (p + 1) d ins shelves)) (has_own c p w d j.slot j.reader u.count u.next x (ap (λ (y : Shelf). y.next) same ∙ e) is)
has_rests c w p d (j ∷ ins) (u ∷ shelves) (suc q) i s x at e is =
    has-behind w (to_look c p d j.slot j.reader u.count u.next) (joined (rests c (p + 1) d ins shelves)) (has_rests c w (p + 1) d ins shelves q i s x (record { input = at.input; shelf = at.shelf }) e is)

-- the looks to come begin in the next window
starts : (c : Settings) (v w : ℕ) (d : Seen) (ins : List Input) (shelves : List Shelf) (left : Budget) → length shelves ≡ length ins → AreReady c v ins shelves left → IsNextWindow c shelves (Some w) → StartsAt w (in_order (joined (rests c 1 d ins shelves)))
starts c v w d ins shelves left count ready next =
    let l = leader c w ins shelves count next in
    starts_order w (joined (rests c 1 d ins shelves)) (ahead_rests c w 1 d ins shelves left (next_is_ahead c v w ins shelves left count ready next).2)
    (has_rests c w 1 d ins shelves l.q l.i l.s l.r l.at l.is l.window)

first_of : (w : ℕ) (l : List Look) → StartsAt w l → first_window l ≡ w
first_of w [] h = absurd h
first_of w (x ∷ l) h = ap (λ (o : Option ℕ). elim o as (λ _. ℕ) [ Some v ↦ v | None ↦ first_window l ]) h

pub next_is_first : NextIsFirst
next_is_first c v w d ins shelves left count ready next = first_of w (in_order (joined (rests c 1 d ins shelves))) (starts c v w d ins shelves left count ready next)

late_at : LateIsStop → (first bytes frames w : ℕ) (l : List Look) → StartsAt w l → nat_lt MOST_SPAN (w - first) ≡ true →
    (s : Stop) × (stop_in first bytes frames l ≡ Some s) × (ending s ≡ fault.Limit limit.Span) × (s.window ≡ Some w)
late_at law first bytes frames w [] h late = absurd h
late_at law first bytes frames w (x ∷ l) h late = (stop_at Span x, law first bytes frames x l (ap (is_too_late first) h ∙ late), refl, h)

pub late_ends : LateIsStop → LateEnds
late_ends law c first v w d ins shelves left count ready next late = late_at law first left.bytes left.frames w (in_order (joined (rests c 1 d ins shelves))) (starts c v w d ins shelves left count ready next) late

-- ---- no window

no_looks : (c : Settings) (port : ℕ) (d : Seen) (slot : ℕ) (r : Reading) (count : ℕ) (next : Option Record) → next ≡ None → to_look c port d slot r count next ≡ []
no_looks c port d slot r count None e = refl
no_looks c port d slot r count (Some x) e = absurd (cc)

pub none_rests : (c : Settings) (p : ℕ) (d : Seen) (ins : List Input) (shelves : List Shelf) → IsNextWindow c shelves None → joined (rests c p d ins shelves) ≡ []
none_rests c p d [] shelves none = refl
none_rests c p d (i ∷ ins) [] none = refl
none_rests c p d (i ∷ ins) (s ∷ shelves) none =
    ap (λ l. l ++ joined (rests c (p + 1) d ins shelves)) (no_looks c p d i.slot i.reader s.count s.next (none 0 s refl)) ∙ none_rests c (p + 1) d ins shelves (λ q u at. none (suc q) u at)

pub none_is_left : NoneIsLeft
none_is_left c first d ins shelves left none = ap (λ l. stop_in first left.bytes left.frames (in_order l)) (none_rests c 1 d ins shelves none)

-- ---- a window that was taken

all_in : (c : Settings) (w : ℕ) (a b : Seen) (ins ins' : List Input) (shelves shelves' : List Shelf) (had left : Budget) → length shelves ≡ length ins → length ins' ≡ length ins → length shelves' ≡ length shelves → TookAll c w (walk_at a ins shelves had) (walk_at b ins' shelves' left) → AllIn c w (batches_of shelves')
all_in c w a b ins ins' shelves [] had left e f g took = tt
all_in c w a b [] ins' [] (s' ∷ shelves') had left e f g took = absurd (omega arith)
all_in c w a b (i ∷ ins) ins' [] (s' ∷ shelves') had left e f g took = absurd (omega arith)
all_in c w a b [] ins' (s ∷ shelves) (s' ∷ shelves') had left e f g took = absurd (omega arith)
all_in c w a b (i ∷ ins) [] (s ∷ shelves) (s' ∷ shelves') had left e f g took = absurd (omega arith)
all_in c w a b (i ∷ ins) (i' ∷ ins') (s ∷ shelves) (s' ∷ shelves') had left e f g took = (
  (took 0 i i' s s' (record { input = refl; shelf = refl }) (record { input = refl; shelf = refl })).in_window,
  all_in c w a b ins ins' shelves shelves' had left (omega arith) (omega arith) (omega arith) (λ q j j' u u' at at'. took (suc q) j j' u u' (record { input = at.input; shelf = at.shelf }) (record { input = at'.input; shelf = at'.shelf })),
)

-- how many records are on the shelves
abbrev batched : List Shelf → ℕ
batched [] = 0
batched (s ∷ shelves) = length s.batch.items + batched shelves

-- each record that was looked at, or given, is on a shelf or looked at
moved : (c : Settings) (w : ℕ) (a b : Seen) (ins ins' : List Input) (shelves shelves' : List Shelf) (had left : Budget) → length shelves ≡ length ins → length ins' ≡ length ins → length shelves' ≡ length shelves → TookAll c w (walk_at a ins shelves had) (walk_at b ins' shelves' left) →
    counts_of shelves' + ahead_of shelves ≡ counts_of shelves + (batched shelves' + ahead_of shelves')
moved c w a b ins ins' [] [] had left e f g took = refl
moved c w a b ins ins' [] (s' ∷ shelves') had left e f g took = absurd (omega arith)
moved c w a b ins ins' (s ∷ shelves) [] had left e f g took = absurd (omega arith)
moved c w a b [] ins' (s ∷ shelves) (s' ∷ shelves') had left e f g took = absurd (omega arith)
moved c w a b (i ∷ ins) [] (s ∷ shelves) (s' ∷ shelves') had left e f g took = absurd (omega arith)
moved c w a b (i ∷ ins) (i' ∷ ins') (s ∷ shelves) (s' ∷ shelves') had left e f g took =
    let own = took 0 i i' s s' (record { input = refl; shelf = refl }) (record { input = refl; shelf = refl }) in
    let more = moved c w a b ins ins' shelves shelves' had left (omega arith) (omega arith) (omega arith) (λ q j j' u u' at at'. took (suc q) j j' u u' (record { input = at.input; shelf = at.shelf }) (record { input = at'.input; shelf = at'.shelf })) in
    let order = sym (length-append (option_to_list s.next) own.given) ∙ ap length own.order ∙ length-append s'.batch.items (option_to_list s'.next) in
    let count = own.count in
    omega arith

-- a port whose record is of the window puts it on the shelf
first_moves : (c : Settings) (w : ℕ) (next next' : Option Record) (given : List Record) (batch : List Record) (r : Record) → next ≡ Some r → window_start c r.moment ≡ w → option_to_list next ++ given ≡ batch ++ option_to_list next' → IfSome next' (λ x. w + 1 ≤ window_start c x.moment) → (x : Record) × (more : List Record) × (batch ≡ x ∷ more)
first_moves c w None next' given batch r e is order beyond = absurd (cc)
first_moves c w (Some y) next' given (x ∷ more) r e is order beyond = (x, more, refl)
first_moves c w (Some y) None given [] r e is order beyond = absurd (cc)
first_moves c w (Some y) (Some z) given [] r e is order beyond =
    let same : z ≡ r = cc in
    let late = subst (λ (v : Record). w + 1 ≤ window_start c v.moment) same beyond in
    absurd (omega arith)

batch_at : (shelves : List Shelf) (q : ℕ) (s : Shelf) → slice_get shelves q ≡ Some s → slice_get (batches_of shelves) q ≡ Some s.batch.items
batch_at shelves q s at = slice_get-map (λ (x : Shelf). x.batch.items) shelves q ∙ ap (option_map (λ (x : Shelf). x.batch.items)) at

batched_some : (shelves : List Shelf) (q : ℕ) (r : Record) (more : List Record) → slice_get (batches_of shelves) q ≡ Some (r ∷ more) → 1 ≤ batched shelves
batched_some [] q r more at = absurd (cc)
batched_some (x ∷ shelves) zero r more at = let same : x.batch.items ≡ r ∷ more = cc in let e = ap length same in omega arith
batched_some (x ∷ shelves) (suc q) r more at = let e = batched_some shelves q r more at in omega arith

pub window_moves : WindowMoves
window_moves c w old new e f g next took ready spent =
    let l = leader c w old.ins old.shelves e next in
    let less = slice_get_within old.ins l.q l.i l.at.input in
    let j = item_at new.ins l.q (omega arith) in
    let u = item_at new.shelves l.q (let k = slice_get_within old.shelves l.q l.s l.at.shelf in omega arith) in
    let now : At l.q new.ins new.shelves j.0 u.0 = record { input = j.1; shelf = u.1 } in
    let own = took l.q l.i j.0 l.s u.0 l.at now in
    let x = first_moves c w l.s.next u.0.next own.given u.0.batch.items l.r l.is l.window own.order (ready l.q j.0 u.0 now).1 in
    let at = batch_at new.shelves l.q u.0 u.1 ∙ ap Some x.2 in
    record {
      batches = all_in c w old.seen new.seen old.ins new.ins old.shelves new.shelves old.left new.left e f g took;
      some = (l.q, x.0, x.1, at);
      fewer =
          let all = moved c w old.seen new.seen old.ins new.ins old.shelves new.shelves old.left new.left e f g took in
          let some = batched_some new.shelves l.q x.0 x.1 at in
          let frames = spent.frames in
          omega arith;
    }
