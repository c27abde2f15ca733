-- The records of a window, taken of one port after another.
use Rattle.std.proofs.Common.{◌≡◌, ◌≢◌, ℕ, zero, suc, ◌+◌, ◌-◌, ◌<◌, ◌≤◌, inl, inr, true, false, List, [], ◌∷◌, ◌++◌, length, slice_get, set, get_or, Option, Some, None, IfSome, Ok, Err, IsTrue, refl, sym, ap, ◌∙◌, subst, arith, append_assoc}
use Rattle.std.specs.Prelude.{nat_lt, Result, IsErrOf}
use Rattle.std.proofs.lemmas.List.{length-set}
use Rattle.std.proofs.lemmas.Option.{slice_get_within, slice_get-get_or}
use Rattle.fab_base.specs.Ending.{Said, Uses}
use Rattle.fab_base.specs.Seen.{Seen, Nothing}
use Rattle.fab_base.proofs.EndingLemmas.{uses_none}
use Rattle.fab_config.specs.Settings.{Settings}
use Rattle.fab_policy.specs.Legal.{window_start}
use Rattle.window_records.specs.Looks.{Look, looks, in_order, stop_in, MOST_SPAN}
use Rattle.pcap_file.specs.Reading.{Reading, to_come}
use Rattle.pcap_file.specs.Records.{Chain}
use Rattle.pcap_file.specs.declared.Budget.{Budget}
use Rattle.pcap_file.specs.declared.Record.{Record}
use Rattle.pcap_file.proofs.lemmas.Numbers.{le_or_lt}
use Rattle.window_records.specs.declared.shelf.Input.{Input}
use Rattle.window_records.specs.declared.shelf.Shelf.{Shelf}
use Rattle.pcap_file.specs.declared.fault.GatherFault.{GatherFault}
use Rattle.pcap_file.specs.declared.fault.GatherFault.TheVariants as fault
use Rattle.pcap_file.specs.declared.fault.LimitKind.TheVariants as limit
use Rattle.window_records.specs.Gather.{TakesAll}
use Rattle.window_records.specs.Port.{IsReady, Spends, AreOf, Taking, TakesWindow, PortStand, stand_at, port_walk_at, LeavesPort, to_look}
use Rattle.fab_base.specs.Slots.{NameIn}
use Rattle.window_records.specs.Ports.{AreInputs, AreReady, At, Walk, walk_at, Took, slots_of, rests, joined, stop_after, counts_of}
use Rattle.window_records.proofs.ReadLemmas.{nothing_behind}
use Rattle.window_records.proofs.OrderLemmas.{TakesAt, taken_at, Sorted, AllNotBefore, Leads, EachBefore, each-append, each-nil, leads_more, sorted_leads, sorted_looks, later_looks, later_not_before, made_before}
use Rattle.window_records.proofs.LeavesLemmas.{took_leaves, waits_leaves, leaves_from}
use Rattle.window_records.proofs.PortLemmas.{are_of-push}
use Rattle.window_records.proofs.SlotLemmas.{some_is, get_set_same, get_set_other, slots_set, same_length, open_now, uses_on, others_left}
use Rattle.window_records.proofs.WindowLemmas.{window_start-mono}

-- ---- what stands before a port

-- a port whose turn was, and one whose turn comes
pub record Done (c : Settings) (w : ℕ) (old new : PortStand) (left : Budget) : Type 0 where
  pub took : Took c w old new
  pub ready : IsReady new.input.reader new.shelf.next new.shelf.count left
  pub beyond : IfSome new.shelf.next (λ x. w + 1 ≤ window_start c x.moment)

pub record Waits (c : Settings) (w : ℕ) (old new : PortStand) (left : Budget) : Type 0 where
  pub input : new.input ≡ old.input
  pub shelf : new.shelf ≡ old.shelf
  pub rest : new.seen.left old.input.slot ≡ old.seen.left old.input.slot
  pub ready : IsReady old.input.reader old.shelf.next old.shelf.count left
  pub from : IfSome old.shelf.next (λ x. w ≤ window_start c x.moment)

pub record Round (c : Settings) (w k : ℕ) (old new : Walk) : Type 0 where
  pub uses : Uses (NameIn old.seen (slots_of old.ins)) Nothing Said old.seen new.seen
  pub slots : slots_of new.ins ≡ slots_of old.ins
  pub count : length new.shelves ≡ length old.shelves
  pub done : (q : ℕ) (i i' : Input) (s s' : Shelf) → q < k → At q old.ins old.shelves i s → At q new.ins new.shelves i' s' → Done c w (stand_at old.seen i s) (stand_at new.seen i' s') new.left
  pub waits : (q : ℕ) (i i' : Input) (s s' : Shelf) → k ≤ q → At q old.ins old.shelves i s → At q new.ins new.shelves i' s' → Waits c w (stand_at old.seen i s) (stand_at new.seen i' s') new.left
  pub spent : Spends old.left new.left (counts_of old.shelves) (counts_of new.shelves)
  pub bytes : new.left.bytes ≤ old.left.bytes
  pub frames : new.left.frames ≤ old.left.frames
  pub looks : IsTrue old.seen.told → (first : ℕ) → nat_lt MOST_SPAN (w - first) ≡ false → stop_after c first old ≡ stop_after c first new

-- ---- counts

-- the sum of counts where one changes
counts_set : (shelves : List Shelf) (k : ℕ) (s s' : Shelf) → slice_get shelves k ≡ Some s → counts_of (set shelves k s') + s.count ≡ counts_of shelves + s'.count
counts_set [] k s s' at = absurd (cc)
counts_set (x ∷ shelves) zero s s' at = let same : x ≡ s = cc in let e = ap (λ (y : Shelf). y.count) same in omega arith
counts_set (x ∷ shelves) (suc k) s s' at = let e = counts_set shelves k s s' at in omega arith

-- ---- the looks of all ports, of which one took some

abbrev look_of : Settings → ℕ → Seen → Input → Shelf → List Look
look_of c n d i s = to_look c n d i.slot i.reader s.count s.next

pub same_looks : (c : Settings) (n : ℕ) (b d : Seen) (i : Input) (next : Option Record) (count : ℕ) → d.left i.slot ≡ b.left i.slot → to_look c n b i.slot i.reader count next ≡ to_look c n d i.slot i.reader count next
same_looks c n b d i None count e = refl
same_looks c n b d i (Some x) count e =
    ap (λ (l : List ℕ). looks c n (record { head = i.reader.head; index = count; at = i.reader.at; window = Some (window_start c x.moment); greatest = i.reader.greatest; bytes = i.reader.held ++ l })) (sym e)

same_rests : (c : Settings) (p : ℕ) (b d : Seen) (ins : List Input) (shelves : List Shelf) → ((q : ℕ) (i : Input) (s : Shelf) → At q ins shelves i s → d.left i.slot ≡ b.left i.slot) → rests c p b ins shelves ≡ rests c p d ins shelves
same_rests c p b d [] shelves h = refl
same_rests c p b d (i ∷ ins) [] h = refl
same_rests c p b d (i ∷ ins) (s ∷ shelves) h =
    ap (λ l. l ∷ rests c (p + 1) b ins shelves) (same_looks c p b d i s.next s.count (h 0 i s (record { input = refl; shelf = refl })))
    ∙ ap (λ ls. look_of c p d i s ∷ ls) (same_rests c (p + 1) b d ins shelves (λ q j t at. h (suc q) j t (record { input = at.input; shelf = at.shelf })))

each_rests : (c : Settings) (p : ℕ) (d : Seen) (made : List Look) (ins : List Input) (shelves : List Shelf) → ((q n : ℕ) (i : Input) (s : Shelf) → n ≡ p + q → At q ins shelves i s → EachBefore made (look_of c n d i s)) → EachBefore made (joined (rests c p d ins shelves))
each_rests c p d made [] shelves h = each-nil made
each_rests c p d made (i ∷ ins) [] h = each-nil made
each_rests c p d made (i ∷ ins) (s ∷ shelves) h =
    each-append made (look_of c p d i s) (joined (rests c (p + 1) d ins shelves)) (h 0 p i s (omega arith) (record { input = refl; shelf = refl }))
    (each_rests c (p + 1) d made ins shelves (λ q n j t e at. h (suc q) n j t (omega arith) (record { input = at.input; shelf = at.shelf })))

-- A row of ports as they stand: the store, the number of the first of them, their captures and their shelves.
pub record Row : Type 0 where
  pub seen : Seen
  pub number : ℕ
  pub ins : List Input
  pub shelves : List Shelf

abbrev pub row_at : Seen → ℕ → List Input → List Shelf → Row
row_at seen number ins shelves = record { seen = seen; number = number; ins = ins; shelves = shelves }

-- one port's looks are some that were made, and others; all looks of ports before it come later, and those of ports behind it too
pub record OneTakes (c : Settings) (k : ℕ) (row : Row) (d : Seen) (made behind_ : List Look) : Type 0 where
  pub own : (n : ℕ) (i : Input) (s : Shelf) → n ≡ row.number + k → At k row.ins row.shelves i s → look_of c n row.seen i s ≡ made ++ behind_
  pub leads : Leads made behind_
  pub same : (q : ℕ) (i : Input) (s : Shelf) → q ≢ k → At q row.ins row.shelves i s → d.left i.slot ≡ row.seen.left i.slot
  pub before : (q n : ℕ) (i : Input) (s : Shelf) → n ≡ row.number + q → q < k → At q row.ins row.shelves i s → AllNotBefore (look_of c n d i s) made
  pub behind : (q n : ℕ) (i : Input) (s : Shelf) → n ≡ row.number + q → k < q → At q row.ins row.shelves i s → EachBefore made (look_of c n d i s)

pub takes_at : (c : Settings) (k p : ℕ) (b d : Seen) (made behind_ : List Look) (ins : List Input) (shelves : List Shelf) → k < length ins → length shelves ≡ length ins → OneTakes c k (row_at b p ins shelves) d made behind_ →
    TakesAt k made (rests c p b ins shelves) (set (rests c p d ins shelves) k behind_)
takes_at c k p b d made behind_ [] shelves lt count t = absurd (omega arith)
takes_at c k p b d made behind_ (i ∷ ins) [] lt count t = absurd (omega arith)
takes_at c zero p b d made behind_ (i ∷ ins) (s ∷ shelves) lt count t = (
  t.own p i s (omega arith) (record { input = refl; shelf = refl }),
  same_rests c (p + 1) b d ins shelves (λ q j u at. t.same (suc q) j u (λ e. omega arith) (record { input = at.input; shelf = at.shelf })),
  leads_more made behind_ (joined (rests c (p + 1) d ins shelves)) t.leads
      (each_rests c (p + 1) d made ins shelves (λ q n j u e at. t.behind (suc q) n j u (omega arith) (omega arith) (record { input = at.input; shelf = at.shelf }))),
)
takes_at c (suc k) p b d made behind_ (i ∷ ins) (s ∷ shelves) lt count t = (
  same_looks c p b d i s.next s.count (t.same 0 i s (λ e. omega arith) (record { input = refl; shelf = refl })),
  t.before 0 p i s (omega arith) (omega arith) (record { input = refl; shelf = refl }),
  takes_at c k (p + 1) b d made behind_ ins shelves (omega arith) (omega arith) (record {
    own = λ n j u e at. t.own n j u (omega arith) (record { input = at.input; shelf = at.shelf });
    leads = t.leads;
    same = λ q j u ne at. t.same (suc q) j u (λ e. ne (omega arith)) (record { input = at.input; shelf = at.shelf });
    before = λ q n j u e less at. t.before (suc q) n j u (omega arith) (omega arith) (record { input = at.input; shelf = at.shelf });
    behind = λ q n j u e more at. t.behind (suc q) n j u (omega arith) (omega arith) (record { input = at.input; shelf = at.shelf });
  }),
)

rests_set : (c : Settings) (k p : ℕ) (d : Seen) (ins : List Input) (shelves : List Shelf) (i : Input) (s : Shelf) (l : List Look) → k < length ins → length shelves ≡ length ins → ((n : ℕ) → n ≡ p + k → look_of c n d i s ≡ l) →
    set (rests c p d ins shelves) k l ≡ rests c p d (set ins k i) (set shelves k s)
rests_set c k p d [] shelves i s l lt count e = absurd (omega arith)
rests_set c k p d (x ∷ ins) [] i s l lt count e = absurd (omega arith)
rests_set c zero p d (x ∷ ins) (y ∷ shelves) i s l lt count e = ap (λ m. m ∷ rests c (p + 1) d ins shelves) (sym (e p (omega arith)))
rests_set c (suc k) p d (x ∷ ins) (y ∷ shelves) i s l lt count e = ap (λ ls. look_of c p d x y ∷ ls) (rests_set c k (p + 1) d ins shelves i s l (omega arith) (omega arith) (λ n f. e n (omega arith)))

-- ---- one port's turn

pub smaller : (r : Reading) (next : Option Record) (count : ℕ) (mid left : Budget) → left.frames ≤ mid.frames → IsReady r next count mid → IsReady r next count left
smaller r next count mid left frames h = record { fresh = h.fresh; last = h.last; early = h.early; few = let f = h.few in omega arith }

-- the window of the record behind those of a window is a later one
beyond_is : (c : Settings) (w g g' : ℕ) (next next' : Option Record) → IfSome next (λ x. g ≡ x.moment) → IfSome next (λ x. w ≤ window_start c x.moment) → IfSome next' (λ x. g' ≡ x.moment) → IfSome next' (λ x. window_start c x.moment ≢ w) → g ≤ g' → (next ≡ None → next' ≡ None) → IfSome next' (λ x. w + 1 ≤ window_start c x.moment)
beyond_is c w g g' next None last from last' other le still = tt
beyond_is c w g g' None (Some y) last from last' other le still = let e = still refl in absurd (cc)
beyond_is c w g g' (Some x) (Some y) last from last' other le still =
    let up = window_start-mono c x.moment y.moment (omega arith) in
    elim (le_or_lt (window_start c y.moment) w) [ inl small ↦ absurd (other (omega arith)) | inr large ↦ omega arith ]

-- A port's turn: the ports before it had theirs, and these are it and its shelf.
pub record Turn (c : Settings) (w k : ℕ) (old new : Walk) (i : Input) (s : Shelf) : Type 0 where
  pub are : AreInputs old.seen (slots_of old.ins)
  pub count : length old.shelves ≡ length old.ins
  pub lt : k < length old.ins
  pub round : Round c w k old new
  pub at : At k new.ins new.shelves i s

pub turn_of : {c : Settings} {w k : ℕ} {a b : Seen} {ins ins' : List Input} {shelves shelves' : List Shelf} {had mid : Budget} → AreInputs a (slots_of ins) → length ins ≡ length shelves → k < length ins → Round c w k (walk_at a ins shelves had) (walk_at b ins' shelves' mid) → (i : Input) (s : Shelf) →
    Turn c w k (walk_at a ins shelves had) (walk_at b ins' shelves' mid) (get_or ins' k i) (get_or shelves' k s)
turn_of {c} {w} {k} {a} {b} {ins} {ins'} {shelves} {shelves'} {had} {mid} are count lt round i s =
    let long = same_length ins ins' round.slots in
    let wide = round.count in
    record { are = are; count = sym count; lt = lt; round = round; at = record { input = slice_get-get_or ins' k i (omega arith); shelf = slice_get-get_or shelves' k s (omega arith) } }

module _ {c : Settings} {w k : ℕ} {a b : Seen} {ins ins' : List Input} {shelves shelves' : List Shelf} {had mid : Budget} {i1 : Input} {s1 : Shelf} (turn : Turn c w k (walk_at a ins shelves had) (walk_at b ins' shelves' mid) i1 s1) where
  told_b : IsTrue a.told → IsTrue b.told
  told_b told = subst IsTrue (sym turn.round.uses.touches.told) told

  long : length ins' ≡ length ins
  long = same_length ins ins' turn.round.slots

  wide : length shelves' ≡ length ins'
  wide = turn.round.count ∙ turn.count ∙ sym long

  here : k < length ins'
  here = let lt = turn.lt in let l = long in omega arith

  there : k < length shelves'
  there = let lt = here in let l = wide in omega arith

  -- each current port has its first state
  first_at : (q : ℕ) (i' : Input) (s' : Shelf) → At q ins' shelves' i' s' → At q ins shelves (get_or ins q i') (get_or shelves q s')
  first_at q i' s' at =
      let less = slice_get_within ins' q i' at.input in
      let l = long in
      record { input = slice_get-get_or ins q i' (omega arith); shelf = slice_get-get_or shelves q s' (omega arith) }

  pub turn_open : IsTrue (b.input i1.slot)
  turn_open = open_now a b ins ins' turn.are turn.round.uses turn.round.slots k i1 turn.at.input

  abbrev i : Input
  i = get_or ins k i1

  abbrev s : Shelf
  s = get_or shelves k s1

  waits : Waits c w (stand_at a i s) (stand_at b i1 s1) mid
  waits = turn.round.waits k i i1 s s1 (omega arith) (first_at k i1 s1 turn.at) turn.at

  pub turn_ready : IsReady i1.reader s1.next s1.count mid
  turn_ready = subst (λ (x : Input). IsReady x.reader s1.next s1.count mid) (sym waits.input) (subst (λ (y : Shelf). IsReady i.reader y.next y.count mid) (sym waits.shelf) waits.ready)

  from_now : IfSome s1.next (λ x. w ≤ window_start c x.moment)
  from_now = subst (λ (y : Shelf). IfSome y.next (λ x. w ≤ window_start c x.moment)) (sym waits.shelf) waits.from

  module _ (d : Seen) (i2 : Input) (s2 : Shelf) (left : Budget) (slot : i2.slot ≡ i1.slot) where
    slots_on : slots_of (set ins' k i2) ≡ slots_of ins
    slots_on = slots_set ins' k i1 i2 turn.at.input slot ∙ turn.round.slots

    count_on : length (set shelves' k s2) ≡ length shelves
    count_on = length-set shelves' k s2 ∙ turn.round.count

    others_at : (q : ℕ) (j : Input) (u : Shelf) → q ≢ k → At q (set ins' k i2) (set shelves' k s2) j u → At q ins' shelves' j u
    others_at q j u ne h = record { input = sym (get_set_other ins' k q i2 ne) ∙ h.input; shelf = sym (get_set_other shelves' k q s2 ne) ∙ h.shelf }

    -- looks that were made of this port, and those behind them
    one_takes : (e : Seen) (made behind_ : List Look) → ((q : ℕ) (j : Input) (u : Shelf) → q ≢ k → At q ins' shelves' j u → e.left j.slot ≡ b.left j.slot) → to_look c (k + 1) b i1.slot i1.reader s1.count s1.next ≡ made ++ behind_ → AreOf (k + 1) w made → OneTakes c k (row_at b 1 ins' shelves') e made behind_
    one_takes e made behind_ same is of = record {
      own = λ n j u f h.
          let number : k + 1 ≡ n = omega arith in
          subst (λ (m : ℕ). look_of c m b j u ≡ made ++ behind_) number
          (subst (λ (x : Input). look_of c (k + 1) b x u ≡ made ++ behind_) (some_is (slice_get ins' k) i1 j turn.at.input h.input)
          (subst (λ (y : Shelf). look_of c (k + 1) b i1 y ≡ made ++ behind_) (some_is (slice_get shelves' k) s1 u turn.at.shelf h.shelf) is));
      leads = sorted_leads made behind_ (subst Sorted is (sorted_looks c (k + 1) b i1.slot i1.reader s1.count s1.next turn_ready.last));
      same = same;
      before = λ q n j u f less h.
          let own = turn.round.done q (get_or ins q j) j (get_or shelves q u) u less (first_at q j u h) h in
          later_not_before n (w + 1) 0 (k + 1) w (look_of c n e j u) made (later_looks c n e j.slot j.reader u.count u.next (w + 1) own.ready.last own.beyond) (omega arith) of;
      behind = λ q n j u f more h.
          let own = turn.round.waits q (get_or ins q j) j (get_or shelves q u) u (omega arith) (first_at q j u h) h in
          let last = subst (λ (x : Input). IfSome u.next (λ y. x.reader.greatest ≡ y.moment)) (sym own.input) (subst (λ (y : Shelf). IfSome y.next (λ z. (get_or ins q j).reader.greatest ≡ z.moment)) (sym own.shelf) own.ready.last) in
          let from = subst (λ (y : Shelf). IfSome y.next (λ z. w ≤ window_start c z.moment)) (sym own.shelf) own.from in
          made_before (k + 1) w n w 0 made (look_of c n e j u) of (later_looks c n e j.slot j.reader u.count u.next w last from) (omega arith) (omega arith);
    }

    in_front : (e : Seen) (made behind_ : List Look) → OneTakes c k (row_at b 1 ins' shelves') e made behind_ → in_order (joined (rests c 1 b ins' shelves')) ≡ made ++ in_order (joined (set (rests c 1 e ins' shelves') k behind_))
    in_front e made behind_ t = taken_at k made _ _ (takes_at c k 1 b e made behind_ ins' shelves' here wide t)

    pub turn_failed : (f : GatherFault) → TakesWindow c (k + 1) w i1.slot (port_walk_at b i1.reader s1 mid) (port_walk_at d i2.reader s2 left) (Err f) → TakesAll c w (walk_at a ins shelves had) (walk_at d (set ins' k i2) (set shelves' k s2) left) (Err f)
    turn_failed f t = λ first in_time. record {
      uses = uses_on a b ins ins' turn.are turn.round.uses turn.round.slots k i1 turn.at.input d t.uses;
      slots = slots_on;
      count = count_on;
      ready = tt;
      took = tt;
      spent =
          let own = t.leaves.1 in
          let so_far = turn.round.spent in
          let f = own.frames in
          let g = so_far.frames in
          let m = own.bytes in
          let n = so_far.bytes in
          let sum = counts_set shelves' k s1 s2 turn.at.shelf in
          record { frames = omega arith; bytes = omega arith };
      takes =
          let own = t.leaves.1 in
          let more = t.leaves.0.count in
          let f = own.frames in
          let m = own.bytes in
          record { slots = slots_on; bytes = let h = turn.round.bytes in omega arith; frames = let h = turn.round.frames in omega arith };
      leaves = λ q j j' u u' was now. elim (le_or_lt k q) [
        | inl le ↦ elim (le_or_lt q k) [
          | inl back ↦
              let same : k ≡ q = omega arith in
              let is_j = some_is (slice_get ins k) i j (first_at k i1 s1 turn.at).input (ap (slice_get ins) same ∙ was.input) in
              let is_u = some_is (slice_get shelves k) s u (first_at k i1 s1 turn.at).shelf (ap (slice_get shelves) same ∙ was.shelf) in
              let is_j' = some_is (slice_get (set ins' k i2) k) i2 j' (get_set_same ins' k i2 here) (ap (slice_get (set ins' k i2)) same ∙ now.input) in
              let is_u' = some_is (slice_get (set shelves' k s2) k) s2 u' (get_set_same shelves' k s2 there) (ap (slice_get (set shelves' k s2)) same ∙ now.shelf) in
              coe_left is_j is_j' is_u is_u' own_left
          | inr more ↦ later_left q j j' u u' more was (others_at q j' u' (λ e. omega arith) now)
        ]
        | inr less ↦ earlier_left q j j' u u' less was (others_at q j' u' (λ e. omega arith) now)
      ];
      looks = λ told. tt;
      stops = λ told stopped.
          let st = t.stops (told_b told) stopped in
          let of = are_of-push (k + 1) w st.made st.failing st.before st.at.0 st.at.1 in
          let whole = st.are ∙ sym (append_assoc st.made (st.failing ∷ []) st.behind) in
          let one = one_takes b (st.made ++ st.failing ∷ []) st.behind (λ q j u ne h. refl) whole of in
          let more = in_order (joined (set (rests c 1 b ins' shelves') k st.behind)) in
          let says = st.says first more in_time in (
            says.0,
            turn.round.looks told first in_time
                ∙ ap (stop_in first mid.bytes mid.frames) (in_front b (st.made ++ st.failing ∷ []) st.behind one ∙ append_assoc st.made (st.failing ∷ []) more)
                ∙ says.1,
            says.2,
            says.3,
          );
      fails = λ memory span. (k, i2, get_set_same ins' k i2 here, t.fails memory);
      late = (λ x. absurd (over x), λ x. let both : true ≡ false = sym x ∙ in_time in absurd (cc));
      same = λ x. absurd (over x);
    }
      where
        over : IsErrOf {T = Unit {0}} (Err f) (fault.Limit limit.Span) → ⊥
        over x = t.in_span (let same : f ≡ fault.Limit limit.Span = cc in same)

        Left : Input → Input → Shelf → Shelf → Type 0
        Left j j' u u' = (j'.slot ≡ j.slot) × LeavesPort c w (stand_at a j u) (stand_at d j' u')

        coe_left : {x y x' y' : Input} {v z v' z' : Shelf} → x ≡ y → x' ≡ y' → v ≡ z → v' ≡ z' → Left x x' v v' → Left y y' z z'
        coe_left {x} {y} {x'} {y'} {v} {z} {v'} {z'} e f g h l = subst (λ q. Left y y' z q) h (subst (λ q. Left y y' q v') g (subst (λ q. Left y q v v') f (subst (λ q. Left q x' v v') e l)))

        own_left : Left i i2 s s2
        own_left =
            let from_i = subst (λ (x : Input). LeavesPort c w (stand_at b (record { slot = x.slot; reader = x.reader }) s1) (stand_at d (record { slot = x.slot; reader = i2.reader }) s2)) waits.input t.leaves.0 in
            let from_s = subst (λ (y : Shelf). LeavesPort c w (stand_at b (record { slot = i.slot; reader = i.reader }) y) (stand_at d (record { slot = i.slot; reader = i2.reader }) s2)) waits.shelf from_i in
            (slot ∙ ap (λ (x : Input). x.slot) waits.input, leaves_from c w a b d i i2 s s2 told_b waits.rest from_s)

        earlier_left : (q : ℕ) (j j' : Input) (u u' : Shelf) → q < k → At q ins shelves j u → At q ins' shelves' j' u' → Left j j' u u'
        earlier_left q j j' u u' less first now =
            let h = turn.round.done q j j' u u' less first now in
            let same = others_left a b ins ins' turn.are turn.round.uses turn.round.slots k i1 turn.at.input d t.uses q j' (λ e. omega arith) now.input in
            (h.took.slot, took_leaves c w a b d j j' u u' (subst (λ (n : ℕ). d.left n ≡ b.left n) h.took.slot same) h.took)

        later_left : (q : ℕ) (j j' : Input) (u u' : Shelf) → k < q → At q ins shelves j u → At q ins' shelves' j' u' → Left j j' u u'
        later_left q j j' u u' more first now =
            let h = turn.round.waits q j j' u u' (omega arith) first now in
            let same = others_left a b ins ins' turn.are turn.round.uses turn.round.slots k i1 turn.at.input d t.uses q j' (λ e. omega arith) now.input in
            (ap (λ (x : Input). x.slot) h.input, waits_leaves c w a d j j' u u' h.input h.shelf (subst (λ (x : Input). d.left x.slot ≡ b.left x.slot) h.input same ∙ h.rest))

    pub turn_taken : TakesWindow c (k + 1) w i1.slot (port_walk_at b i1.reader s1 mid) (port_walk_at d i2.reader s2 left) (Ok tt) → Round c w (k + 1) (walk_at a ins shelves had) (walk_at d (set ins' k i2) (set shelves' k s2) left)
    turn_taken t =
        let g = subst (λ (y : Shelf). Taking c (k + 1) w i.slot (port_walk_at b i.reader y mid) (port_walk_at d i2.reader s2 left)) waits.shelf (subst (λ (x : Input). Taking c (k + 1) w x.slot (port_walk_at b x.reader s1 mid) (port_walk_at d i2.reader s2 left)) waits.input t.taking) in
        record {
          uses = uses_on a b ins ins' turn.are turn.round.uses turn.round.slots k i1 turn.at.input d t.uses;
          slots = slots_on;
          count = count_on;
          done = λ q j j' u u' less first now. elim (le_or_lt k q) [
            | inl le ↦
                let same : k ≡ q = omega arith in
                let is_j = some_is (slice_get ins k) i j (first_at k i1 s1 turn.at).input (ap (slice_get ins) same ∙ first.input) in
                let is_u = some_is (slice_get shelves k) s u (first_at k i1 s1 turn.at).shelf (ap (slice_get shelves) same ∙ first.shelf) in
                let is_j' = some_is (slice_get (set ins' k i2) k) i2 j' (get_set_same ins' k i2 here) (ap (slice_get (set ins' k i2)) same ∙ now.input) in
                let is_u' = some_is (slice_get (set shelves' k s2) k) s2 u' (get_set_same shelves' k s2 there) (ap (slice_get (set shelves' k s2)) same ∙ now.shelf) in
                coe_done is_j is_j' is_u is_u' (own_done g t)
            | inr more ↦ others_done q j j' u u' more first (others_at q j' u' (λ e. omega arith) now) t
          ];
          waits = λ q j j' u u' le first now. others_wait q j j' u u' (omega arith) first (others_at q j' u' (λ e. omega arith) now) t;
          spent =
              let own = t.taking.spent in
              let so_far = turn.round.spent in
              let f = own.frames in
              let g = so_far.frames in
              let m = own.bytes in
              let n = so_far.bytes in
              let sum = counts_set shelves' k s1 s2 turn.at.shelf in
              record { frames = omega arith; bytes = omega arith };
          bytes = let own = t.taking.spent in let m = own.bytes in let n = t.taking.count in let h = turn.round.bytes in omega arith;
          frames = let own = t.taking.spent in let m = own.frames in let n = t.taking.count in let h = turn.round.frames in omega arith;
          looks = λ told first late.
              let l = t.taking.looks (told_b told) in
              let one = one_takes d l.0 (to_look c (k + 1) d i1.slot i2.reader s2.count s2.next) (λ q j u ne h. others_left a b ins ins' turn.are turn.round.uses turn.round.slots k i1 turn.at.input d t.uses q j ne h.input) l.1 l.2 in
              turn.round.looks told first late
              ∙ ap (stop_in first mid.bytes mid.frames) (in_front d l.0 _ one)
              ∙ l.3 first (in_order (joined (set (rests c 1 d ins' shelves') k (to_look c (k + 1) d i1.slot i2.reader s2.count s2.next)))) late
              ∙ ap (λ ls. stop_in first left.bytes left.frames (in_order (joined ls)))
              (rests_set c k 1 d ins' shelves' i2 s2 (to_look c (k + 1) d i1.slot i2.reader s2.count s2.next) here wide
              (λ n e. let number : k + 1 ≡ n = omega arith in λ x. to_look c (number_sym n number x) d (slot x) i2.reader s2.count s2.next));
        }
      where
        coe_done : {x y x' y' : Input} {v z v' z' : Shelf} → x ≡ y → x' ≡ y' → v ≡ z → v' ≡ z' → Done c w (stand_at a x v) (stand_at d x' v') left → Done c w (stand_at a y z) (stand_at d y' z') left
        coe_done {x} {y} {x'} {y'} {v} {z} {v'} {z'} e f g h d0 = subst (λ q. Done c w (stand_at a y z) (stand_at d y' q) left) h (subst (λ q. Done c w (stand_at a y q) (stand_at d y' v') left) g (subst (λ q. Done c w (stand_at a y v) (stand_at d q v') left) f (subst (λ q. Done c w (stand_at a q v) (stand_at d x' v') left) e d0)))

        number_sym : (n : ℕ) → k + 1 ≡ n → n ≡ k + 1
        number_sym n e = sym e

        -- nothing is to come of a port that had ended, nor of one that ends here
        ended_as : IsTrue a.told → (g : Taking c (k + 1) w i.slot (port_walk_at b i.reader s mid) (port_walk_at d i2.reader s2 left)) → (x : Option Record) → s.next ≡ x → (s.next ≡ None → to_come i.reader a i.slot ≡ []) → s2.next ≡ None → to_come i2.reader d i.slot ≡ []
        ended_as told g None e was none =
            nothing_behind i.reader.head i.reader.greatest g.given (to_come i.reader a i.slot) (to_come i2.reader d i.slot) (was e)
            (subst (λ (l : List ℕ). Chain i.reader.head i.reader.greatest g.given (i.reader.held ++ l) (to_come i2.reader d i.slot)) waits.rest (g.chain (told_b told)))
        ended_as told g (Some x) e was none = g.ended (told_b told) (λ f. let no_end = sym e ∙ f in absurd (cc)) none

        own_done : Taking c (k + 1) w i.slot (port_walk_at b i.reader s mid) (port_walk_at d i2.reader s2 left) → TakesWindow c (k + 1) w i1.slot (port_walk_at b i1.reader s1 mid) (port_walk_at d i2.reader s2 left) (Ok tt) → Done c w (stand_at a i s) (stand_at d i2 s2) left
        own_done g t = record {
          took = record {
            slot = slot ∙ ap (λ (x : Input). x.slot) waits.input;
            in_window = g.in_window;
            given = g.given;
            order = g.order;
            count = g.count;
            head = g.head;
            greatest = g.greatest;
            at = g.at;
            chain = λ told. subst (λ (l : List ℕ). Chain i.reader.head i.reader.greatest g.given (i.reader.held ++ l) (to_come i2.reader d i.slot)) waits.rest (g.chain (told_b told));
            ended = λ told was none. ended_as told g s.next refl was none;
          };
          ready = g.ready;
          beyond = beyond_is c w i.reader.greatest i2.reader.greatest s.next s2.next waits.ready.last waits.from g.ready.last t.beyond g.onward g.still;
        }

        less_is : TakesWindow c (k + 1) w i1.slot (port_walk_at b i1.reader s1 mid) (port_walk_at d i2.reader s2 left) (Ok tt) → left.frames ≤ mid.frames
        less_is t =
            let own = t.taking.spent in
            let f = own.frames in
            let n = t.taking.count in omega arith

        others_done : (q : ℕ) (j j' : Input) (u u' : Shelf) → q < k → At q ins shelves j u → At q ins' shelves' j' u' → TakesWindow c (k + 1) w i1.slot (port_walk_at b i1.reader s1 mid) (port_walk_at d i2.reader s2 left) (Ok tt) → Done c w (stand_at a j u) (stand_at d j' u') left
        others_done q j j' u u' less first now t =
            let h = turn.round.done q j j' u u' less first now in
            let same = others_left a b ins ins' turn.are turn.round.uses turn.round.slots k i1 turn.at.input d t.uses q j' (λ e. omega arith) now.input in
            let at_j : d.left j.slot ≡ b.left j.slot = subst (λ (n : ℕ). d.left n ≡ b.left n) h.took.slot same in
            let fewer = less_is t in
            record {
              took = record {
                slot = h.took.slot;
                in_window = h.took.in_window;
                given = h.took.given;
                order = h.took.order;
                count = h.took.count;
                head = h.took.head;
                greatest = h.took.greatest;
                at = h.took.at;
                chain = λ told. subst (λ (l : List ℕ). Chain j.reader.head j.reader.greatest h.took.given (to_come j.reader a j.slot) (j'.reader.held ++ l)) (sym at_j) (h.took.chain told);
                ended = λ told was none. ap (λ (l : List ℕ). j'.reader.held ++ l) at_j ∙ h.took.ended told was none;
              };
              ready = smaller j'.reader u'.next u'.count mid left fewer h.ready;
              beyond = h.beyond;
            }

        others_wait : (q : ℕ) (j j' : Input) (u u' : Shelf) → k < q → At q ins shelves j u → At q ins' shelves' j' u' → TakesWindow c (k + 1) w i1.slot (port_walk_at b i1.reader s1 mid) (port_walk_at d i2.reader s2 left) (Ok tt) → Waits c w (stand_at a j u) (stand_at d j' u') left
        others_wait q j j' u u' more first now t =
            let h = turn.round.waits q j j' u u' (omega arith) first now in
            let same = others_left a b ins ins' turn.are turn.round.uses turn.round.slots k i1 turn.at.input d t.uses q j' (λ e. omega arith) now.input in
            let fewer = less_is t in
            record {
              input = h.input;
              shelf = h.shelf;
              rest = subst (λ (x : Input). d.left x.slot ≡ b.left x.slot) h.input same ∙ h.rest;
              ready = smaller j.reader u.next u.count mid left fewer h.ready;
              from = h.from;
            }

-- before the first port
pub round_none : (c : Settings) (w : ℕ) (a : Seen) (ins : List Input) (shelves : List Shelf) (had : Budget) → AreReady c w ins shelves had → Round c w 0 (walk_at a ins shelves had) (walk_at a ins shelves had)
round_none c w a ins shelves had ready = record {
  uses = uses_none (NameIn a (slots_of ins)) Nothing a;
  slots = refl;
  count = refl;
  done = λ q i i' s s' lt. absurd (omega arith);
  waits = λ q i i' s s' le first now.
      let h = ready q i s first in
      record { input = some_is (slice_get ins q) i' i now.input first.input; shelf = some_is (slice_get shelves q) s' s now.shelf first.shelf; rest = refl; ready = h.0; from = h.1 };
  spent = record { frames = omega arith; bytes = omega arith };
  bytes = omega arith;
  frames = omega arith;
  looks = λ told first late. refl;
}

-- behind the last
pub round_all : (c : Settings) (w k : ℕ) (a b : Seen) (ins ins' : List Input) (shelves shelves' : List Shelf) (had left : Budget) → length ins ≤ k → length shelves ≡ length ins → Round c w k (walk_at a ins shelves had) (walk_at b ins' shelves' left) → TakesAll c w (walk_at a ins shelves had) (walk_at b ins' shelves' left) (Ok tt)
round_all c w k a b ins ins' shelves shelves' had left le count r = λ first in_time. record {
  uses = r.uses;
  slots = r.slots;
  count = r.count;
  ready = λ q i' s' now.
      let less = slice_get_within ins' q i' now.input in
      let l = same_length ins ins' r.slots in
      let h = r.done q (get_or ins q i') i' (get_or shelves q s') s' (omega arith) (record { input = slice_get-get_or ins q i' (omega arith); shelf = slice_get-get_or shelves q s' (omega arith) }) now in (h.ready, h.beyond);
  took = λ q i i' s s' was now. let less = slice_get_within ins q i was.input in (r.done q i i' s s' (omega arith) was now).took;
  spent = r.spent;
  leaves = tt;
  takes = record { slots = r.slots; bytes = r.bytes; frames = r.frames };
  looks = λ told. r.looks told first in_time;
  stops = λ told. tt;
  fails = tt;
  late = (λ x. absurd (cc), λ x. let both : true ≡ false = sym x ∙ in_time in absurd (cc));
  same = λ x. absurd (cc);
}

pub taken_as : {c : Settings} {m n w slot : ℕ} {a b : Seen} {r r' : Reading} {s s' : Shelf} {had left : Budget} {result : Result (Unit {0}) GatherFault} → n ≡ m → TakesWindow c m w slot (port_walk_at a r s had) (port_walk_at b r' s' left) result → TakesWindow c n w slot (port_walk_at a r s had) (port_walk_at b r' s' left) result
taken_as {c} {m} {n} {w} {slot} {a} {b} {r} {r'} {s} {s'} {had} {left} {result} e t = subst (λ (x : ℕ). TakesWindow c x w slot (port_walk_at a r s had) (port_walk_at b r' s' left) result) (sym e) t
