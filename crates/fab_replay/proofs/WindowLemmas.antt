-- The frames of a window on the shelves, and the next frames of the ports.
use Rattle.std.proofs.Common.{◌≡◌, ℕ, zero, suc, ◌+◌, ◌-◌, ◌<◌, ◌≤◌, Bool, true, false, eqb, ltb, MatchBool, get_or, ◌^◌, List, [], ◌∷◌, ◌++◌, length, length-append, drop, set, slice_get, Option, Some, None, IfSome, refl, sym, ap, ◌∙◌, subst, arith}
use Rattle.std.specs.Prelude.{replicate, unwrap_or}
use Rattle.std.specs.List.{list_any}
use Rattle.std.proofs.lemmas.Bool.{eqb-true, eqb-false, eq-eqb, ltb-true, ltb-false}
use Rattle.std.proofs.lemmas.Option.{get_or_from_slice_get}
use Rattle.fab_base.specs.declared.values.Caught.{Caught}
use Rattle.fab_config.specs.Settings.{Settings}
use Rattle.fab_policy.specs.Growing.{AreFrom}
use Rattle.fab_policy.specs.Journal.{Journal}
use Rattle.fab_policy.specs.Legal.{IsLeastOf, left_of, of_port, window_start, windows_left}
use Rattle.fab_policy.specs.declared.event.Event.TheVariants.{Frame}
use Rattle.fab_policy.specs.declared.verdict.Verdict.{Verdict}
use Rattle.window_records.proofs.SlotLemmas.{get_set_same, get_set_other}
use Rattle.window_records.specs.Port.{AreIn}
use Rattle.window_records.specs.declared.shelf.Shelf.{Shelf}
use Rattle.pcap_file.specs.declared.Record.{Record}
use Rattle.fab_states.specs.Runs.{first_of}
use Rattle.fab_replay.specs.Front.{is_at}
use Rattle.fab_replay.specs.FrontFrom.{IsNextFrameFrom, clock_from, expects_tick_from}
use Rattle.window_records.specs.Reads.{first_index}
use Rattle.fab_replay.specs.Steps.{AllDone, AreCounted, AreFirsts, At, HasLeft, HoldSame, IsDone, HasLeftAt, IsGathered, IsOnShelf, IsPortIn, IsWindow, Scene}
use Rattle.fab_replay.proofs.FrontLemmas.{of_port_own, of_port_other}
use Rattle.fab_replay.proofs.LeftLemmas.{left_all, left_some, start_of, tick_unexpected}
use Rattle.fab_replay.proofs.ListLemmas.{at_inside, inside_at, next_of, rest_at}

-- a record on the shelf is of the window
in_at : (c : Settings) (w : ℕ) (batch : List Record) (k : ℕ) (r : Record) → AreIn c w batch → slice_get batch k ≡ Some r → window_start c r.moment ≡ w
in_at c w [] k r own at = absurd (cc)
in_at c w (s ∷ batch) zero r own at = let same : s ≡ r = cc in ap (start_of c) (sym same) ∙ own.0
in_at c w (s ∷ batch) (suc k) r own at = in_at c w batch k r own.1 at

-- the rest of a list begins at its place
at_rest : {X : Type 0} (xs : List X) (k : ℕ) (x : X) (more : List X) → drop k xs ≡ x ∷ more → slice_get xs k ≡ Some x
at_rest xs k x more e = (next_of xs k x more e).at

-- what a port has stays where its entries do
port_same : (x : Scene) (w : ℕ) (J K : Journal) (q : ℕ) (s : Shelf) (k : ℕ) → of_port (q + 1) K ≡ of_port (q + 1) J → IsPortIn x w J q s k → IsPortIn x w K q s k
port_same x w J K q s k same i = record {
  records = i.records;
  are = i.are;
  own = i.own;
  few = i.few;
  later = i.later;
  left = ap (λ (l : List (ℕ × Caught)). drop (length l) i.records) same ∙ i.left;
  from = i.from;
  count = ap length same ∙ i.count;
}

module _ (x : Scene) (w : ℕ) (J : Journal) (shelves : List Shelf) (done : List ℕ) (win : IsWindow x w J shelves done) where
  -- ---- what a line may name

  pub next_from : (port index : ℕ) (told : Option ℕ) (r : Record) → IsOnShelf x.from.firsts shelves done w port index told r → IsNextFrameFrom x.settings x.from x.records J port index told r
  next_from port index told r o =
      let i = win.ports o.place o.shelf o.done_ o.at in
      record {
        place = o.place;
        is = o.is;
        records = i.records;
        later = drop (suc o.done_) o.shelf.batch.items ++ i.later;
        are = i.are;
        next = ap (λ (p : ℕ). left_of p i.records J) o.is ∙ i.left ∙ ap (λ l. l ++ i.later) (rest_at o.shelf.batch.items o.done_ r o.record_);
        number = o.number ∙ ap (λ (n : ℕ). first_of x.from.firsts port + n) (sym i.count ∙ ap (λ (p : ℕ). length (of_port p J)) (sym o.is));
        time = win.clock_ ∙ ap (λ (k : ℕ). Some k) (sym (in_at x.settings w o.shelf.batch.items o.done_ r i.own o.record_));
        clock_ = told_at told o.clock_;
      }
    where
      told_at : (o : Option ℕ) → IfSome o (λ t. t ≡ w) → IfSome o (λ t. clock_from x.settings x.from J ≡ Some t)
      told_at None h = tt
      told_at (Some t) h = win.clock_ ∙ ap (λ (k : ℕ). Some k) (sym h)

  module _ (width : length done ≡ length shelves) where
    pub from_next : (port index : ℕ) (told : Option ℕ) (r : Record) → IsNextFrameFrom x.settings x.from x.records J port index told r → IsOnShelf x.from.firsts shelves done w port index told r
    from_next port index told r n =
        let lt = at_inside x.records n.place n.records n.are in
        let s = inside_at shelves n.place (omega (arith, lt, win.width)) in
        let k = inside_at done n.place (omega (arith, lt, win.width, width)) in
        let at : At n.place shelves done s.0 k.0 = record { shelf = s.1; done_ = k.1 } in
        let i = win.ports n.place s.0 k.0 at in
        let some : Some i.records ≡ Some n.records = sym i.are ∙ n.are in
        let same : i.records ≡ n.records = cc in
        let left : drop k.0 s.0.batch.items ++ i.later ≡ r ∷ n.later = sym i.left ∙ ap (λ l. left_of (n.place + 1) l J) same ∙ ap (λ (p : ℕ). left_of p n.records J) (sym n.is) ∙ n.next in
        record {
          place = n.place;
          is = n.is;
          shelf = s.0;
          done_ = k.0;
          at = at;
          record_ = by_rest k.0 s.0.batch.items (drop k.0 s.0.batch.items) refl i.later i.from left;
          number = n.number ∙ ap (λ (k : ℕ). first_of x.from.firsts port + k) (ap (λ (p : ℕ). length (of_port p J)) n.is ∙ i.count);
          clock_ = told_at told n.clock_;
        }
      where
        same_at : (t : ℕ) → clock_from x.settings x.from J ≡ Some t → t ≡ w
        same_at t e = let both : Some t ≡ Some w = sym e ∙ win.clock_ in cc

        told_at : (o : Option ℕ) → IfSome o (λ t. clock_from x.settings x.from J ≡ Some t) → IfSome o (λ t. t ≡ w)
        told_at None h = tt
        told_at (Some t) h = same_at t h

        by_rest : (k : ℕ) (batch : List Record) (rest : List Record) → drop k batch ≡ rest → (later : List Record) → AreFrom x.settings (w + 1) later → rest ++ later ≡ r ∷ n.later → slice_get batch k ≡ Some r
        by_rest k batch [] is [] from e = absurd (cc)
        by_rest k batch [] is (s ∷ later) from e =
            let same : s ≡ r = cc in
            let here : window_start x.settings s.moment ≡ w = ap (start_of x.settings) same ∙ same_at (window_start x.settings r.moment) n.time in
            let far = from.0 in
            absurd (omega (arith, here, far))
        by_rest k batch (s ∷ rest) is later from e = let same : s ≡ r = cc in at_rest batch k r rest (is ∙ ap (λ y. y ∷ rest) same)

  -- ---- one frame more

  module _ (port index : ℕ) (told : Option ℕ) (r : Record) (v : Verdict) (o : IsOnShelf x.from.firsts shelves done w port index told r) where
    abbrev K : Journal
    K = Frame port index r.caught v ∷ J

    own_more : (s : Shelf) → slice_get shelves o.place ≡ Some s → IsPortIn x w K o.place s (o.done_ + 1)
    own_more s at =
        let i = win.ports o.place o.shelf o.done_ o.at in
        let some : Some o.shelf ≡ Some s = sym o.at.shelf ∙ at in
        let same : o.shelf ≡ s = cc in
        let more : of_port (o.place + 1) K ≡ of_port (o.place + 1) J ++ (index, r.caught) ∷ [] = of_port_own port index (o.place + 1) r.caught v J o.is in
        let size : length (of_port (o.place + 1) K) ≡ suc (length (of_port (o.place + 1) J)) = ap length more ∙ (let e = length-append (of_port (o.place + 1) J) ((index, r.caught) ∷ []) in omega (arith, e)) in
        let rest = rest_at o.shelf.batch.items o.done_ r o.record_ in
        let left : drop (length (of_port (o.place + 1) J)) i.records ≡ r ∷ (drop (suc o.done_) o.shelf.batch.items ++ i.later) = i.left ∙ ap (λ l. l ++ i.later) rest in
        let next = next_of i.records (length (of_port (o.place + 1) J)) r (drop (suc o.done_) o.shelf.batch.items ++ i.later) left in
        subst (λ (y : Shelf). IsPortIn x w K o.place y (o.done_ + 1)) same (record {
          records = i.records;
          are = i.are;
          own = i.own;
          few = (let lt = at_inside o.shelf.batch.items o.done_ r o.record_ in omega (arith, lt));
          later = i.later;
          left = ap (λ (k : ℕ). drop k i.records) size ∙ next.rest ∙ ap (λ (k : ℕ). drop k o.shelf.batch.items ++ i.later) (let e : suc o.done_ ≡ o.done_ + 1 = omega arith in e);
          from = i.from;
          count = (let c = i.count in omega (arith, size, c));
        })

    other_more : (q : ℕ) (s : Shelf) (k : ℕ) → (q ≡ o.place → ⊥) → At q shelves done s k → IsPortIn x w K q s k
    other_more q s k ne at = port_same x w J K q s k (of_port_other port index (q + 1) r.caught v J (λ e. ne (let is = o.is in omega (arith, e, is)))) (win.ports q s k at)

    pub window_more : (done' : List ℕ) → done' ≡ set done o.place (o.done_ + 1) → IsWindow x w K shelves done'
    window_more done' is = record {
      width = win.width;
      ahead = win.ahead;
      ports = λ q s k at. go q s k at (eqb q o.place) refl;
      clock_ = win.clock_;
    }
      where
        go : (q : ℕ) (s : Shelf) (k : ℕ) → At q shelves done' s k → (b : Bool) → eqb q o.place ≡ b → IsPortIn x w K q s k
        go q s k at true eq =
            let here : q ≡ o.place = eqb-true q o.place eq in
            let inside = at_inside done o.place o.done_ o.at.done_ in
            let now : Some k ≡ Some (o.done_ + 1) = sym at.done_ ∙ ap (λ l. slice_get l q) is ∙ ap (slice_get (set done o.place (o.done_ + 1))) here ∙ get_set_same done o.place (o.done_ + 1) inside in
            let same : k ≡ o.done_ + 1 = cc in
            subst (λ (p : ℕ). IsPortIn x w K p s k) (sym here) (subst (λ (n : ℕ). IsPortIn x w K o.place s n) (sym same) (own_more s (ap (slice_get shelves) (sym here) ∙ at.shelf)))
        go q s k at false eq =
            let apart = eqb-false q o.place eq in
            other_more q s k apart (record { shelf = at.shelf; done_ = sym (get_set_other done o.place q (o.done_ + 1) apart) ∙ ap (λ l. slice_get l q) (sym is) ∙ at.done_ })

  -- ---- whether frames are left

  pub left_here : HasLeft shelves done → list_any (is_at (clock_from x.settings x.from J)) (windows_left x.settings 1 x.records J) ≡ true
  left_here h =
      let i = win.ports h.0 h.1.shelf h.1.done_ h.1.at in
      let r = inside_at h.1.shelf.batch.items h.1.done_ h.1.more in
      let left : left_of (h.0 + 1) i.records J ≡ r.0 ∷ (drop (suc h.1.done_) h.1.shelf.batch.items ++ i.later) = i.left ∙ ap (λ l. l ++ i.later) (rest_at h.1.shelf.batch.items h.1.done_ r.0 r.1) in
      let here : window_start x.settings r.0.moment ≡ w = in_at x.settings w h.1.shelf.batch.items h.1.done_ r.0 i.own r.1 in
      left_some x.settings (is_at (clock_from x.settings x.from J)) 1 x.records J h.0 (h.0 + 1) i.records r.0 (drop (suc h.1.done_) h.1.shelf.batch.items ++ i.later) i.are (let e : h.0 + 1 ≡ 1 + h.0 = omega arith in e) left
      (ap (λ (o : Option ℕ). is_at o (start_of x.settings r.0)) win.clock_ ∙ eq-eqb (start_of x.settings r.0) w here)

  pub no_tick_here : HasLeft shelves done → expects_tick_from x.settings x.from x.records J ≡ false
  no_tick_here h = tick_unexpected x.settings (clock_from x.settings x.from J) x.records J (left_here h)

  pub counted_all : length done ≡ length shelves → AllDone shelves done → AreCounted J shelves
  counted_all width all q s at =
      let lt = at_inside shelves q s at in
      let k = inside_at done q (omega (arith, lt, width)) in
      let here : At q shelves done s k.0 = record { shelf = at; done_ = k.1 } in
      let i = win.ports q s k.0 here in
      let most = all q s k.0 here in
      let few = i.few in
      let c = i.count in
      omega (arith, c, most, few)

-- ---- the window of the next frames

in_drop : (c : Settings) (w k : ℕ) (batch : List Record) → AreIn c w batch → AreIn c w (drop k batch)
in_drop c w zero batch own = own
in_drop c w (suc k) [] own = tt
in_drop c w (suc k) (r ∷ batch) own = in_drop c w k batch own.1

-- each port's records behind those that have lines are of the window or later ones, and some port has one of the window
module _ (x : Scene) (w : ℕ) (J : Journal) (shelves : List Shelf) (width : length shelves ≡ length x.records) (ports : (q : ℕ) (s : Shelf) → slice_get shelves q ≡ Some s → (k : ℕ) × IsPortIn x w J q s k) where
  batch_from : (batch later : List Record) → AreIn x.settings w batch → AreFrom x.settings (w + 1) later → AreFrom x.settings w (batch ++ later)
  batch_from [] [] own from = tt
  batch_from [] (r ∷ later) own from = (let h = from.0 in omega (arith, h), batch_from [] later tt from.1)
  batch_from (r ∷ batch) later own from = (let h = own.0 in omega (arith, h), batch_from batch later own.1 from)

  least_of : (q : ℕ) (s : Shelf) (k : ℕ) → IsPortIn x w J q s k → k < length s.batch.items → IsLeastOf (windows_left x.settings 1 x.records J) w
  least_of q s k i more = (
    let r = inside_at s.batch.items k more in
        let left : left_of (q + 1) i.records J ≡ r.0 ∷ (drop (suc k) s.batch.items ++ i.later) = i.left ∙ ap (λ l. l ++ i.later) (rest_at s.batch.items k r.0 r.1) in
        left_some x.settings (λ m. eqb m w) 1 x.records J q (q + 1) i.records r.0 (drop (suc k) s.batch.items ++ i.later) i.are (let e : q + 1 ≡ 1 + q = omega arith in e) left
        (eq-eqb (start_of x.settings r.0) w (in_at x.settings w s.batch.items k r.0 i.own r.1)),
    left_all x.settings w 1 x.records J (λ p port records at e.
        let lt = at_inside x.records p records at in
        let t = inside_at shelves p (omega (arith, lt, width)) in
        let o = ports p t.0 t.1 in
        let some : Some o.1.records ≡ Some records = sym o.1.are ∙ at in
        let same : o.1.records ≡ records = cc in
        let here : p + 1 ≡ port = omega (arith, e) in
        subst (AreFrom x.settings w) (sym o.1.left ∙ ap (λ l. left_of (p + 1) l J) same ∙ ap (λ (n : ℕ). left_of n records J) here)
        (batch_from (drop o.0 t.0.batch.items) o.1.later (in_drop x.settings w o.0 t.0.batch.items o.1.own) o.1.from)),
  )

-- it is the window whose lines are checked, while some frame on the shelves has none
pub least_window : (x : Scene) (w : ℕ) (J : Journal) (shelves : List Shelf) (done : List ℕ) → IsWindow x w J shelves done → length done ≡ length shelves → HasLeft shelves done → IsLeastOf (windows_left x.settings 1 x.records J) w
least_window x w J shelves done win width h =
    least_of x w J shelves win.width
    (λ q s at.
    let lt = at_inside shelves q s at in
    let k = inside_at done q (omega (arith, lt, width)) in
    (k.0, win.ports q s k.0 (record { shelf = at; done_ = k.1 })))
    h.0 h.1.shelf h.1.done_ (win.ports h.0 h.1.shelf h.1.done_ h.1.at) h.1.more

-- ---- a window that was gathered

module _ (x : Scene) (w : ℕ) (J : Journal) (shelves : List Shelf) (g : IsGathered x w J shelves) where
  pub least_gathered : IsLeastOf (windows_left x.settings 1 x.records J) w
  least_gathered = least_of x w J shelves g.width (λ q s at. (0, g.ports q s at)) g.some.0 g.some.1 0 (g.ports g.some.0 g.some.1 g.some.2) g.some.3

  zeros_at : (n q k : ℕ) → slice_get (replicate n 0) q ≡ Some k → k ≡ 0
  zeros_at zero q k at = absurd (cc)
  zeros_at (suc n) zero k at = cc
  zeros_at (suc n) (suc q) k at = zeros_at n q k at

  pub window_first : (K : Journal) (n : ℕ) → HoldSame J K → clock_from x.settings x.from K ≡ Some w → IsWindow x w K shelves (replicate n 0)
  window_first K n same at = record {
    width = g.width;
    ahead = g.ahead;
    ports = λ q s k here. subst (λ (d : ℕ). IsPortIn x w K q s d) (sym (zeros_at n q k here.done_)) (port_same x w J K q s 0 (same (q + 1)) (g.ports q s here.shelf));
    clock_ = at;
  }

-- ---- which ports are done

pub done_more : (shelves : List Shelf) (done : List ℕ) (port next : ℕ) → next ≡ port + 1 → ((q : ℕ) → q < port → IsDone shelves done q) → IsDone shelves done port → (q : ℕ) → q < next → IsDone shelves done q
done_more shelves done port next is before own q lt = go (eqb q port) refl
  where
    go : (b : Bool) → eqb q port ≡ b → IsDone shelves done q
    go true e = subst (IsDone shelves done) (sym (eqb-true q port e)) own
    go false e = let ne = eqb-false q port e in before q (by_apart ne)
      where
        by_apart : (q ≡ port → ⊥) → q < port
        by_apart ne = omega (arith, is, lt, ne)

pub done_all : (shelves : List Shelf) (done : List ℕ) (port : ℕ) → length shelves ≤ port → ((q : ℕ) → q < port → IsDone shelves done q) → AllDone shelves done
done_all shelves done port le before q s k at = let lt = at_inside shelves q s at.shelf in before q (omega (arith, lt, le)) s k at

-- the port of a shelf is left or done
pub left_case : (shelves : List Shelf) (done : List ℕ) (port : ℕ) (s : Shelf) (count size : ℕ) → slice_get shelves port ≡ Some s → slice_get done port ≡ Some count → size ≡ length s.batch.items →
    MatchBool (ltb count size) (HasLeftAt shelves done port) (IsDone shelves done port)
left_case shelves done port s count size at own is = go (ltb count size) refl
  where
    go : (b : Bool) → ltb count size ≡ b → MatchBool b (HasLeftAt shelves done port) (IsDone shelves done port)
    go true e = let lt = ltb-true count size e in record { shelf = s; done_ = count; at = record { shelf = at; done_ = own }; more = omega (arith, lt, is) }
    go false e = λ t k here.
        let le = ltb-false count size e in
        let one : Some s ≡ Some t = sym at ∙ here.shelf in
        let same : s ≡ t = cc in
        let two : Some count ≡ Some k = sym own ∙ here.done_ in
        let equal : count ≡ k = cc in
        let long = ap (λ (y : Shelf). length y.batch.items) same in
        omega (arith, le, is, long, equal)

-- the place behind the next record
pub done_room : (done : List ℕ) (batch : List Record) (r : Record) (at place first index : ℕ) → slice_get done at ≡ Some place → slice_get batch place ≡ Some r → first + length batch < 2 ^ 64 →
    (port : ℕ) → at + 1 ≡ port → (q k : ℕ) → port ≡ q + 1 → slice_get done q ≡ Some k → k + 1 < 2 ^ 64
done_room done batch r at place first index own here room port is q k e other =
    let same : at ≡ q = omega (arith, is, e) in
    let both : Some place ≡ Some k = sym own ∙ ap (slice_get done) same ∙ other in
    let equal : place ≡ k = cc in
    let lt = at_inside batch place r here in
    omega (arith, lt, equal, room)

-- ---- the index of a record

-- the first frame of a port, by its place
first_is : (firsts : List ℕ) (port at first : ℕ) → at + 1 ≡ port → first ≡ unwrap_or (slice_get firsts at) 0 → first ≡ first_of firsts port
first_is firsts port at first e is = is ∙ ap (λ (k : ℕ). unwrap_or (slice_get firsts k) 0) (let s : at ≡ port - 1 = omega (arith, e) in s)

-- an index that is behind the first ones by as many
pub number_as : (firsts : List ℕ) (port at index first own : ℕ) (s : Shelf) (k : ℕ) → at + 1 ≡ port → first ≡ unwrap_or (slice_get firsts at) 0 → own ≡ first_index s + k → index ≡ first + own → index ≡ first_of firsts port + (first_index s + k)
number_as firsts port at index first own s k e is same number = number ∙ (λ i. first_is firsts port at first e is i + same i)

-- ---- the place of a record's port

pub shelf_as : {f firsts : List ℕ} {shelves : List Shelf} {done : List ℕ} {w port index : ℕ} {told : Option ℕ} {r : Record} → AreFirsts f firsts → IsOnShelf f shelves done w port index told r → IsOnShelf firsts shelves done w port index told r
shelf_as {f} {firsts} {shelves} {done} {w} {port} e on = record {
  place = on.place;
  is = on.is;
  shelf = on.shelf;
  done_ = on.done_;
  at = on.at;
  record_ = on.record_;
  number = on.number ∙ ap (λ (n : ℕ). n + (first_index on.shelf + on.done_)) (e (port - 1));
  clock_ = on.clock_;
}

place_is : {firsts : List ℕ} {shelves : List Shelf} {done : List ℕ} {w port index : ℕ} {told : Option ℕ} {r : Record} (o : IsOnShelf firsts shelves done w port index told r) (at : ℕ) → at + 1 ≡ port → at ≡ o.place
place_is o at e = let is = o.is in omega (arith, e, is)

pub place_inside : {firsts : List ℕ} {shelves : List Shelf} {done : List ℕ} {w port index : ℕ} {told : Option ℕ} {r : Record} → IsOnShelf firsts shelves done w port index told r → (at : ℕ) → at + 1 ≡ port → at < length done
place_inside {firsts} {shelves} {done} o at e = let lt = at_inside done o.place o.done_ o.at.done_ in let same = place_is o at e in omega (arith, lt, same)

count_is : {firsts : List ℕ} {shelves : List Shelf} {done : List ℕ} {w port index : ℕ} {told : Option ℕ} {r : Record} (o : IsOnShelf firsts shelves done w port index told r) (at : ℕ) → at + 1 ≡ port → get_or done at 0 ≡ o.done_
count_is {firsts} {shelves} {done} o at e = ap (λ (n : ℕ). get_or done n 0) (place_is o at e) ∙ get_or_from_slice_get done o.place o.done_ 0 o.at.done_

-- the counts once the record has a line
pub counts_more : {firsts : List ℕ} {shelves : List Shelf} {done : List ℕ} {w port index : ℕ} {told : Option ℕ} {r : Record} (o : IsOnShelf firsts shelves done w port index told r) (at : ℕ) → at + 1 ≡ port → set done at (get_or done at 0 + 1) ≡ set done o.place (o.done_ + 1)
counts_more {firsts} {shelves} {done} o at e = λ i. set done (place_is o at e i) (count_is o at e i + 1)

pub count_fits : {firsts : List ℕ} {shelves : List Shelf} {done : List ℕ} {w port index : ℕ} {told : Option ℕ} {r : Record} → IsOnShelf firsts shelves done w port index told r → (at : ℕ) → at + 1 ≡ port → ((q k : ℕ) → port ≡ q + 1 → slice_get done q ≡ Some k → k + 1 < 2 ^ 64) → get_or done at 0 + 1 < 2 ^ 64
count_fits o at e room = let fits = room o.place o.done_ o.is o.at.done_ in let value = count_is o at e in omega (arith, value, fits)

abbrev zeros_of : ℕ → List ℕ
zeros_of n = replicate n 0

pub length-zeros : (n : ℕ) → length (zeros_of n) ≡ n
length-zeros zero = refl
length-zeros (suc n) = ap suc (length-zeros n)
