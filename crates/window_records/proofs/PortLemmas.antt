-- The records of a window of one port, taken one after another.
use Rattle.std.proofs.Common.{◌≡◌, ◌≢◌, ℕ, ◌+◌, ◌-◌, ◌*◌, ◌^◌, ◌<◌, ◌≤◌, inl, inr, true, false, List, [], ◌∷◌, ◌++◌, length, length-append, Option, Some, None, IfSome, Ok, Err, IsTrue, refl, sym, ap, ◌∙◌, subst, arith, append_assoc}
use Rattle.std.specs.Prelude.{Result, nat_lt, option_to_list}
use Rattle.std.proofs.lemmas.List.{append-nil}
use Rattle.std.proofs.lemmas.Bool.{eqb-true}
use Rattle.fab_base.specs.Ending as endings
use Rattle.fab_base.specs.Ending.{Said, Uses}
use Rattle.fab_base.specs.Seen.{Seen, Nothing, Only}
use Rattle.fab_base.proofs.EndingLemmas.{uses_none, uses_refused, uses_then}
use Rattle.fab_config.specs.Settings.{Settings}
use Rattle.fab_policy.specs.Legal.{window_start}
use Rattle.window_records.specs.Looks.{Spot, Look, look_at, found_at, is_found, behind, looks, stop_in, stop_at, Fails, record_size, LooksFound, LooksEnd, StepsFindStop, MOST_SPAN}
use Rattle.pcap_file.specs.Capture.{Next, Found, End, CutHead, TooLong, CutBytes, next}
use Rattle.pcap_file.specs.Reading.{Reading, Step, Gives, Ends, Stops, step_of, to_come, place_after, Says, NextReads, reader_stand}
use Rattle.pcap_file.specs.Records.{Chain}
use Rattle.pcap_file.specs.declared.Budget.{Budget}
use Rattle.pcap_file.specs.declared.CapError.{CapError}
use Rattle.pcap_file.specs.declared.CapError.TheVariants as errors
use Rattle.pcap_file.specs.declared.Record.{Record}
use Rattle.pcap_file.proofs.lemmas.Chains.{chain_push, last-push, end_is}
use Rattle.pcap_file.proofs.lemmas.Steps.{gives_found, ends_end}
use Rattle.window_records.specs.declared.shelf.Shelf.{Shelf}
use Rattle.pcap_file.specs.declared.fault.LimitKind.TheVariants as limit
use Rattle.pcap_file.specs.declared.fault.GatherFault.TheVariants as fault
use Rattle.pcap_file.specs.Faults.{fault_by, gather_end, IsStopped}
use Rattle.window_records.specs.Port.{IsReady, Spends, Taking, TakesWindow, StopsIn, AreOf, AreIn, Pass, is_in, spot_of, to_look, LeavesPort, stand_at, port_walk_at}
use Rattle.window_records.proofs.LeavesLemmas.{gave_more, gave_end, gave_broken, place-push}
use Rattle.window_records.proofs.UsesLemmas.{next_uses, failed_uses}

-- ---- lists

pub are_of-push : (port w : ℕ) (made : List Look) (x : Look) → AreOf port w made → x.port ≡ port → x.window ≡ Some w → AreOf port w (made ++ x ∷ [])
are_of-push port w [] x h p q = (p, q, tt)
are_of-push port w (y ∷ made) x h p q = (h.0, h.1, are_of-push port w made x h.2 p q)

are_in-push : (c : Settings) (w : ℕ) (more : List Record) (r : Record) → AreIn c w more → window_start c r.moment ≡ w → AreIn c w (more ++ r ∷ [])
are_in-push c w [] r h e = (e, tt)
are_in-push c w (x ∷ more) r h e = (h.0, are_in-push c w more r h.1 e)

-- a record that is there and belongs to the window
pub record There (c : Settings) (w : ℕ) (next : Option Record) : Type 0 where
  pub r : Record
  pub is : next ≡ Some r
  pub window : window_start c r.moment ≡ w

pub there : (c : Settings) (w : ℕ) (next : Option Record) → is_in c next w ≡ true → There c w next
there c w None e = absurd (cc)
there c w (Some r) e = record { r = r; is = refl; window = eqb-true (window_start c r.moment) w e }

-- ---- what an error says

-- an error that stands in the capture
abbrev pub IsOfCapture : CapError → Type 0
IsOfCapture (errors.Cut at) = Unit {0}
IsOfCapture (errors.TooLong at len) = Unit {0}
IsOfCapture errors.Bytes = Unit {0}
IsOfCapture errors.Frames = Unit {0}
IsOfCapture (errors.Read f) = ⊥
IsOfCapture errors.Memory = ⊥

pub says_at : (step : Step) (rest : List ℕ) (q : CapError) → IsOfCapture q → Says step rest (Err q) → step ≡ Stops q
says_at step rest (errors.Cut at) own says = says
says_at step rest (errors.TooLong at len) own says = says
says_at step rest errors.Bytes own says = says
says_at step rest errors.Frames own says = says
says_at step rest (errors.Read f) own says = absurd own
says_at step rest errors.Memory own says = absurd own

pub own_of : (port : ℕ) (q : CapError) → IsStopped (fault_by q port) → IsOfCapture q
own_of port (errors.Cut at) st = tt
own_of port (errors.TooLong at len) st = tt
own_of port errors.Bytes st = tt
own_of port errors.Frames st = tt
own_of port (errors.Read f) st = absurd st
own_of port errors.Memory st = absurd st

-- a read fault is the depot's
pub never_span : (port : ℕ) (q : CapError) → fault_by q port ≢ fault.Limit limit.Span
never_span port (errors.Cut at) same = absurd (cc)
never_span port (errors.TooLong at len) same = absurd (cc)
never_span port errors.Bytes same = absurd (cc)
never_span port errors.Frames same = absurd (cc)
never_span port (errors.Read f) same = absurd (cc)
never_span port errors.Memory same = absurd (cc)

-- ---- before the first

pub taking_none : (c : Settings) (port w slot : ℕ) (a : Seen) (r : Reading) (s s' : Shelf) (had : Budget) → s'.batch.items ≡ [] → s'.next ≡ s.next → s'.count ≡ s.count → IsReady r s.next s.count had → Taking c port w slot (port_walk_at a r s had) (port_walk_at a r s' had)
taking_none c port w slot a r s s' had empty same count ready = record {
  uses = uses_none (Only (a.name slot)) Nothing a;
  ready = subst (λ (n : ℕ). IsReady r s'.next n had) (sym count) (subst (λ o. IsReady r o s.count had) (sym same) ready);
  spent = record { frames = omega arith; bytes = omega arith };
  in_window = subst (AreIn c w) (sym empty) tt;
  given = [];
  order = append-nil (option_to_list s.next) ∙ ap option_to_list (sym same) ∙ ap (λ l. l ++ option_to_list s'.next) (sym empty);
  count = omega arith;
  head = refl;
  greatest = refl;
  at = refl;
  chain = λ told. refl;
  still = λ e. same ∙ e;
  onward = omega arith;
  ended = λ told some none. absurd (some (sym same ∙ none));
  looks = λ told. ([], (λ i. to_look c port a slot r (sym count i) (sym same i)), tt, λ first rest late. refl);
}

-- ---- one more

-- some look is at the spot, and others behind it
pub some_look : LooksFound → LooksEnd → (c : Settings) (port : ℕ) (s : Spot) (x : Next) → found_at s ≡ x → (others : List Look) × (looks c port s ≡ look_at port s ∷ others)
some_look found end_ c port s (Found moment caught rest) e = (looks c port (behind c s moment caught rest), found c port s moment caught rest e)
some_look found end_ c port s End e = ([], end_ c port s (ap is_found e))
some_look found end_ c port s CutHead e = ([], end_ c port s (ap is_found e))
some_look found end_ c port s (TooLong len) e = ([], end_ c port s (ap is_found e))
some_look found end_ c port s (CutBytes len) e = ([], end_ c port s (ap is_found e))

module _ (found_law : LooksFound) (end_law : LooksEnd) (steps : StepsFindStop) (c : Settings) (port w slot : ℕ) (a b d : Seen) (r r1 r2 : Reading) (s s1 : Shelf) (had mid left : Budget) (is_open : IsTrue (a.input slot)) (t : Taking c port w slot (port_walk_at a r s had) (port_walk_at b r1 s1 mid)) (own : There c w s1.next) where
  name_is : b.name slot ≡ a.name slot
  name_is = (t.uses.touches.slots slot (inl is_open)).name

  told_b : IsTrue a.told → IsTrue b.told
  told_b told = subst IsTrue (sym t.uses.touches.told) told

  uses_on : (end : endings.End) → Uses (Only (b.name slot)) Nothing end b d → Uses (Only (a.name slot)) Nothing end a d
  uses_on end more = uses_then (Only (a.name slot)) Nothing end a b d t.uses (subst (λ n. Uses (Only n) Nothing end b d) name_is more)

  abbrev spot : Spot
  spot = spot_of b slot r1 s1.count (Some w)

  -- the looks to come, from the spot on
  at_spot : to_look c port b slot r1 s1.count s1.next ≡ looks c port spot
  at_spot = ap (λ o. to_look c port b slot r1 s1.count o) own.is ∙ ap (λ (v : ℕ). looks c port (spot_of b slot r1 s1.count (Some v))) own.window

  abbrev x : Look
  x = look_at port spot

  -- the first looks, up to x and then others
  module _ (told : IsTrue a.told) (others : List Look) (are : looks c port spot ≡ x ∷ others) where
    pub whole : to_look c port a slot r s.count s.next ≡ (t.looks told).0 ++ x ∷ others
    whole = (t.looks told).1 ∙ ap (λ l. (t.looks told).0 ++ l) (at_spot ∙ are)

    pub whole_push : to_look c port a slot r s.count s.next ≡ ((t.looks told).0 ++ x ∷ []) ++ others
    whole_push = whole ∙ sym (append_assoc (t.looks told).0 (x ∷ []) others)

  made_are : (told : IsTrue a.told) → AreOf port w ((t.looks told).0 ++ x ∷ [])
  made_are told = are_of-push port w (t.looks told).0 x (t.looks told).2 refl refl

  -- one look passes
  abbrev Passes : Type 0
  Passes = (first : ℕ) (rest : List Look) → nat_lt MOST_SPAN (w - first) ≡ false → stop_in first mid.bytes mid.frames (x ∷ rest) ≡ stop_in first left.bytes left.frames rest

  pass_on : (told : IsTrue a.told) → Passes → Pass w ((t.looks told).0 ++ x ∷ []) had left
  pass_on told one = λ first rest late.
      ap (stop_in first had.bytes had.frames) (append_assoc (t.looks told).0 (x ∷ []) rest)
      ∙ (t.looks told).3 first (x ∷ rest) late
      ∙ one first rest late

  module _ (s2 : Shelf) (batch : s2.batch.items ≡ s1.batch.items ++ option_to_list s1.next) where
    shelf_on : s2.batch.items ≡ s1.batch.items ++ own.r ∷ []
    shelf_on = batch ∙ ap (λ o. s1.batch.items ++ option_to_list o) own.is

    in_window_on : AreIn c w s2.batch.items
    in_window_on = subst (AreIn c w) (sym shelf_on) (are_in-push c w s1.batch.items own.r t.in_window own.window)

    -- one more record
    module _ (y : Record) (is_next : s2.next ≡ Some y) (count : s2.count ≡ s1.count + 1) (n : NextReads slot (reader_stand b r1 mid) (reader_stand d r2 left) (Ok (Some y))) where
      head_on : r2.head ≡ r1.head
      head_on = ap (λ (q : Reading). q.head) n.taken.moved

      greatest_on : r2.greatest ≡ y.moment
      greatest_on = ap (λ (q : Reading). q.greatest) n.taken.moved

      at_on : r2.at ≡ place_after r1.at (record_size y.caught)
      at_on = ap (λ (q : Reading). q.at) n.taken.moved

      found : IsTrue a.told → next r1.head r1.greatest (to_come r1 b slot) ≡ Found y.moment y.caught (to_come r2 d slot)
      found told = gives_found mid r1.at (next r1.head r1.greatest (to_come r1 b slot)) y.moment y.caught (to_come r2 d slot) (n.says (told_b told) n.taken.fresh)

      spots : behind c spot y.moment y.caught (to_come r2 d slot) ≡ spot_of d slot r2 s2.count (Some (window_start c y.moment))
      spots = λ i. record {
        head = sym head_on i;
        index = sym count i;
        at = sym at_on i;
        window = Some (window_start c y.moment);
        greatest = sym greatest_on i;
        bytes = to_come r2 d slot;
      }

      looks_on : IsTrue a.told → looks c port spot ≡ x ∷ to_look c port d slot r2 s2.count s2.next
      looks_on told =
          found_law c port spot y.moment y.caught (to_come r2 d slot) (found told)
          ∙ ap (λ q. x ∷ looks c port q) spots
          ∙ ap (λ o. x ∷ to_look c port d slot r2 s2.count o) (sym is_next)

      one : IsTrue a.told → Passes
      one told first rest late =
          let takes = n.taken.bytes in
          let fewer = n.taken.frames in
          let less : mid.bytes - record_size y.caught ≡ left.bytes = omega arith in
          let minus : mid.frames - 1 ≡ left.frames = omega arith in
          steps first mid x rest (Gives y.moment y.caught (to_come r2 d slot)) late (n.says (told_b told) n.taken.fresh)
          ∙ (λ i. stop_in first (less i) (minus i) rest)

      pub taking_more : Taking c port w slot (port_walk_at a r s had) (port_walk_at d r2 s2 left)
      taking_more = record {
        uses = uses_on Said (next_uses slot (reader_stand b r1 mid) (reader_stand d r2 left) (Some y) n);
        ready = record {
          fresh = ap (λ (q : Reading). q.kept) n.taken.moved ∙ n.taken.fresh;
          last = subst (λ o. IfSome o (λ v. r2.greatest ≡ v.moment)) (sym is_next) greatest_on;
          early = subst (λ o. IfSome o (λ v. v.moment < 2 ^ 43)) (sym is_next) n.taken.range;
          few = let p = t.ready.few in let takes = n.taken.frames in omega arith;
        };
        spent = let p = t.spent in let takes = n.taken.bytes in let fewer = n.taken.frames in record { frames = let f = p.frames in omega arith; bytes = let f = p.bytes in omega arith };
        in_window = in_window_on;
        given = t.given ++ y ∷ [];
        order =
            sym (append_assoc (option_to_list s.next) t.given (y ∷ []))
            ∙ ap (λ l. l ++ y ∷ []) (t.order ∙ ap (λ o. s1.batch.items ++ option_to_list o) own.is ∙ sym shelf_on)
            ∙ ap (λ o. s2.batch.items ++ option_to_list o) (sym is_next);
        count = let k = t.count in let l = length-append t.given (y ∷ []) in omega arith;
        head = head_on ∙ t.head;
        greatest = greatest_on ∙ sym (last-push r.greatest t.given y);
        at = at_on ∙ ap (λ (m : ℕ). place_after m (record_size y.caught)) t.at ∙ sym (place-push r.at t.given y);
        chain = λ told.
            chain_push r.head r.greatest t.given y (to_come r a slot) (to_come r1 b slot) (to_come r2 d slot) (t.chain told)
            ((λ i. next (sym t.head i) (sym t.greatest i) (to_come r1 b slot)) ∙ found told);
        still = λ e. let none : Some own.r ≡ None = sym own.is ∙ t.still e in absurd (cc);
        onward = let g = greatest_on in let f = t.onward in let h = n.taken.onward in omega arith;
        ended = λ told some none. let e : Some y ≡ None = sym is_next ∙ none in absurd (cc);
        looks = λ told. (
          (t.looks told).0 ++ x ∷ [],
          whole_push told (to_look c port d slot r2 s2.count s2.next) (looks_on told),
          made_are told,
          pass_on told (one told),
        );
      }

    -- the end
    module _ (is_next : s2.next ≡ None) (count : s2.count ≡ s1.count) (n : NextReads slot (reader_stand b r1 mid) (reader_stand d r2 left) (Ok None)) where
      ends : IsTrue a.told → found_at spot ≡ End
      ends told = ends_end mid r1.at (found_at spot) (n.says (told_b told) n.taken.fresh).0

      same_budget : left ≡ mid
      same_budget = n.taken.budget

      end_looks : IsTrue a.told → looks c port spot ≡ x ∷ to_look c port d slot r2 s2.count s2.next
      end_looks told = end_law c port spot (ap is_found (ends told)) ∙ ap (λ o. x ∷ to_look c port d slot r2 s2.count o) (sym is_next)

      end_one : IsTrue a.told → Passes
      end_one told first rest late =
          steps first mid x rest Ends late (n.says (told_b told) n.taken.fresh).0 ∙ ap (λ (q : Budget). stop_in first q.bytes q.frames rest) (sym same_budget)

      pub taking_end : Taking c port w slot (port_walk_at a r s had) (port_walk_at d r2 s2 left)
      taking_end =
          let same = n.taken.same in
          record {
            uses = uses_on Said (next_uses slot (reader_stand b r1 mid) (reader_stand d r2 left) None n);
            ready = record {
              fresh = ap (λ (q : Reading). q.kept) same ∙ n.taken.fresh;
              last = subst (λ o. IfSome o (λ v. r2.greatest ≡ v.moment)) (sym is_next) tt;
              early = subst (λ o. IfSome o (λ v. v.moment < 2 ^ 43)) (sym is_next) tt;
              few = let p = t.ready.few in let f = ap (λ (q : Budget). q.frames) same_budget in omega arith;
            };
            spent = subst (λ q. Spends had q s.count s2.count) (sym same_budget) (subst (λ (k : ℕ). Spends had mid s.count k) (sym count) t.spent);
            in_window = in_window_on;
            given = t.given;
            order = t.order ∙ ap (λ o. s1.batch.items ++ option_to_list o) own.is ∙ sym shelf_on ∙ sym (append-nil s2.batch.items) ∙ ap (λ o. s2.batch.items ++ option_to_list o) (sym is_next);
            count = count ∙ t.count;
            head = ap (λ (q : Reading). q.head) same ∙ t.head;
            greatest = ap (λ (q : Reading). q.greatest) same ∙ t.greatest;
            at = ap (λ (q : Reading). q.at) same ∙ t.at;
            chain = λ told.
                let none = (n.says (told_b told) n.taken.fresh).1 in
                let was = nothing_left (ends told) in
                subst (λ l. Chain r.head r.greatest t.given (to_come r a slot) l) (was ∙ sym none) (t.chain told);
            still = λ e. is_next;
            onward = let g : r2.greatest ≡ r1.greatest = ap (λ (q : Reading). q.greatest) same in let f = t.onward in omega arith;
            ended = λ told some empty. (n.says (told_b told) n.taken.fresh).1;
            looks = λ told. (
              (t.looks told).0 ++ x ∷ [],
              whole_push told (to_look c port d slot r2 s2.count s2.next) (end_looks told),
              made_are told,
              pass_on told (end_one told),
            );
          }
        where
          nothing_left : found_at spot ≡ End → to_come r1 b slot ≡ []
          nothing_left e = end_is r1.head r1.greatest (to_come r1 b slot) e

  -- the answer of the reader, put on the shelf
  pub taking_pushed : (o : Option Record) (s2 : Shelf) → s2.batch.items ≡ s1.batch.items ++ option_to_list s1.next → s2.next ≡ o → s2.count ≡ s1.count + length (option_to_list o) →
      NextReads slot (reader_stand b r1 mid) (reader_stand d r2 left) (Ok o) → Taking c port w slot (port_walk_at a r s had) (port_walk_at d r2 s2 left)
  taking_pushed None s2 batch next count n = taking_end s2 batch next (let k = count in omega arith) n
  taking_pushed (Some y) s2 batch next count n = taking_more s2 batch y next count n

  pub push_fits : (o : Option Record) → NextReads slot (reader_stand b r1 mid) (reader_stand d r2 left) (Ok o) → s1.count + length (option_to_list o) < 2 ^ 64
  push_fits None n = let f = t.ready.few in omega arith
  push_fits (Some y) n = let f = t.ready.few in let k = n.taken.frames in omega arith

  pub push_smaller : (o : Option Record) → NextReads slot (reader_stand b r1 mid) (reader_stand d r2 left) (Ok o) → 2 * left.frames + length (option_to_list o) < 2 * mid.frames + length (option_to_list s1.next)
  push_smaller o n = let is = ap (λ q. length (option_to_list q)) own.is in by_next o n is
    where
      by_next : (o : Option Record) → NextReads slot (reader_stand b r1 mid) (reader_stand d r2 left) (Ok o) → length (option_to_list s1.next) ≡ 1 → 2 * left.frames + length (option_to_list o) < 2 * mid.frames + length (option_to_list s1.next)
      by_next None n is = let f = ap (λ (q : Budget). q.frames) n.taken.budget in omega arith
      by_next (Some y) n is = let k = n.taken.frames in omega arith

  -- memory is refused for the record that was looked at
  pub taking_lost : (o : Option Record) (s2 : Shelf) → s2.batch.items ≡ s1.batch.items → s2.next ≡ o → s2.count ≡ s1.count + length (option_to_list o) →
      NextReads slot (reader_stand b r1 mid) (reader_stand d r2 left) (Ok o) → TakesWindow c port w slot (port_walk_at a r s had) (port_walk_at d r2 s2 left) (Err fault.Memory)
  taking_lost o s2 batch next count n = record {
    uses = uses_refused (Only (a.name slot)) Nothing a d (uses_on Said (next_uses slot (reader_stand b r1 mid) (reader_stand d r2 left) o n));
    taking = tt;
    beyond = tt;
    stops = λ told st. absurd st;
    leaves = by_next o next count n;
    in_span = λ same. absurd (cc);
    fails = λ other. absurd (other refl);
  }
    where
      one : length (own.r ∷ []) ≤ 1
      one = omega arith

      by_next : (o : Option Record) → s2.next ≡ o → s2.count ≡ s1.count + length (option_to_list o) → NextReads slot (reader_stand b r1 mid) (reader_stand d r2 left) (Ok o) → LeavesPort c w (stand_at a (record { slot = slot; reader = r }) s) (stand_at d (record { slot = slot; reader = r2 }) s2) × Spends had left s.count s2.count
      by_next None next count n = (
        record {
          given = t.given;
          gave = gave_end slot a b d r r1 r2 t.given mid left told_b t.head t.greatest t.at t.chain n;
          count = let k = t.count in omega arith;
          shelf = inr (record {
            in_window = subst (AreIn c w) (sym batch) t.in_window;
            lost = own.r ∷ [];
            order = t.order ∙ sym (append-nil (s1.batch.items ++ option_to_list s1.next)) ∙ (λ i. (sym batch i ++ option_to_list (own.is i)) ++ option_to_list (sym next i));
            last = one;
          });
        },
        let p = t.spent in
            let f = ap (λ (q : Budget). q.frames) n.taken.budget in
            let g = ap (λ (q : Budget). q.bytes) n.taken.budget in
            record { frames = let x = p.frames in omega arith; bytes = let x = p.bytes in omega arith },
      )
      by_next (Some y) next count n = (
        record {
          given = t.given ++ y ∷ [];
          gave = gave_more slot a b d r r1 r2 t.given mid left told_b t.head t.greatest t.at t.chain y n;
          count = let k = t.count in let l = length-append t.given (y ∷ []) in omega arith;
          shelf = inr (record {
            in_window = subst (AreIn c w) (sym batch) t.in_window;
            lost = own.r ∷ [];
            order =
                sym (append_assoc (option_to_list s.next) t.given (y ∷ []))
                ∙ ap (λ l. l ++ y ∷ []) t.order
                ∙ (λ i. (sym batch i ++ option_to_list (own.is i)) ++ option_to_list (sym next i));
            last = one;
          });
        },
        let p = t.spent in
            let takes = n.taken.bytes in
            let fewer = n.taken.frames in
            record { frames = let x = p.frames in omega arith; bytes = let x = p.bytes in omega arith },
      )

  -- an error
  module _ (r' : Reading) (e : CapError) (n : NextReads slot (reader_stand b r1 mid) (reader_stand d r' left) (Err e)) where
    fresh : r1.kept ≡ None
    fresh = t.ready.fresh

    stops_with : IsTrue a.told → step_of mid r1.at (found_at spot) ≡ Stops e → StopsIn port w had (to_look c port a slot r s.count s.next) (fault_by e port)
    stops_with told is =
        let more = some_look found_law end_law c port spot (found_at spot) refl in
        record {
          made = (t.looks told).0;
          failing = x;
          behind = more.0;
          are = whole told more.0 more.1;
          before = (t.looks told).2;
          at = (refl, refl);
          says = λ first rest late.
              let f = steps first mid x rest (Stops e) late is in (
                stop_at (Fails f.0) x,
                (t.looks told).3 first (x ∷ rest) late ∙ f.2,
                ap (λ q. fault_by q port) (sym f.1),
                refl,
              );
        }

    pub taking_failed : TakesWindow c port w slot (port_walk_at a r s had) (port_walk_at d r' s1 left) (Err (fault_by e port))
    taking_failed = record {
      uses = uses_on (gather_end (fault_by e port)) (failed_uses slot (reader_stand b r1 mid) (reader_stand d r' left) port fresh e n);
      taking = tt;
      beyond = tt;
      stops = λ told st. stops_with told (says_at (step_of mid r1.at (found_at spot)) (to_come r' d slot) e (own_of port e st) (n.says (told_b told) fresh));
      leaves = (
        record {
          given = t.given;
          gave = gave_broken slot a b d r r1 r' t.given mid left told_b t.head t.greatest t.at t.chain e n;
          count = t.count;
          shelf = inr (record {
            in_window = t.in_window;
            lost = [];
            order = t.order ∙ ap (λ l. l ++ option_to_list s1.next) (sym (append-nil s1.batch.items));
            last = omega arith;
          });
        },
        subst (λ q. Spends had q s.count s1.count) (sym n.kept.budget) t.spent,
      );
      in_span = never_span port e;
      fails = λ other. (e, ap (λ (q : Reading). q.kept) n.kept.kept, refl);
    }

pub next_at : {s t : ℕ} {a b : Seen} {r r' : Reading} {had left : Budget} {x : Result (Option Record) CapError} → s ≡ t → NextReads s (reader_stand a r had) (reader_stand b r' left) x → NextReads t (reader_stand a r had) (reader_stand b r' left) x
next_at {s} {t} {a} {b} {r} {r'} {had} {left} {x} is n = subst (λ m. NextReads m (reader_stand a r had) (reader_stand b r' left) x) is n
