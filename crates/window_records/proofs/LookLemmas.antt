-- The look at the first record of a port.
use Rattle.std.proofs.Common.{◌≡◌, ℕ, ◌-◌, ◌^◌, ◌<◌, Bool, ◌∷◌, length, Option, Some, None, IfSome, Ok, Err, IsTrue, refl, sym, ap, ◌∙◌, subst, arith}
use Rattle.std.specs.Prelude.{option_to_list, is_some}
use Rattle.std.specs.Int.{from_bool}
use Rattle.fab_base.specs.Seen.{Seen}
use Rattle.fab_config.specs.Settings.{Settings}
use Rattle.fab_policy.specs.Legal.{window_start}
use Rattle.window_records.specs.Looks.{Opened, Look, found_at, is_found, behind, looks, first_spot, stop_in, stop_at, Fails, record_size, LooksFound, LooksEnd, StepsFindStop}
use Rattle.pcap_file.specs.Capture.{HEAD, Found, End, next}
use Rattle.pcap_file.specs.Reading.{Reading, Step, Gives, Ends, Stops, step_of, to_come, place_after, NextReads, reader_stand}
use Rattle.pcap_file.specs.Records.{Chain, last_moment}
use Rattle.pcap_file.specs.declared.Budget.{Budget}
use Rattle.pcap_file.specs.declared.CapError.{CapError}
use Rattle.pcap_file.specs.declared.Record.{Record}
use Rattle.pcap_file.proofs.lemmas.Chains.{end_is}
use Rattle.pcap_file.proofs.lemmas.Steps.{gives_found, ends_end}
use Rattle.window_records.specs.declared.shelf.Shelf.{Shelf}
use Rattle.window_records.specs.First.{IsFresh, opened_by, first_look, Looked, LooksOnce}
use Rattle.pcap_file.specs.Faults.{fault_by}
use Rattle.window_records.specs.Port.{to_look, spot_of, place_behind}
use Rattle.window_records.proofs.LeavesLemmas.{gave_failed}
use Rattle.window_records.proofs.PortLemmas.{some_look, says_at, own_of}
use Rattle.window_records.proofs.UsesLemmas.{next_uses, failed_uses}

-- one record is looked at, or none
pub count_is : (next : Option Record) (some : Bool) (n : ℕ) → some ≡ is_some next → n ≡ from_bool some → n ≡ length (option_to_list next)
count_is None some n e f = f ∙ ap from_bool e
count_is (Some x) some n e f = f ∙ ap from_bool e

-- ---- one port

module _ (found_law : LooksFound) (end_law : LooksEnd) (steps : StepsFindStop) (c : Settings) (port slot : ℕ) (a b : Seen) (r r' : Reading) (had left : Budget) (is_fresh : IsFresh r) (room : had.frames < 2 ^ 64) where
  abbrev o : Opened
  o = opened_by a slot r

  abbrev x : Look
  x = first_look port o

  -- the reader's step is the step at the first look
  at_first : (step : Step) → step_of had r.at (next r.head r.greatest (to_come r a slot)) ≡ step → step_of had x.at x.found ≡ step
  at_first step e = (λ i. step_of had (sym is_fresh.at i) (next r.head (sym is_fresh.greatest i) (to_come r a slot))) ∙ e

  -- a record
  module _ (y : Record) (s : Shelf) (is_next : s.next ≡ Some y) (count : s.count ≡ 1) (n : NextReads slot (reader_stand a r had) (reader_stand b r' left) (Ok (Some y))) where
    head_on : r'.head ≡ r.head
    head_on = ap (λ (q : Reading). q.head) n.taken.moved

    greatest_on : r'.greatest ≡ y.moment
    greatest_on = ap (λ (q : Reading). q.greatest) n.taken.moved

    at_on : r'.at ≡ place_after HEAD (record_size y.caught)
    at_on = ap (λ (q : Reading). q.at) n.taken.moved ∙ ap (λ (p : ℕ). place_after p (record_size y.caught)) is_fresh.at

    step_is : IsTrue a.told → step_of had x.at x.found ≡ Gives y.moment y.caught (to_come r' b slot)
    step_is told = at_first (Gives y.moment y.caught (to_come r' b slot)) (n.says told n.taken.fresh)

    found : IsTrue a.told → x.found ≡ Found y.moment y.caught (to_come r' b slot)
    found told = gives_found had x.at x.found y.moment y.caught (to_come r' b slot) (step_is told)

    spots : behind c (first_spot o) y.moment y.caught (to_come r' b slot) ≡ spot_of b slot r' s.count (Some (window_start c y.moment))
    spots = λ i. record {
      head = sym head_on i;
      index = sym count i;
      at = sym at_on i;
      window = Some (window_start c y.moment);
      greatest = sym greatest_on i;
      bytes = to_come r' b slot;
    }

    pub looked_more : Looked c port slot (reader_stand a r had) (reader_stand b r' left) s
    looked_more = record {
      ready = record {
        fresh = ap (λ (q : Reading). q.kept) n.taken.moved ∙ n.taken.fresh;
        last = subst (λ z. IfSome z (λ v. r'.greatest ≡ v.moment)) (sym is_next) greatest_on;
        early = subst (λ z. IfSome z (λ v. v.moment < 2 ^ 43)) (sym is_next) n.taken.range;
        few = let takes = n.taken.frames in omega (arith, takes, room);
      };
      spent = let takes = n.taken.bytes in let fewer = n.taken.frames in record { frames = omega arith; bytes = omega arith };
      count = count ∙ ap (λ z. length (option_to_list z)) (sym is_next);
      head = head_on;
      greatest = greatest_on ∙ ap (λ z. last_moment 0 (option_to_list z)) (sym is_next);
      at = ap (λ (q : Reading). q.at) n.taken.moved ∙ ap (λ z. place_behind r.at (option_to_list z)) (sym is_next);
      chain = λ told.
          subst (λ z. Chain r.head 0 (option_to_list z) (to_come r a slot) (to_come r' b slot)) (sym is_next) (to_come r' b slot, found told, refl);
      ended = λ told none. let e : Some y ≡ None = sym is_next ∙ none in absurd (cc);
      looks_ = λ told.
          found_law c port (first_spot o) y.moment y.caught (to_come r' b slot) (found told)
          ∙ ap (λ q. x ∷ looks c port q) spots
          ∙ ap (λ z. x ∷ to_look c port b slot r' s.count z) (sym is_next);
      passes = λ told first rest.
          let takes = n.taken.bytes in
          let fewer = n.taken.frames in
          let less : had.bytes - record_size y.caught ≡ left.bytes = omega arith in
          let minus : had.frames - 1 ≡ left.frames = omega arith in
          steps first had x rest (Gives y.moment y.caught (to_come r' b slot)) refl (step_is told) ∙ (λ i. stop_in first (less i) (minus i) rest);
    }

  -- the end
  module _ (s : Shelf) (is_next : s.next ≡ None) (count : s.count ≡ 0) (n : NextReads slot (reader_stand a r had) (reader_stand b r' left) (Ok None)) where
    end_is_step : IsTrue a.told → step_of had x.at x.found ≡ Ends
    end_is_step told = at_first Ends (n.says told n.taken.fresh).0

    ends : IsTrue a.told → x.found ≡ End
    ends told = ends_end had x.at x.found (end_is_step told)

    pub looked_end : Looked c port slot (reader_stand a r had) (reader_stand b r' left) s
    looked_end =
        let same = n.taken.same in
        let budget = n.taken.budget in
        let bytes : left.bytes ≡ had.bytes = ap (λ (q : Budget). q.bytes) budget in
        let fewer : left.frames ≡ had.frames = ap (λ (q : Budget). q.frames) budget in
        record {
          ready = record {
            fresh = ap (λ (q : Reading). q.kept) same ∙ n.taken.fresh;
            last = subst (λ z. IfSome z (λ v. r'.greatest ≡ v.moment)) (sym is_next) tt;
            early = subst (λ z. IfSome z (λ v. v.moment < 2 ^ 43)) (sym is_next) tt;
            few = omega (arith, fewer, count, room);
          };
          spent = record { frames = omega arith; bytes = omega arith };
          count = count ∙ ap (λ z. length (option_to_list z)) (sym is_next);
          head = ap (λ (q : Reading). q.head) same;
          greatest = ap (λ (q : Reading). q.greatest) same ∙ is_fresh.greatest ∙ ap (λ z. last_moment 0 (option_to_list z)) (sym is_next);
          at = ap (λ (q : Reading). q.at) same ∙ ap (λ z. place_behind r.at (option_to_list z)) (sym is_next);
          chain = λ told.
              let none = (n.says told n.taken.fresh).1 in
              let was = end_is r.head 0 (to_come r a slot) (ends told) in
              subst (λ z. Chain r.head 0 (option_to_list z) (to_come r a slot) (to_come r' b slot)) (sym is_next) (was ∙ sym none);
          ended = λ told empty. (n.says told n.taken.fresh).1;
          looks_ = λ told. end_law c port (first_spot o) (ap is_found (ends told)) ∙ ap (λ z. x ∷ to_look c port b slot r' s.count z) (sym is_next);
          passes = λ told first rest. steps first had x rest Ends refl (end_is_step told) ∙ ap (λ (q : Budget). stop_in first q.bytes q.frames rest) (sym budget);
        }

  pub looked : (next : Option Record) (s : Shelf) → s.next ≡ next → s.count ≡ length (option_to_list next) → NextReads slot (reader_stand a r had) (reader_stand b r' left) (Ok next) → LooksOnce c port slot (reader_stand a r had) (reader_stand b r' left) (Ok s)
  looked next s is count n = record { uses = next_uses slot (reader_stand a r had) (reader_stand b r' left) next n; looked = by_next next is count n; stops = λ told. tt; leaves = tt; fails = tt }
    where
      by_next : (next : Option Record) → s.next ≡ next → s.count ≡ length (option_to_list next) → NextReads slot (reader_stand a r had) (reader_stand b r' left) (Ok next) → Looked c port slot (reader_stand a r had) (reader_stand b r' left) s
      by_next None is count n = looked_end s is count n
      by_next (Some y) is count n = looked_more y s is count n

  -- an error
  pub looked_failed : (e : CapError) → NextReads slot (reader_stand a r had) (reader_stand b r' left) (Err e) → LooksOnce c port slot (reader_stand a r had) (reader_stand b r' left) (Err (fault_by e port))
  looked_failed e n = record {
    uses = failed_uses slot (reader_stand a r had) (reader_stand b r' left) port is_fresh.kept e n;
    looked = tt;
    leaves = (gave_failed slot a b r r' had left e n.kept, n.kept.budget);
    fails = (e, ap (λ (q : Reading). q.kept) n.kept.kept, refl);
    stops = λ told st.
        let is = at_first (Stops e) (says_at _ (to_come r' b slot) e (own_of port e st) (n.says told is_fresh.kept)) in
        let more = some_look found_law end_law c port (first_spot o) (found_at (first_spot o)) refl in
        record {
          behind = more.0;
          are = more.1;
          says = λ first rest. let f = steps first had x rest (Stops e) refl is in (stop_at (Fails f.0) x, f.2, ap (λ q. fault_by q port) (sym f.1), refl);
        };
  }
