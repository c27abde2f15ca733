-- A capture is read whole, record by record.
use Rattle.std.proofs.Common.{◌≡◌, ℕ, zero, suc, ◌+◌, ◌-◌, ◌^◌, ◌<◌, ◌≤◌, min, cond, inl, inr, drop, length-drop, List, [], ◌∷◌, ◌++◌, length, length-append, append_assoc, append-nil, Option, Some, None, Ok, Err, IsTrue, refl, sym, ◌∙◌, ap, subst, arith}
use Rattle.std.specs.Prelude.{Result, IsErrOf, IfOk, IfErr}
use Rattle.std.proofs.lemmas.Bool.{le-ltb, lt-ltb}
use Rattle.pcap_file.proofs.lemmas.Numbers.{le_or_lt}
use Rattle.fab_base.specs.Ending as ending
use Rattle.fab_base.specs.Ending.{CountsRead, Uses, end_by}
use Rattle.fab_base.specs.Seen.{Seen, Reads, Rose, Nothing, Only}
use Rattle.fab_base.specs.declared.values.Caught.{Caught}
use Rattle.fab_base.proofs.EndingLemmas.{uses_read, uses_then}
use Rattle.fab_base.proofs.SeenLemmas.{reads_refl, reads_trans, input_stays, input_name, told_stays, rose_later}
use Rattle.pcap_file.specs.declared.Budget.{Budget}
use Rattle.pcap_file.specs.declared.CaptureHead.{CaptureHead}
use Rattle.pcap_file.specs.declared.CapError.{CapError}
use Rattle.pcap_file.specs.declared.CapFault.{CapFault}
use Rattle.pcap_file.specs.declared.CapOpen.{CapOpen}
use Rattle.pcap_file.specs.declared.CapOpen.TheVariants as opens
use Rattle.pcap_file.specs.declared.CapError.TheVariants as errors
use Rattle.pcap_file.specs.declared.Record.{Record}
use Rattle.pcap_file.specs.Capture.{RECORD_HEAD, next, head_decoded}
use Rattle.pcap_file.specs.Reading.{Reading, to_come, Step, Gives, Ends, Stops, step_of, Says, NextReads, OpensReader, reader_stand}
use Rattle.pcap_file.specs.Records.{Ascends}
use Rattle.pcap_file.proofs.lemmas.Steps.{gives_found}
use Rattle.pcap_file.proofs.lemmas.Chains.{found_stands, last-push, ascends-push}
use Rattle.pcap_file.specs.declared.fault.LimitKind.TheVariants as limit
use Rattle.pcap_file.specs.declared.fault.GatherFault.{GatherFault}
use Rattle.pcap_file.specs.declared.fault.GatherFault.TheVariants as faults
use Rattle.pcap_file.specs.Faults.{fault_by, open_fault_by, gather_end, IsStopped}
use Rattle.pcap_file.specs.Captures.{Taken, unless_stopped, without_head, without_record, body_by, capture_by, with_record, by_step, records_by, AreFit, in_front, to_take, ReadsCapture, ReadsRecords, SoFar}

in_front_none : (t : Result Taken GatherFault) → in_front [] t ≡ t
in_front_none (Err e) = refl
in_front_none (Ok t) = refl

in_front_more : (records : List Record) (x : Record) (t : Result Taken GatherFault) → in_front records (unless_stopped t (with_record x)) ≡ in_front (records ++ x ∷ []) t
in_front_more records x (Err e) = refl
in_front_more records x (Ok t) = ap (λ rs. Ok (record { records = rs; left = t.left })) (sym (append_assoc records (x ∷ []) t.records))

fit_push : (records : List Record) (x : Record) → AreFit records → x.moment < 2 ^ 43 → length x.caught.bytes ≤ 65535 → AreFit (records ++ x ∷ [])
fit_push [] x fit range stored = (range, stored, tt)
fit_push (r ∷ records) x fit range stored = (fit.0, fit.1, fit_push records x fit.2 range stored)

same_budget : (x y : Budget) → x.bytes ≡ y.bytes → x.frames ≡ y.frames → x ≡ y
same_budget x y bytes frames = ap (λ n. record { bytes = n; frames = x.frames }) bytes ∙ ap (λ n. record { bytes = y.bytes; frames = n }) frames

-- a step that stops, of an error that stands in the capture
stops_by : (step : Step) (rest : List ℕ) (e : CapError) (port : ℕ) → Says step rest (Err e) → IsStopped (fault_by e port) → step ≡ Stops e
stops_by step rest (errors.Cut at) port says stopped = says
stops_by step rest (errors.TooLong at len) port says stopped = says
stops_by step rest errors.Bytes port says stopped = says
stops_by step rest errors.Frames port says stopped = says
stops_by step rest (errors.Read failed) port says stopped = absurd stopped
stops_by step rest errors.Memory port says stopped = absurd stopped

module _ (port slot : ℕ) (a : Seen) (r : Reading) (had : Budget) where
  pub so_far_none : IsTrue (a.input slot) → r.kept ≡ None → r.at + had.bytes < 2 ^ 64 → SoFar port slot (reader_stand a r had) (reader_stand a r had) []
  so_far_none input fresh place = record {
    reads = reads_refl (a.name slot) a;
    input = input;
    name = refl;
    fresh = fresh;
    place = place;
    fit = tt;
    frames = omega arith;
    bytes = omega arith;
    ascends = tt;
    last = refl;
    taken = λ told n less. (n, less, sym (in_front_none (to_take n port slot (reader_stand a r had))));
    counts = λ m. refl;
  }

  module _ (b c : Seen) (s t : Reading) (left now : Budget) (records : List Record) (f : SoFar port slot (reader_stand a r had) (reader_stand b s left) records) where
    told_b : IsTrue a.told → IsTrue b.told
    told_b told = told_stays (a.name slot) a b f.reads.keeps told

    reads_c : {x : Result (Option Record) CapError} → NextReads slot (reader_stand b s left) (reader_stand c t now) x → Reads (a.name slot) a c
    reads_c n = reads_trans (a.name slot) a b c f.reads (subst (λ m. Reads m b c) f.name n.reads)

    -- a call that takes nothing leaves no more of the limits than there was
    no_more : now ≡ left → (now.bytes ≤ had.bytes) × (now.frames ≤ had.frames)
    no_more same = (omega (arith, f.bytes, ap (λ (z : Budget). z.bytes) same), omega (arith, f.frames, ap (λ (z : Budget). z.frames) same))

    -- the step that the next call answers
    abbrev step_b : Step
    step_b = step_of left s.at (next s.head s.greatest (to_come s b slot))

    abbrev more_b : ℕ → ℕ → Caught → List ℕ → Result Taken GatherFault
    more_b m moment caught rest = records_by m port s.head (s.at + (RECORD_HEAD + length caught.bytes)) moment (without_record left caught) rest

    stepped : (x : Record) (whole : Result Taken GatherFault) (rest : List ℕ) (t : Reading) (now : Budget) → step_b ≡ Gives x.moment x.caught (to_come t c slot) → length (to_come s b slot) ≡ 16 + length x.caught.bytes + length (to_come t c slot)
        → ((q : ℕ) → more_b q x.moment x.caught (to_come t c slot) ≡ to_take q port slot (reader_stand c t now))
        → (q : ℕ) → length (to_come s b slot) < q → whole ≡ in_front records (to_take q port slot (reader_stand b s left))
        → (q : ℕ) × (length (to_come t c slot) < q) × (whole ≡ in_front (records ++ x ∷ []) (to_take q port slot (reader_stand c t now)))
    stepped x whole rest t now gives size same zero less e = absurd (omega (arith, less))
    stepped x whole rest t now gives size same (suc q) less e = (
      q,
      omega (arith, less, size),
      e ∙ ap (λ z. in_front records (by_step (more_b q) port left z)) gives ∙ in_front_more records x (more_b q x.moment x.caught (to_come t c slot)) ∙ ap (in_front (records ++ x ∷ [])) (same q),
    )

    -- one record more
    pub so_far_more : (x : Record) → NextReads slot (reader_stand b s left) (reader_stand c t now) (Ok (Some x)) → SoFar port slot (reader_stand a r had) (reader_stand c t now) (records ++ x ∷ [])
    so_far_more x n =
        let k = n.taken in
        let at : t.at ≡ min (s.at + (16 + length x.caught.bytes)) (2 ^ 64 - 1) = ap (λ (q : Reading). q.at) k.moved in
        let greatest : t.greatest ≡ x.moment = ap (λ (q : Reading). q.greatest) k.moved in
        let head : t.head ≡ s.head = ap (λ (q : Reading). q.head) k.moved in
        let kept = subst (λ m. Reads m b c) f.name n.reads in
        record {
          reads = reads_c n;
          input = input_stays (a.name slot) b c kept.keeps slot f.input;
          name = input_name (a.name slot) b c kept.keeps slot f.input ∙ f.name;
          fresh = ap (λ (q : Reading). q.kept) k.moved ∙ k.fresh;
          place = omega (arith, f.place, k.bytes, at);
          fit = fit_push records x f.fit k.range k.stored;
          frames = let more = length-append records (x ∷ []) in let was = f.frames in omega (arith, k.frames);
          bytes = omega (arith, f.bytes, k.bytes);
          ascends = ascends-push r.greatest records x f.ascends (subst (λ m. m ≤ x.moment) f.last k.onward);
          last = greatest ∙ sym (last-push r.greatest records x);
          taken = λ told m less.
              let h = f.taken told m less in
              let gives : step_b ≡ Gives x.moment x.caught (to_come t c slot) = n.says (told_b told) f.fresh in
              let size = (found_stands s.head s.greatest (to_come s b slot) x.moment x.caught (to_come t c slot) (gives_found left s.at (next s.head s.greatest (to_come s b slot)) x.moment x.caught (to_come t c slot) gives)).size in
              let place : s.at + (16 + length x.caught.bytes) ≡ t.at = omega (arith, f.place, k.bytes, at) in
              let budget : without_record left x.caught ≡ now = same_budget (without_record left x.caught) now (omega (arith, k.bytes)) (omega (arith, k.frames)) in
              let same : (q : ℕ) → more_b q x.moment x.caught (to_come t c slot) ≡ to_take q port slot (reader_stand c t now) = λ q.
              ap (λ (z : CaptureHead). records_by q port z (s.at + (RECORD_HEAD + length x.caught.bytes)) x.moment (without_record left x.caught) (to_come t c slot)) (sym head)
              ∙ ap (λ z. records_by q port t.head z x.moment (without_record left x.caught) (to_come t c slot)) place
              ∙ ap (λ z. records_by q port t.head t.at z (without_record left x.caught) (to_come t c slot)) (sym greatest)
              ∙ ap (λ z. records_by q port t.head t.at t.greatest z (to_come t c slot)) budget in
              stepped x (to_take m port slot (reader_stand a r had)) (to_come t c slot) t now gives size same h.0 h.1 h.2;
          counts = λ m. n.counts m ∙ f.counts m;
        }

    -- the last step
    last_step : (step : Step) → step_b ≡ step → (whole : Result Taken GatherFault) (q : ℕ) → length (to_come s b slot) < q → whole ≡ in_front records (to_take q port slot (reader_stand b s left))
        → (m : ℕ) × (whole ≡ in_front records (by_step (more_b m) port left step))
    last_step step is whole zero less e = absurd (omega (arith, less))
    last_step step is whole (suc q) less e = (q, e ∙ ap (λ z. in_front records (by_step (more_b q) port left z)) is)

    pub so_far_ended : NextReads slot (reader_stand b s left) (reader_stand c t now) (Ok None) → ReadsRecords port slot (reader_stand a r had) (reader_stand c t now) (Ok records)
    so_far_ended n = record {
      uses = uses_read (a.name slot) ending.Said a c (reads_c n) (λ m. n.counts m ∙ f.counts m, (reads_c n).writes);
      fit = (f.fit, f.ascends);
      frames = ap (λ (z : Budget). z.frames + length records) n.taken.budget ∙ f.frames;
      limits = no_more n.taken.budget;
      taken = λ told m less.
          let h = f.taken told m less in
          let end = last_step Ends (n.says (told_b told) f.fresh).0 (to_take m port slot (reader_stand a r had)) h.0 h.1 h.2 in
          end.1 ∙ ap (λ rs. Ok (record { records = rs; left = left })) (append-nil records) ∙ ap (λ z. Ok (record { records = records; left = z })) (sym n.taken.budget);
      stops = λ told m less. tt;
    }

    failed_counts : (e : CapError) → NextReads slot (reader_stand b s left) (reader_stand c t now) (Err e) → CountsRead (a.name slot) (gather_end (fault_by e port)) a c
    failed_counts (errors.Cut at) n = (λ m. n.counts m ∙ f.counts m, (reads_c n).writes)
    failed_counts (errors.TooLong at len) n = (λ m. n.counts m ∙ f.counts m, (reads_c n).writes)
    failed_counts errors.Bytes n = (λ m. n.counts m ∙ f.counts m, (reads_c n).writes)
    failed_counts errors.Frames n = (λ m. n.counts m ∙ f.counts m, (reads_c n).writes)
    failed_counts (errors.Read failed) n = (rose_later _ _ _ f.reads.keeps.reads_rise (subst (λ m. Rose (b.read_faults m) (c.read_faults m)) f.name (n.cause f.fresh failed refl)), (reads_c n).writes)
    failed_counts errors.Memory n = (λ m. n.counts m ∙ f.counts m, (reads_c n).writes)

    pub so_far_failed : (e : CapError) → NextReads slot (reader_stand b s left) (reader_stand c t now) (Err e) → ReadsRecords port slot (reader_stand a r had) (reader_stand c t now) (Err (fault_by e port))
    so_far_failed e n = record {
      uses = uses_read (a.name slot) (gather_end (fault_by e port)) a c (reads_c n) (failed_counts e n);
      fit = tt;
      frames = tt;
      limits = no_more n.kept.budget;
      taken = λ told m less. tt;
      stops = λ told m less stopped.
          let h = f.taken told m less in
          (last_step (Stops e) (stops_by step_b (to_come t c slot) e port (n.says (told_b told) f.fresh) stopped) (to_take m port slot (reader_stand a r had)) h.0 h.1 h.2).1;
    }

-- ---- with the head

module _ (port slot : ℕ) (a b : Seen) (had left : Budget) (input : IsTrue (a.input slot)) where
  pub whole_place : (r : Reading) → OpensReader slot a b had left (Ok r) → had.bytes < 2 ^ 64 → r.at + left.bytes < 2 ^ 64
  whole_place r o range = let at : r.at ≡ 24 = o.begins.0 in let bytes : left.bytes + 24 ≡ had.bytes = o.taken.0 in omega (arith, at, bytes, range)

  -- the capture is what is taken behind its head
  whole_is : (r : Reading) → OpensReader slot a b had left (Ok r) → IsTrue a.told → capture_by port had (a.left slot) ≡ to_take (suc (length (a.left slot))) port slot (reader_stand b r left)
  unfolding capture_by
  whole_is r o told =
      let bytes : left.bytes + 24 ≡ had.bytes = o.taken.0 in
      let frames : left.frames ≡ had.frames = o.taken.1 in
      let h = o.head told in
      let budget : without_head had ≡ left = same_budget (without_head had) left (omega (arith, bytes)) (sym frames) in
      let l = a.left slot in
      ap (λ t. cond t (Err (faults.Limit limit.Bytes)) (body_by port had l (head_decoded l))) (le-ltb had.bytes 24 (omega (arith, bytes)))
      ∙ ap (body_by port had l) h.0
      ∙ ap (λ z. records_by (suc (length l)) port r.head 24 0 z (drop 24 l)) budget
      ∙ ap (λ z. records_by (suc (length l)) port r.head 24 0 left z) (sym h.1)
      ∙ ap (λ z. records_by (suc (length l)) port r.head z 0 left (to_come r b slot)) (sym o.begins.0)
      ∙ ap (λ z. records_by (suc (length l)) port r.head r.at z left (to_come r b slot)) (sym o.begins.1)

  whole_less : (r : Reading) → OpensReader slot a b had left (Ok r) → IsTrue a.told → length (to_come r b slot) < suc (length (a.left slot))
  whole_less r o told = omega (arith, ap length (o.head told).1, length-drop 24 (a.left slot))

  pub whole_read : (c : Seen) (r r' : Reading) (now : Budget) (result : Result (List Record) GatherFault) → OpensReader slot a b had left (Ok r) → ReadsRecords port slot (reader_stand b r left) (reader_stand c r' now) result → ReadsCapture port slot a c had now result
  whole_read c r r' now result o k =
      let name = input_name (a.name slot) a b o.reads.keeps slot input in
      record {
        uses = uses_then (Only (a.name slot)) Nothing (end_by gather_end result) a b c (uses_read (a.name slot) ending.Said a b o.reads (o.counts, o.reads.writes)) (subst (λ m. Uses (Only m) Nothing (end_by gather_end result) b c) name k.uses);
        fit = subst (λ g. IfOk result (λ rs. AreFit rs × Ascends g rs)) o.begins.1 k.fit;
        frames = subst (λ (n : ℕ). IfOk result (λ rs. now.frames + length rs ≡ n)) o.taken.1 k.frames;
        limits = (omega (arith, k.limits.0, o.taken.0), omega (arith, k.limits.1, o.taken.1));
        taken = λ told. taken_as result (whole_is r o told) (k.taken (told_stays (a.name slot) a b o.reads.keeps told) (suc (length (a.left slot))) (whole_less r o told));
        stops = λ told. stops_as result (whole_is r o told) (k.stops (told_stays (a.name slot) a b o.reads.keeps told) (suc (length (a.left slot))) (whole_less r o told));
      }
    where
      taken_as : {x y : Result Taken GatherFault} (result : Result (List Record) GatherFault) → x ≡ y → IfOk result (λ rs. y ≡ Ok (record { records = rs; left = now })) → IfOk result (λ rs. x ≡ Ok (record { records = rs; left = now }))
      taken_as (Ok rs) e h = e ∙ h
      taken_as (Err f) e h = tt

      stops_as : {x y : Result Taken GatherFault} (result : Result (List Record) GatherFault) → x ≡ y → IfErr result (λ f. IsStopped f → y ≡ Err f) → IfErr result (λ f. IsStopped f → x ≡ Err f)
      stops_as (Ok rs) e h = tt
      stops_as (Err f) e h = λ stopped. e ∙ h stopped

  -- a head that isn't taken
  not_opened : (e : CapOpen) → OpensReader slot a b had left (Err e) → IsTrue a.told → IsStopped (open_fault_by e port) → capture_by port had (a.left slot) ≡ Err (open_fault_by e port)
  unfolding capture_by
  not_opened (opens.Head fault) o told stopped =
      let l = a.left slot in
      let enough : 24 ≤ had.bytes = elim (le_or_lt 24 had.bytes) [ inl le ↦ le | inr less ↦ absurd (head_no_bytes fault (o.bytes.1 less)) ] in
      ap (λ t. cond t (Err (faults.Limit limit.Bytes)) (body_by port had l (head_decoded l))) (le-ltb had.bytes 24 enough) ∙ ap (body_by port had l) (o.refused told)
    where
      head_no_bytes : (fault : CapFault) → IsErrOf {T = Reading} (Err (opens.Head fault)) opens.Bytes → ⊥
      head_no_bytes fault e = cc
  not_opened (opens.Read failed) o told stopped = absurd stopped
  not_opened opens.Bytes o told stopped =
      ap (λ t. cond t (Err (faults.Limit limit.Bytes)) (body_by port had (a.left slot) (head_decoded (a.left slot)))) (lt-ltb had.bytes 24 (o.bytes.0 refl))

  pub whole_refused : (e : CapOpen) → OpensReader slot a b had left (Err e) → ReadsCapture port slot a b had left (Err (open_fault_by e port))
  whole_refused e o = record {
    uses = uses_read (a.name slot) (gather_end (open_fault_by e port)) a b o.reads (refused_counts e o);
    fit = tt;
    frames = tt;
    limits = (omega (arith, ap (λ (z : Budget). z.bytes) o.untouched), omega (arith, ap (λ (z : Budget). z.frames) o.untouched));
    taken = λ told. tt;
    stops = λ told stopped. not_opened e o told stopped;
  }
    where
      refused_counts : (e : CapOpen) → OpensReader slot a b had left (Err e) → CountsRead (a.name slot) (gather_end (open_fault_by e port)) a b
      refused_counts (opens.Head fault) o = (o.counts, o.reads.writes)
      refused_counts (opens.Read failed) o = (o.refused, o.reads.writes)
      refused_counts opens.Bytes o = (o.counts, o.reads.writes)
