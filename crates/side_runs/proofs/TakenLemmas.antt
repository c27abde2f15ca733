-- What is taken of files are their captures.
use Rattle.std.proofs.Common.{◌≡◌, ℕ, zero, suc, ◌+◌, ◌<◌, Bool, true, false, cond, nat_lt, List, [], ◌∷◌, length, length-drop, drop, Some, None, Ok, Err, refl, subst, arith}
use Rattle.std.specs.Prelude.{Result}
use Rattle.fab_base.specs.declared.values.Caught.{Caught}
use Rattle.pcap_file.specs.declared.Budget.{Budget}
use Rattle.pcap_file.specs.declared.CapFault.{CapFault}
use Rattle.pcap_file.specs.declared.CaptureHead.{CaptureHead}
use Rattle.pcap_file.specs.declared.Record.{Record}
use Rattle.pcap_file.specs.Capture.{HEAD, RECORD_HEAD, End, Found, IsCapture, next, head_decoded}
use Rattle.pcap_file.specs.Reading.{Step, Gives, Ends, Stops, step_of}
use Rattle.pcap_file.specs.Records.{Chain, last_moment, EndsAsCapture}
use Rattle.pcap_file.proofs.lemmas.Chains.{found_stands}
use Rattle.pcap_file.proofs.lemmas.Steps.{gives_found, ends_end}
use Rattle.pcap_file.specs.declared.fault.LimitKind.TheVariants as limit
use Rattle.pcap_file.specs.declared.fault.GatherFault.{GatherFault}
use Rattle.pcap_file.specs.declared.fault.GatherFault.TheVariants as gather
use Rattle.pcap_file.specs.Captures.{Taken, unless_stopped, without_head, without_record, with_record, by_step, records_by, body_by, capture_by, captures_by}
use Rattle.side_runs.specs.Laws.{AreCaptures, TakenAreCaptures}

-- records that are taken stand one after another, up to the end
abbrev Stand : CaptureHead → ℕ → List ℕ → List Record → Type 0
Stand h greatest l records = (rest : List ℕ) × Chain h greatest records l rest × (next h (last_moment greatest records) rest ≡ End)

taken_is : {x y : Taken} → ◌≡◌ {A = Result Taken GatherFault} (Ok x) (Ok y) → x ≡ y
taken_is e = cc

stand_as : (h : CaptureHead) (greatest : ℕ) (l : List ℕ) (x y : Taken) → x ≡ y → Stand h greatest l x.records → Stand h greatest l y.records
stand_as h greatest l x y e s = subst (λ (t : Taken). Stand h greatest l t.records) e s

stand : (n port : ℕ) (h : CaptureHead) (at greatest : ℕ) (budget : Budget) (l : List ℕ) (t : Taken) → length l < n → records_by n port h at greatest budget l ≡ Ok t → Stand h greatest l t.records
stand zero port h at greatest budget l t less e = absurd (omega (arith, less))
stand (suc n) port h at greatest budget l t less e =
    go (step_of budget at (next h greatest l)) refl e (λ moment caught rest u shorter is. stand n port h (at + (RECORD_HEAD + length caught.bytes)) moment (without_record budget caught) rest u shorter is)
  where
    more : ℕ → Caught → List ℕ → Result Taken GatherFault
    more moment caught rest = records_by n port h (at + (RECORD_HEAD + length caught.bytes)) moment (without_record budget caught) rest

    go : (step : Step) → step_of budget at (next h greatest l) ≡ step → by_step more port budget step ≡ Ok t
        → ((moment : ℕ) (caught : Caught) (rest : List ℕ) (u : Taken) → length rest < n → more moment caught rest ≡ Ok u → Stand h moment rest u.records) → Stand h greatest l t.records
    go (Gives moment caught rest) is e later = by (more moment caught rest) refl e
      where
        found : next h greatest l ≡ Found moment caught rest
        found = gives_found budget at (next h greatest l) moment caught rest is

        by : (r : Result Taken GatherFault) → more moment caught rest ≡ r → unless_stopped r (with_record (record { moment = moment; caught = caught })) ≡ Ok t → Stand h greatest l t.records
        by (Err fault) same e = absurd (cc)
        by (Ok u) same e =
            let size = (found_stands h greatest l moment caught rest found).size in
            let s = later moment caught rest u (omega (arith, size, less)) same in
            stand_as h greatest l (record { records = record { moment = moment; caught = caught } ∷ u.records; left = u.left }) t (taken_is e) (s.0, (rest, found, s.1), s.2)
    go Ends is e later = stand_as h greatest l (record { records = []; left = budget }) t (taken_is e) (l, refl, ends_end budget at (next h greatest l) is)
    go (Stops fault) is e later = absurd (cc)

list_is : {x y : List (List Record)} → ◌≡◌ {A = Result (List (List Record)) GatherFault} (Ok x) (Ok y) → x ≡ y
list_is e = cc

module _ (ends : EndsAsCapture) where
  capture_taken : (port : ℕ) (budget : Budget) (l : List ℕ) (t : Taken) → capture_by port budget l ≡ Ok t → (h : CaptureHead) × IsCapture h t.records l
  unfolding capture_by
  capture_taken port budget l t e = enough (nat_lt budget.bytes HEAD) e
    where
      body : (r : Result CaptureHead CapFault) → head_decoded l ≡ r → body_by port budget l r ≡ Ok t → (h : CaptureHead) × IsCapture h t.records l
      body (Err fault) is e = absurd (cc)
      body (Ok h) is e =
          let s = stand (suc (length l)) port h HEAD 0 (without_head budget) (drop HEAD l) t (let n = length-drop HEAD l in omega (arith, n)) e in
          (h, ends h t.records l s.0 is s.1 s.2)

      enough : (b : Bool) → cond {A = Result Taken GatherFault} b (Err (gather.Limit limit.Bytes)) (body_by port budget l (head_decoded l)) ≡ Ok t → (h : CaptureHead) × IsCapture h t.records l
      enough true e = absurd (cc)
      enough false e = body (head_decoded l) refl e

  pub taken_are_captures : TakenAreCaptures
  taken_are_captures port budget [] ins e = subst (AreCaptures []) (list_is e) tt
  taken_are_captures port budget (None ∷ files) ins e = absurd (cc)
  taken_are_captures port budget (Some l ∷ files) ins e = go (capture_by port budget l) refl e (λ t rest is. taken_are_captures (port + 1) t.left files rest is)
    where
      go : (r : Result Taken GatherFault) → capture_by port budget l ≡ r
          → unless_stopped {X = Taken} {Y = List (List Record)} r (λ t. unless_stopped {X = List (List Record)} {Y = List (List Record)} (captures_by (port + 1) t.left files) (λ ins. Ok (t.records ∷ ins))) ≡ Ok ins
          → ((t : Taken) (rest : List (List Record)) → captures_by (port + 1) t.left files ≡ Ok rest → AreCaptures files rest) → AreCaptures (Some l ∷ files) ins
      go (Err fault) is e later = absurd (cc)
      go (Ok t) is e later = by (captures_by (port + 1) t.left files) refl e
        where
          by : (r : Result (List (List Record)) GatherFault) → captures_by (port + 1) t.left files ≡ r → unless_stopped {X = List (List Record)} {Y = List (List Record)} r (λ ins. Ok (t.records ∷ ins)) ≡ Ok ins → AreCaptures (Some l ∷ files) ins
          by (Err fault) same e = absurd (cc)
          by (Ok rest) same e = subst (AreCaptures (Some l ∷ files)) (list_is e) (capture_taken port budget l t is, later t rest same)
