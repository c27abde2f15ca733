-- What is taken of files is within the budget.
use Rattle.std.proofs.Common.{◌≡◌, ℕ, zero, suc, ◌+◌, ◌<◌, ◌≤◌, Bool, true, false, cond, inl, inr, nat_lt, ◌==◌, List, [], ◌∷◌, length, length-drop, drop, map, Option, Some, None, Ok, Err, refl, sym, ap, ◌∙◌, subst, arith}
use Rattle.std.specs.Prelude.{Result}
use Rattle.std.proofs.lemmas.Bool.Decides.{nat_tests}
use Rattle.fab_base.specs.declared.values.Caught.{Caught}
use Rattle.pcap_file.specs.declared.Budget.{Budget}
use Rattle.pcap_file.specs.declared.CapFault.{CapFault}
use Rattle.pcap_file.specs.declared.CaptureHead.{CaptureHead}
use Rattle.pcap_file.specs.declared.Record.{Record}
use Rattle.pcap_file.specs.declared.fault.LimitKind.TheVariants as limit
use Rattle.pcap_file.specs.declared.fault.GatherFault.{GatherFault}
use Rattle.pcap_file.specs.declared.fault.GatherFault.TheVariants as gather
use Rattle.pcap_file.specs.Capture.{HEAD, RECORD_HEAD, Found, IsCapture, next, head_decoded}
use Rattle.pcap_file.specs.Captures.{Taken, unless_stopped, without_head, without_record, with_record, by_step, records_by, body_by, capture_by, captures_by}
use Rattle.pcap_file.specs.Reading.{Why, NoBytes, NoFrames, limit_of, failure, Step, Gives, Ends, Stops, step_of}
use Rattle.pcap_file.proofs.lemmas.Chains.{found_stands, end_is}
use Rattle.pcap_file.proofs.lemmas.Steps.{step_tells}
use Rattle.side_runs.specs.Laws.{TakenAreCaptures}
use Rattle.joined_runs.specs.Box.{IsAt}

-- what is taken of bytes, and what is left of the budget then
abbrev Within : Budget → List ℕ → Taken → Type 0
Within budget l t = length l + t.left.bytes ≤ budget.bytes

within_as : (budget : Budget) (l : List ℕ) (x y : Taken) → ◌≡◌ {A = Result Taken GatherFault} (Ok x) (Ok y) → Within budget l x → Within budget l y
within_as budget l x y e h = subst (λ (t : Taken). Within budget l t) (let same : x ≡ y = cc in same) h

-- a record within the limits takes no more bytes than are left
pub enough_bytes : (bytes frames len : ℕ) → limit_of bytes frames len ≡ None → RECORD_HEAD + len ≤ bytes
enough_bytes bytes frames len e = go (nat_lt bytes (RECORD_HEAD + len)) refl e
  where
    go : (b : Bool) → nat_lt bytes (RECORD_HEAD + len) ≡ b → cond {A = Option Why} b (Some NoBytes) (cond (frames == 0) (Some NoFrames) None) ≡ None → RECORD_HEAD + len ≤ bytes
    go true is h = absurd (cc)
    go false is h = grind (arith, nat_tests)

records_within : (n port : ℕ) (h : CaptureHead) (at greatest : ℕ) (budget : Budget) (l : List ℕ) (t : Taken) → length l < n → records_by n port h at greatest budget l ≡ Ok t → Within budget l t
records_within zero port h at greatest budget l t less e = absurd (omega (arith, less))
records_within (suc n) port h at greatest budget l t less e =
    go (step_of budget at (next h greatest l)) refl e (λ moment caught rest u shorter is. records_within n port h (at + (RECORD_HEAD + length caught.bytes)) moment (without_record budget caught) rest u shorter is)
  where
    more : ℕ → Caught → List ℕ → Result Taken GatherFault
    more moment caught rest = records_by n port h (at + (RECORD_HEAD + length caught.bytes)) moment (without_record budget caught) rest

    go : (step : Step) → step_of budget at (next h greatest l) ≡ step → by_step more port budget step ≡ Ok t
        → ((moment : ℕ) (caught : Caught) (rest : List ℕ) (u : Taken) → length rest < n → more moment caught rest ≡ Ok u → Within (without_record budget caught) rest u) → Within budget l t
    go (Gives moment caught rest) is e later = by (more moment caught rest) refl e
      where
        tells : (next h greatest l ≡ Found moment caught rest) × (failure budget.bytes budget.frames (next h greatest l) ≡ None)
        tells = step_tells budget at (next h greatest l) (Gives moment caught rest) is

        room : RECORD_HEAD + length caught.bytes ≤ budget.bytes
        room = enough_bytes budget.bytes budget.frames (length caught.bytes) (sym (ap (failure budget.bytes budget.frames) tells.0) ∙ tells.1)

        by : (r : Result Taken GatherFault) → more moment caught rest ≡ r → unless_stopped r (with_record (record { moment = moment; caught = caught })) ≡ Ok t → Within budget l t
        by (Err fault) same e = absurd (cc)
        by (Ok u) same e =
            let size = (found_stands h greatest l moment caught rest tells.0).size in
            let s = later moment caught rest u (omega (arith, size, less)) same in
            within_as budget l (record { records = record { moment = moment; caught = caught } ∷ u.records; left = u.left }) t e (let fits = room in omega (arith, size, s, fits))
    go Ends is e later =
        let empty = end_is h greatest l (step_tells budget at (next h greatest l) Ends is) in
        within_as budget l (record { records = []; left = budget }) t e (omega (arith, ap length empty))
    go (Stops fault) is e later = absurd (cc)

pub capture_within : (port : ℕ) (budget : Budget) (l : List ℕ) (t : Taken) → capture_by port budget l ≡ Ok t → Within budget l t
unfolding capture_by
capture_within port budget l t e = enough (nat_lt budget.bytes HEAD) refl e
  where
    body : HEAD ≤ budget.bytes → (r : Result CaptureHead CapFault) → body_by port budget l r ≡ Ok t → Within budget l t
    body room (Err fault) e = absurd (cc)
    body room (Ok h) e =
        let n = length-drop HEAD l in
        let s = records_within (suc (length l)) port h HEAD 0 (without_head budget) (drop HEAD l) t (omega (arith, n)) e in
        omega (arith, n, s, room)

    enough : (b : Bool) → nat_lt budget.bytes HEAD ≡ b → cond {A = Result Taken GatherFault} b (Err (gather.Limit limit.Bytes)) (body_by port budget l (head_decoded l)) ≡ Ok t → Within budget l t
    enough true is e = absurd (cc)
    enough false is e = body (grind (arith, nat_tests)) (head_decoded l) e

-- ---- the captures of several ports

-- A file that was found under a name is a capture of these records, within so many bytes.
pub record IsTaken (file : List ℕ → Option (List ℕ)) (name : List ℕ) (records : List Record) (most : ℕ) : Type 0 where
  pub bytes : List ℕ
  pub found : file name ≡ Some bytes
  pub within : length bytes ≤ most
  pub head : CaptureHead
  pub capture : IsCapture head records bytes

list_is : {x y : List (List Record)} → ◌≡◌ {A = Result (List (List Record)) GatherFault} (Ok x) (Ok y) → x ≡ y
list_is e = cc

wider : (file : List ℕ → Option (List ℕ)) (name : List ℕ) (records : List Record) (few most : ℕ) → few ≤ most → IsTaken file name records few → IsTaken file name records most
wider file name records few most le t = record { bytes = t.bytes; found = t.found; within = let w = t.within in omega arith; head = t.head; capture = t.capture }

module _ (are : TakenAreCaptures) where
  one_taken : (port : ℕ) (budget : Budget) (l : List ℕ) (t : Taken) → capture_by port budget l ≡ Ok t → (h : CaptureHead) × IsCapture h t.records l
  one_taken port budget l t e = (are port budget (Some l ∷ []) (t.records ∷ []) (ap (λ r. unless_stopped r (λ u. unless_stopped (captures_by (port + 1) u.left []) (λ ins. Ok (u.records ∷ ins)))) e)).0

  -- The records at a place of what is taken are those of the file under the name at that place.
  pub taken_at : (file : List ℕ → Option (List ℕ)) (first port : ℕ) (budget : Budget) (names : List (List ℕ)) (ins : List (List Record)) (records : List Record) →
      captures_by first budget (map file names) ≡ Ok ins → IsAt first ins port records → (name : List ℕ) × IsAt first names port name × IsTaken file name records budget.bytes
  taken_at file first port budget [] ins records e at = absurd (subst (λ (l : List (List Record)). IsAt first l port records) (sym (list_is e)) at)
  taken_at file first port budget (name ∷ names) ins records e at =
      by_file (file name) refl e (λ left rest is later. taken_at file (first + 1) port left names rest records is later)
    where
      By : Type 0
      By = (left : Budget) (rest : List (List Record)) → captures_by (first + 1) left (map file names) ≡ Ok rest → IsAt (first + 1) rest port records →
          (n : List ℕ) × IsAt (first + 1) names port n × IsTaken file n records left.bytes

      Wanted : Type 0
      Wanted = (n : List ℕ) × IsAt first (name ∷ names) port n × IsTaken file n records budget.bytes

      here : (l : List ℕ) → file name ≡ Some l → (t : Taken) → capture_by first budget l ≡ Ok t → (rest : List (List Record)) → captures_by (first + 1) t.left (map file names) ≡ Ok rest → By → IsAt first (t.records ∷ rest) port records → Wanted
      here l found t is rest others more (inl one) =
          let capture = one_taken first budget l t is in
          let w = capture_within first budget l t is in (
            name,
            inl (one.0, refl),
            record { bytes = l; found = found; within = omega arith; head = capture.0; capture = subst (λ (rs : List Record). IsCapture capture.0 rs l) (sym one.1) capture.1 },
          )
      here l found t is rest others more (inr later) =
          let there = more t.left rest others later in
          let w = capture_within first budget l t is in
          (there.0, inr there.1, wider file there.0 records t.left.bytes budget.bytes (omega arith) there.2)

      by_rest : (l : List ℕ) → file name ≡ Some l → (t : Taken) → capture_by first budget l ≡ Ok t → (r : Result (List (List Record)) GatherFault) → captures_by (first + 1) t.left (map file names) ≡ r →
          unless_stopped {X = List (List Record)} {Y = List (List Record)} r (λ rest. Ok (t.records ∷ rest)) ≡ Ok ins → By → Wanted
      by_rest l found t is (Err fault) others e more = absurd (cc)
      by_rest l found t is (Ok rest) others e more = here l found t is rest others more (subst (λ (q : List (List Record)). IsAt first q port records) (sym (list_is e)) at)

      by_capture : (l : List ℕ) → file name ≡ Some l → (r : Result Taken GatherFault) → capture_by first budget l ≡ r →
          unless_stopped {X = Taken} {Y = List (List Record)} r (λ t. unless_stopped {X = List (List Record)} {Y = List (List Record)} (captures_by (first + 1) t.left (map file names)) (λ rest. Ok (t.records ∷ rest))) ≡ Ok ins → By → Wanted
      by_capture l found (Err fault) is e more = absurd (cc)
      by_capture l found (Ok t) is e more = by_rest l found t is (captures_by (first + 1) t.left (map file names)) refl e more

      by_file : (o : Option (List ℕ)) → file name ≡ o → captures_by first budget (o ∷ map file names) ≡ Ok ins → By → Wanted
      by_file None found e more = absurd (cc)
      by_file (Some l) found e more = by_capture l found (capture_by first budget l) refl e more

  -- what one capture within a budget is
  pub one_within : (file : List ℕ → Option (List ℕ)) (port : ℕ) (budget : Budget) (name l : List ℕ) (t : Taken) → file name ≡ Some l → capture_by port budget l ≡ Ok t → IsTaken file name t.records budget.bytes
  one_within file port budget name l t found is =
      let capture = one_taken port budget l t is in
      let w = capture_within port budget l t is in
      record { bytes = l; found = found; within = omega arith; head = capture.0; capture = capture.1 }
