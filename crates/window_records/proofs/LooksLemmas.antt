-- Looks at a capture, one after another.
use Rattle.std.proofs.Common.{◌-◌, Bool, true, Option, Some, None, ◌≡◌, ℕ, zero, suc, ◌<◌, false, List, [], ◌∷◌, length, refl, ap, ◌∙◌, arith}
use Rattle.fab_config.specs.Settings.{Settings}
use Rattle.pcap_file.specs.Capture.{Next, Found, End, CutHead, TooLong, CutBytes}
use Rattle.pcap_file.specs.Reading.{Why, failure, Gives, Ends, Stops}
use Rattle.pcap_file.proofs.lemmas.Chains.{found_stands}
use Rattle.pcap_file.proofs.lemmas.Steps.{step_tells}
use Rattle.window_records.specs.Looks.{Spot, Look, look_at, found_at, is_found, behind, looks_from, looks, Stop, Fails, Span, stop_at, stop_in, is_too_late, taken, count_of, LooksFound, LooksEnd, StepsFindStop}

-- the looks behind one that finds this
abbrev pub on : Settings → ℕ → ℕ → Spot → Next → List Look
on c port n s x = elim x [ Found moment caught rest ↦ looks_from c port n (behind c s moment caught rest) | _ ↦ [] ]

on_enough : (c : Settings) (port n m : ℕ) (s : Spot) → length s.bytes < suc n → length s.bytes < suc m
    → ((q : Spot) → length q.bytes < n → length q.bytes < m → looks_from c port n q ≡ looks_from c port m q) → (x : Next) → found_at s ≡ x → on c port n s x ≡ on c port m s x
on_enough c port n m s h k more (Found moment caught rest) e =
    let shorter = (found_stands s.head s.greatest s.bytes moment caught rest e).size in
    more (behind c s moment caught rest) (omega arith) (omega arith)
on_enough c port n m s h k more End e = refl
on_enough c port n m s h k more CutHead e = refl
on_enough c port n m s h k more (TooLong len) e = refl
on_enough c port n m s h k more (CutBytes len) e = refl

-- more looks than bytes are enough
enough : (c : Settings) (port n m : ℕ) (s : Spot) → length s.bytes < n → length s.bytes < m → looks_from c port n s ≡ looks_from c port m s
enough c port zero m s h k = absurd (omega arith)
enough c port (suc n) zero s h k = absurd (omega arith)
enough c port (suc n) (suc m) s h k = ap (λ l. look_at port s ∷ l) (on_enough c port n m s h k (λ q. enough c port n m q) (found_at s) refl)

looks_first : (c : Settings) (port : ℕ) (s : Spot) → looks c port s ≡ look_at port s ∷ on c port (length s.bytes) s (found_at s)
unfolding looks
looks_first c port s = refl

pub looks_found : LooksFound
unfolding looks
looks_found c port s moment caught rest e =
    let shorter = (found_stands s.head s.greatest s.bytes moment caught rest e).size in
    ap (λ (x : Next). look_at port s ∷ on c port (length s.bytes) s x) e
    ∙ ap (λ l. look_at port s ∷ l) (enough c port (length s.bytes) (suc (length rest)) (behind c s moment caught rest) (omega arith) (omega arith))

on_none : (c : Settings) (port n : ℕ) (s : Spot) (x : Next) → is_found x ≡ false → on c port n s x ≡ []
on_none c port n s (Found moment caught rest) e = absurd (cc)
on_none c port n s End e = refl
on_none c port n s CutHead e = refl
on_none c port n s (TooLong len) e = refl
on_none c port n s (CutBytes len) e = refl

pub looks_end : LooksEnd
looks_end c port s e = looks_first c port s ∙ ap (λ l. look_at port s ∷ l) (on_none c port (length s.bytes) s (found_at s) e)

-- ---- one more look in front

abbrev pub stop_by : Bool → Option Why → Look → Option Stop → Option Stop
stop_by late why x more = elim late [ true ↦ Some (stop_at Span x) | false ↦ elim why [ Some w ↦ Some (stop_at (Fails w) x) | None ↦ more ] ]

module _ (first bytes frames : ℕ) (x : Look) (more : List Look) where
  abbrev behind_it : Option Stop
  behind_it = stop_in first (bytes - taken x.found) (frames - count_of x.found) more

  pub late_is_stop : is_too_late first x.window ≡ true → stop_in first bytes frames (x ∷ more) ≡ Some (stop_at Span x)
  late_is_stop late = ap (λ (b : Bool). stop_by b (failure bytes frames x.found) x behind_it) late

  in_time : (why : Option Why) → is_too_late first x.window ≡ false → failure bytes frames x.found ≡ why → stop_in first bytes frames (x ∷ more) ≡ stop_by false why x behind_it
  in_time why late e = (λ i. stop_by (late i) (e i) x behind_it)

pub steps_find_stop : StepsFindStop
steps_find_stop first budget x more (Gives moment caught rest) late e =
    let t = step_tells budget x.at x.found (Gives moment caught rest) e in
    in_time first budget.bytes budget.frames x more None late t.1 ∙ ap (λ (f : Next). stop_in first (budget.bytes - taken f) (budget.frames - count_of f) more) t.0
steps_find_stop first budget x more Ends late e =
    let t = step_tells budget x.at x.found Ends e in
    in_time first budget.bytes budget.frames x more None late (ap (failure budget.bytes budget.frames) t)
    ∙ ap (λ (f : Next). stop_in first (budget.bytes - taken f) (budget.frames - count_of f) more) t
    ∙ (λ i. stop_in first (sub-zero budget.bytes i) (sub-zero budget.frames i) more)
  where
    sub-zero : (n : ℕ) → n - 0 ≡ n
    sub-zero n = omega arith
steps_find_stop first budget x more (Stops q) late e =
    let t = step_tells budget x.at x.found (Stops q) e in
    (t.0, t.2, in_time first budget.bytes budget.frames x more (Some t.0) late t.1)
