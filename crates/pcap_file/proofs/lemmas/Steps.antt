-- The limits, and what a step of a reader says of what stands there.
use Rattle.std.proofs.Common.{◌≡◌, ℕ, ◌+◌, ◌<◌, ◌≤◌, ◌⊎◌, inl, inr, Bool, true, false, cond, eqb, List, length, Option, Some, None, refl, sym, ap, ◌∙◌, subst, arith}
use Rattle.std.specs.Prelude.{nat_lt, ◌==◌}
use Rattle.std.proofs.lemmas.Bool.{ne_eqb, le-ltb, lt-ltb, ltb-true, eqb-true}
use Rattle.fab_base.specs.declared.values.Caught.{Caught}
use Rattle.pcap_file.specs.declared.Budget.{Budget}
use Rattle.pcap_file.specs.declared.CapError.{CapError}
use Rattle.pcap_file.specs.declared.CapError.TheVariants as errors
use Rattle.pcap_file.specs.Capture.{Next, Found, End, CutHead, TooLong, CutBytes}
use Rattle.pcap_file.specs.Reading.{Why, NoBytes, NoFrames, limit_of, failure, Step, Gives, Ends, Stops, step_by, step_of}
use Rattle.pcap_file.specs.Records.{IsFault, TellsStep}

-- ---- the limits

-- the limits by their two tests
abbrev pub limit_by : Bool → Bool → Option Why
limit_by few none = cond few (Some NoBytes) (cond none (Some NoFrames) None)

module _ (bytes frames len : ℕ) where
  pub no_bytes : bytes < 16 + len → limit_of bytes frames len ≡ Some NoBytes
  no_bytes lt = ap (λ (few : Bool). limit_by few (eqb frames 0)) (lt-ltb bytes (16 + len) lt)

  pub no_frames : 16 + len ≤ bytes → frames ≡ 0 → limit_of bytes frames len ≡ Some NoFrames
  no_frames le none = ap (λ (few : Bool). limit_by few (eqb frames 0)) (le-ltb bytes (16 + len) le) ∙ ap (λ (n : ℕ). limit_by false (eqb n 0)) none

  pub no_limit : 16 + len ≤ bytes → 1 ≤ frames → limit_of bytes frames len ≡ None
  no_limit le some =
      ap (λ (few : Bool). limit_by few (eqb frames 0)) (le-ltb bytes (16 + len) le)
      ∙ ap (λ (none : Bool). limit_by false none) (ne_eqb frames 0 (λ e. omega arith))

-- ---- steps

tells_by : (budget : Budget) (at : ℕ) (x : Next) (why : Option Why) → failure budget.bytes budget.frames x ≡ why → TellsStep budget at x (step_by why at x)
tells_by budget at x (Some why) e = (why, e, refl)
tells_by budget at (Found moment caught rest) None e = (refl, e)
tells_by budget at End None e = refl
tells_by budget at CutHead None e = absurd (cc)
tells_by budget at (TooLong len) None e = absurd (cc)
tells_by budget at (CutBytes len) None e = absurd (cc)

-- what a step says of what stands there
pub step_tells : (budget : Budget) (at : ℕ) (x : Next) (step : Step) → step_of budget at x ≡ step → TellsStep budget at x step
step_tells budget at x step e = subst (TellsStep budget at x) e (tells_by budget at x (failure budget.bytes budget.frames x) refl)

-- and the step from that
pub told_step : (budget : Budget) (at : ℕ) (x : Next) (step : Step) → TellsStep budget at x step → step_of budget at x ≡ step
told_step budget at x (Gives moment caught rest) t = (λ i. step_by (t.1 i) at (t.0 i))
told_step budget at x Ends t = ap (step_of budget at) t
told_step budget at x (Stops e) t = ap (λ o. step_by o at x) t.1 ∙ ap (λ q. Stops q) (sym t.2)

pub gives_found : (budget : Budget) (at : ℕ) (x : Next) (moment : ℕ) (caught : Caught) (rest : List ℕ) → step_of budget at x ≡ Gives moment caught rest → x ≡ Found moment caught rest
gives_found budget at x moment caught rest e = (step_tells budget at x (Gives moment caught rest) e).0

pub ends_end : (budget : Budget) (at : ℕ) (x : Next) → step_of budget at x ≡ Ends → x ≡ End
ends_end budget at x e = step_tells budget at x Ends e

-- ---- why a step stops

-- a record that passes a limit, or a fault
abbrev pub Passes : (ℕ → Type 0) → Next → Type 0
Passes over x = ((moment : ℕ) × (caught : Caught) × (rest : List ℕ) × (x ≡ Found moment caught rest) × over (length caught.bytes)) ⊎ IsFault x

-- the limit that an error tells is passed
abbrev pub Limits : Budget → CapError → ℕ → Type 0
Limits budget e len = ((e ≡ errors.Bytes) × (budget.bytes < 16 + len)) ⊎ ((e ≡ errors.Frames) × (budget.frames ≡ 0))

limit_stops : (budget : Budget) (at moment : ℕ) (caught : Caught) (rest : List ℕ) (e : CapError) (few none : Bool) → nat_lt budget.bytes (16 + length caught.bytes) ≡ few → (budget.frames == 0) ≡ none → step_by (limit_by few none) at (Found moment caught rest) ≡ Stops e → Limits budget e (length caught.bytes)
limit_stops budget at moment caught rest e true none f g s = let same : errors.Bytes ≡ e = cc in inl (sym same, ltb-true budget.bytes (16 + length caught.bytes) f)
limit_stops budget at moment caught rest e false true f g s = let same : errors.Frames ≡ e = cc in inr (sym same, eqb-true budget.frames 0 g)
limit_stops budget at moment caught rest e false false f g s = absurd (cc)

-- a step that stops shows a fault, or a record that passes the limit which the error tells
pub stops_is : (budget : Budget) (at : ℕ) (x : Next) (e : CapError) → step_of budget at x ≡ Stops e → Passes (Limits budget e) x
stops_is budget at (Found moment caught rest) e s = inl (moment, caught, rest, refl, limit_stops budget at moment caught rest e (nat_lt budget.bytes (16 + length caught.bytes)) (budget.frames == 0) refl refl s)
stops_is budget at End e s = absurd (cc)
stops_is budget at CutHead e s = inr tt
stops_is budget at (TooLong len) e s = inr tt
stops_is budget at (CutBytes len) e s = inr tt

module _ (budget : Budget) (at : ℕ) (x : Next) where
  pub cut_fault : (place : ℕ) → step_of budget at x ≡ Stops (errors.Cut place) → IsFault x
  cut_fault place s = elim (stops_is budget at x (errors.Cut place) s) [
    | inr f ↦ f
    | inl p ↦ elim p.4 [ inl q ↦ let is = q.0 in absurd (cc) | inr q ↦ let is = q.0 in absurd (cc) ]
  ]

  pub long_fault : (place len : ℕ) → step_of budget at x ≡ Stops (errors.TooLong place len) → IsFault x
  long_fault place len s = elim (stops_is budget at x (errors.TooLong place len) s) [
    | inr f ↦ f
    | inl p ↦ elim p.4 [ inl q ↦ let is = q.0 in absurd (cc) | inr q ↦ let is = q.0 in absurd (cc) ]
  ]

  pub bytes_passed : step_of budget at x ≡ Stops errors.Bytes → Passes (λ len. budget.bytes < 16 + len) x
  bytes_passed s = elim (stops_is budget at x errors.Bytes s) [
    | inr f ↦ inr f
    | inl p ↦ elim p.4 [ inl q ↦ inl (p.0, p.1, p.2, p.3, q.1) | inr q ↦ let is = q.0 in absurd (cc) ]
  ]

  pub frames_passed : step_of budget at x ≡ Stops errors.Frames → Passes (λ len. budget.frames ≡ 0) x
  frames_passed s = elim (stops_is budget at x errors.Frames s) [
    | inr f ↦ inr f
    | inl p ↦ elim p.4 [ inl q ↦ let is = q.0 in absurd (cc) | inr q ↦ inl (p.0, p.1, p.2, p.3, q.1) ]
  ]
