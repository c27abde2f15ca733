-- Frames of ports go on, one after another.
use Rattle.std.proofs.Common.{◌≡◌, ◌≢◌, ℕ, ◌+◌, ◌<◌, ◌≤◌, Bool, cond, IsTrue, IsSome, List, [], ◌∷◌, ◌++◌, length, refl, sym, ap, subst, ◌∙◌, arith, lit≤}
use Rattle.std.proofs.lemmas.Bool.{eq-eqb, ne_eqb}
use Rattle.std.proofs.lemmas.List.{append-nil}
use Rattle.fab_config.specs.Settings.{Settings, is_in_range}
use Rattle.pcap_file.specs.declared.Record.{Record}
use Rattle.fab_policy.specs.Journal.{Journal, clock, followed}
use Rattle.fab_policy.specs.Legal.{HasPorts, Legal, numbered_from, of_port}
use Rattle.fab_policy.specs.Ranged.{IsRanged}
use Rattle.fab_policy.specs.Standing.{AreFrames}
use Rattle.fab_policy.specs.declared.event.Event.{Event}
use Rattle.fab_policy.specs.declared.event.Event.TheVariants.{Frame, Tick}
use Rattle.fab_policy.proofs.FollowedLemmas.{followed-append, frames-append, of_port-followed, ports-append}
use Rattle.fab_policy.proofs.GrowLemmas.{followed_by_parts}
use Rattle.fab_windows.specs.Onward.{AreHeld, CanCome, CanComeAll, FramesExist}
use Rattle.fab_windows.proofs.VerdictLemmas.{verdicts_exist}

-- ---- entries behind others

-- the frames of a port, if they came in two parts
two_parts : (p : ℕ) (es more : List Event) → of_port p (followed [] (es ++ more)) ≡ of_port p (followed [] es) ++ of_port p (followed [] more)
two_parts p es more = ap (of_port p) (followed_by_parts [] es more) ∙ of_port-followed p (followed [] es) more

ports-twice : (n : ℕ) (es more : List Event) → HasPorts n (followed [] es) → HasPorts n (followed [] more) → HasPorts n (followed [] (es ++ more))
ports-twice n es more h k = subst (HasPorts n) (sym (followed_by_parts [] es more ∙ followed-append (followed [] es) more)) (ports-append n (followed [] more) (followed [] es) k h)

clock-frames : (J : Journal) (es : List Event) → AreFrames es → clock (followed J es) ≡ clock J
clock-frames J [] h = refl
clock-frames J (Tick m ended ∷ es) h = absurd h
clock-frames J (Frame port index caught verdict ∷ es) h = clock-frames (Frame port index caught verdict ∷ J) es h

-- ---- one port

-- Frames of a port that come behind a journal, numbered from one on.
record OfPort (c : Settings) (n port first : ℕ) (records : List Record) (J : Journal) (frames : List Event) : Type 0 where
  frames_ : AreFrames frames
  ports : HasPorts n (followed [] frames)
  own : of_port port (followed [] frames) ≡ numbered_from first records
  others : (q : ℕ) → q ≢ port → of_port q (followed [] frames) ≡ []
  legal : Legal c (followed J frames)
  ranged : IsRanged (followed J frames)

module _ (c : Settings) (range : IsTrue (is_in_range c)) (n port : ℕ) (some : 1 ≤ port) (most : port ≤ n) (few : n ≤ 64) where
  port_frames : (records : List Record) (first : ℕ) (J : Journal) → CanCome first records → IsSome (clock J) → Legal c J → IsRanged J → (frames : List Event) × OfPort c n port first records J frames
  port_frames [] first J can at legal ranged = ([], record { frames_ = tt; ports = tt; own = refl; others = λ q ne. refl; legal = legal; ranged = ranged })
  port_frames (r ∷ records) first J can at legal ranged =
      let v = verdicts_exist c J port r.caught range ranged can.1 in
      let e = Frame port first r.caught v.0 in
      let more = port_frames records (first + 1) (e ∷ J) can.2 at (legal, (at, v.1)) (ranged, (some, omega (arith, most, few), can.0, can.1, v.2)) in
      let rest = more.1 in (
        e ∷ more.0,
        record {
          frames_ = rest.frames_;
          ports = ports-twice n (e ∷ []) more.0 (tt, some, most) rest.ports;
          own = two_parts port (e ∷ []) more.0 ∙ ap (λ (b : Bool). cond b ((first, r.caught) ∷ []) [] ++ of_port port (followed [] more.0)) (eq-eqb port port refl) ∙ ap (λ l. (first, r.caught) ∷ l) rest.own;
          others = λ q ne. two_parts q (e ∷ []) more.0 ∙ ap (λ (b : Bool). cond b ((first, r.caught) ∷ []) [] ++ of_port q (followed [] more.0)) (ne_eqb port q (λ x. ne (sym x))) ∙ rest.others q ne;
          legal = rest.legal;
          ranged = rest.ranged;
        },
      )

-- ---- all ports

-- frames of ports before these change nothing of what these have
held_behind : (es more : List Event) (p : ℕ) (firsts : List ℕ) (batches : List (List Record)) → ((q : ℕ) → p ≤ q → of_port q (followed [] es) ≡ []) → AreHeld more p firsts batches → AreHeld (es ++ more) p firsts batches
held_behind es more p firsts [] none h = tt
held_behind es more p [] (batch ∷ batches) none h = absurd h
held_behind es more p (first ∷ firsts) (batch ∷ batches) none h = (
  two_parts p es more ∙ ap (λ l. l ++ of_port p (followed [] more)) (none p (let le : p ≤ p = omega arith in le)) ∙ h.0,
  held_behind es more (p + 1) firsts batches (λ q le. none q (omega (arith, le))) h.1,
)

-- Frames of the ports from one on.
record OfPorts (c : Settings) (n p : ℕ) (firsts : List ℕ) (batches : List (List Record)) (J : Journal) (frames : List Event) : Type 0 where
  frames_ : AreFrames frames
  ports : HasPorts n (followed [] frames)
  held : AreHeld frames p firsts batches
  before : (q : ℕ) → q < p → of_port q (followed [] frames) ≡ []
  legal : Legal c (followed J frames)
  ranged : IsRanged (followed J frames)

module _ (c : Settings) (range : IsTrue (is_in_range c)) (n : ℕ) (few : n ≤ 64) where
  all_frames : (batches : List (List Record)) (p : ℕ) (firsts : List ℕ) (J : Journal) → 1 ≤ p → p + length batches ≤ n + 1 → CanComeAll firsts batches → IsSome (clock J) → Legal c J → IsRanged J →
      (frames : List Event) × OfPorts c n p firsts batches J frames
  all_frames [] p firsts J some most can at legal ranged = ([], record { frames_ = tt; ports = tt; held = tt; before = λ q lt. refl; legal = legal; ranged = ranged })
  all_frames (batch ∷ batches) p [] J some most can at legal ranged = absurd can
  all_frames (batch ∷ batches) p (first ∷ firsts) J some most can at legal ranged =
      let here = port_frames c range n p some (omega (arith, most)) few batch first J can.0 at legal ranged in
      let one = here.1 in
      let later = all_frames batches (p + 1) firsts (followed J here.0) (omega (arith, some)) (omega (arith, most)) can.1 (subst IsSome (sym (clock-frames J here.0 one.frames_)) at) one.legal one.ranged in
      let two = later.1 in (
        here.0 ++ later.0,
        record {
          frames_ = frames-append here.0 later.0 one.frames_ two.frames_;
          ports = ports-twice n here.0 later.0 one.ports two.ports;
          held = (
            two_parts p here.0 later.0 ∙ ap (λ l. of_port p (followed [] here.0) ++ l) (two.before p (omega arith)) ∙ append-nil (of_port p (followed [] here.0)) ∙ one.own,
            held_behind here.0 later.0 (p + 1) firsts batches (λ q le. one.others q (λ e. absurd (omega (arith, le, e)))) two.held,
          );
          before = λ q lt.
              two_parts q here.0 later.0 ∙ ap (λ l. l ++ of_port q (followed [] later.0)) (one.others q (λ e. absurd (omega (arith, lt, e)))) ∙ two.before q (omega (arith, lt));
          legal = subst (Legal c) (sym (followed_by_parts J here.0 later.0)) two.legal;
          ranged = subst IsRanged (sym (followed_by_parts J here.0 later.0)) two.ranged;
        },
      )

pub frames_exist : FramesExist
frames_exist c J firsts batches range few can at legal ranged =
    let all = all_frames c range (length batches) few batches 1 firsts J (lit≤ tt) (omega arith) can at legal ranged in
    (all.0, record { frames = all.1.frames_; ports = all.1.ports; held = all.1.held; legal = all.1.legal; ranged = all.1.ranged })
