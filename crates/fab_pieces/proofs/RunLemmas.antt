-- A run and a run of a piece, one behind the other.
use Rattle.std.proofs.Common.{◌≡◌, ℕ, zero, suc, ◌+◌, ◌-◌, ◌<◌, ◌≤◌, ◌⊎◌, inl, inr, ◌%◌, Bool, true, false, eqb, List, [], ◌∷◌, ◌++◌, length, length-append, drop, slice_get, Option, Some, None, IfSome, IsTrue, unwrap_or, refl, sym, ap, ◌∙◌, subst, arith, map}
use Rattle.std.specs.Prelude.{option_and_then, if◌then◌else◌}
use Rattle.std.proofs.lemmas.Bool.{cases_eq, cases_order, eq-eqb, ne_eqb}
use Rattle.std.proofs.lemmas.List.{append-nil}
use Rattle.fab_base.specs.declared.values.Caught.{Caught}
use Rattle.fab_config.specs.Settings.{Settings}
use Rattle.pcap_file.specs.declared.Record.{Record}
use Rattle.fab_policy.specs.Growing.{AllBelow, AllFrom, AreBelow, AreFrom, TimedGrows, with_more}
use Rattle.fab_policy.specs.Journal.{Journal, clock, now}
use Rattle.fab_policy.specs.Legal.{HasPorts, HoldsFrames, InTime, IsLeastOf, IsNextTickBy, IsTickTimeAt, Run, Timed, is_tick_owed, left_of, numbered_from, of_port, record_of, window_start, windows_left}
use Rattle.fab_policy.specs.Outputs.{State, state_of}
use Rattle.fab_policy.specs.State.{now_of}
use Rattle.fab_policy.specs.declared.event.Event.{Event}
use Rattle.fab_policy.specs.declared.event.Event.TheVariants.{Tick, Frame}
use Rattle.fab_policy.specs.declared.verdict.Verdict.{Verdict}
use Rattle.fab_policy.proofs.FollowedLemmas.{of_port-append, ports-append}
use Rattle.fab_policy.proofs.GrowLemmas.{length-numbered, numbered-append, numbered_place}
use Rattle.fab_pieces.specs.Laws.{RunsAreFrom, RunsAreLater, RunsJoin, RunsLeavePieces}
use Rattle.fab_states.specs.Runs.{HoldsFrom, InTimeFrom, RunFrom, TimedFrom, counts_of, first_of, none_of, record_from}
use Rattle.fab_states.specs.States.{state_on}
use Rattle.fab_states.proofs.GrowLemmas.{InFrontFrom, all_in_front, front_before}
use Rattle.fab_states.proofs.NothingLemmas.{none_at}
use Rattle.fab_states.proofs.OnLemmas.{legal-behind}
use Rattle.fab_pieces.proofs.JoinLemmas.{legal_first, legal_is_cut, states_are_on, states_follow}

-- ---- the frames of a port

same_width : (K : Journal) (p : ℕ) (ins more : List (List Record)) → HoldsFrom K p (counts_of ins) more → length more ≡ length ins
same_width K p [] [] h = refl
same_width K p [] (qs ∷ more) h = absurd h
same_width K p (rs ∷ ins) [] h = absurd h
same_width K p (rs ∷ ins) (qs ∷ more) h = let e = same_width K (p + 1) ins more h.1 in omega arith

joined_width : (ins more : List (List Record)) → length (with_more ins more) ≡ length ins
joined_width [] more = refl
joined_width (rs ∷ ins) [] = refl
joined_width (rs ∷ ins) (qs ∷ more) = let e = joined_width ins more in omega arith

held_joined : (I K : Journal) (p : ℕ) (ins more : List (List Record)) → HoldsFrames I p ins → HoldsFrom K p (counts_of ins) more → HoldsFrames (K ++ I) p (with_more ins more)
held_joined I K p [] more h k = tt
held_joined I K p (rs ∷ ins) [] h k = absurd k
held_joined I K p (rs ∷ ins) (qs ∷ more) h k = (
  of_port-append p K I
      ∙ ap (λ l. l ++ of_port p K) h.0
      ∙ ap (λ l. numbered_from 0 rs ++ l) k.0
      ∙ ap (λ (n : ℕ). numbered_from 0 rs ++ numbered_from n qs) (omega arith)
      ∙ sym (numbered-append 0 rs qs),
  held_joined I K (p + 1) ins more h.1 k.1,
)

-- ---- the place of a frame

-- the index of a frame is the first of its port and how many frames of the piece came before it on the port
frame_place : (index : ℕ) (caught : Caught) (verdict : Verdict) (K : Journal) (port p k : ℕ) (firsts : List ℕ) (ins : List (List Record)) →
    port ≡ p + k → k < length ins → InFrontFrom (Frame port index caught verdict ∷ K) p firsts ins → index ≡ unwrap_or (slice_get firsts k) 0 + length (of_port port K)
frame_place index caught verdict K port p k firsts [] e lt h = absurd (omega arith)
frame_place index caught verdict K port p k [] (rs ∷ ins) e lt h = absurd h
frame_place index caught verdict K port p zero (first ∷ firsts) (rs ∷ ins) e lt h =
    let same : port ≡ p = omega arith in
    let own : eqb port p ≡ true = eq-eqb port p same in
    let front = ap (λ (b : Bool). (of_port p K ++ (if b then (index, caught) ∷ [] else [])) ++ h.0.0) (sym own) ∙ h.0.1 in
    (numbered_place first rs (of_port p K) h.0.0 index caught front).0 ∙ ap (λ (q : ℕ). first + length (of_port q K)) (sym same)
frame_place index caught verdict K port p (suc k) (first ∷ firsts) (rs ∷ ins) e lt h =
    frame_place index caught verdict K port (p + 1) k firsts ins (omega arith) (omega arith) h.1

-- ---- the records that are left

drop_behind : (rs qs : List Record) (n k : ℕ) → n ≡ length rs + k → drop n (rs ++ qs) ≡ drop k qs
drop_behind [] qs n k e = ap (λ (i : ℕ). drop i qs) (omega arith)
drop_behind (r ∷ rs) qs zero k e = absurd (omega arith)
drop_behind (r ∷ rs) qs (suc n) k e = drop_behind rs qs n k (omega arith)

windows_joined : (c : Settings) (I K : Journal) (p : ℕ) (ins more : List (List Record)) → HoldsFrames I p ins → length more ≡ length ins → windows_left c p (with_more ins more) (K ++ I) ≡ windows_left c p more K
windows_joined c I K p [] [] h e = refl
windows_joined c I K p [] (qs ∷ more) h e = absurd (omega arith)
windows_joined c I K p (rs ∷ ins) [] h e = absurd (omega arith)
windows_joined c I K p (rs ∷ ins) (qs ∷ more) h e =
    let all = ap length (of_port-append p K I) ∙ length-append (of_port p I) (of_port p K) in
    let own = ap length h.0 ∙ length-numbered 0 rs in
    let left : left_of p (rs ++ qs) (K ++ I) ≡ left_of p qs K = drop_behind rs qs (length (of_port p (K ++ I))) (length (of_port p K)) (omega arith) in
    ap (λ l. map (λ (r : Record). window_start c r.moment) l ++ windows_left c (p + 1) (with_more ins more) (K ++ I)) left
    ∙ ap (λ l. map (λ (r : Record). window_start c r.moment) (left_of p qs K) ++ l) (windows_joined c I K (p + 1) ins more h.1 (omega arith))

-- ---- the record of an entry

slice_behind : (rs qs : List Record) (i : ℕ) → length rs ≤ i → slice_get (rs ++ qs) i ≡ slice_get qs (i - length rs)
slice_behind [] qs i le = ap (λ (k : ℕ). slice_get qs k) (omega arith)
slice_behind (r ∷ rs) qs zero le = absurd (omega arith)
slice_behind (r ∷ rs) qs (suc i) le = slice_behind rs qs i (omega arith) ∙ ap (λ (k : ℕ). slice_get qs k) (omega arith)

record_joined : (k i : ℕ) (ins more : List (List Record)) → length more ≡ length ins → k < length ins → unwrap_or (slice_get (counts_of ins) k) 0 ≤ i →
    option_and_then (λ rs. slice_get rs i) (slice_get (with_more ins more) k) ≡ option_and_then (λ rs. slice_get rs (i - unwrap_or (slice_get (counts_of ins) k) 0)) (slice_get more k)
record_joined k i [] more e lt le = absurd (omega arith)
record_joined k i (rs ∷ ins) [] e lt le = absurd (omega arith)
record_joined zero i (rs ∷ ins) (qs ∷ more) e lt le = slice_behind rs qs i le
record_joined (suc k) i (rs ∷ ins) (qs ∷ more) e lt le = record_joined k i ins more (omega arith) (omega arith) le

-- ---- time

entry_joined : (c : Settings) (I K : Journal) (ins more : List (List Record)) (e : Event) → HoldsFrames I 1 ins → length more ≡ length ins → HasPorts (length more) (e ∷ K) →
    InFrontFrom (e ∷ K) 1 (counts_of ins) more → InTimeFrom c (state_of c I) (counts_of ins) more K e → InTime c (with_more ins more) (K ++ I) e
entry_joined c I K ins more (Tick m ended) held width ports front t = (
  t.0,
  subst (λ ms. IsLeastOf ms t.0) (sym (windows_joined c I K 1 ins more held width)) t.1,
  subst (λ S. IsNextTickBy c S t.0 m) (sym (states_follow c I K)) t.2,
)
entry_joined c I K ins more (Frame port index caught verdict) held width ports front t =
    let some = ports.1 in
    let most = ports.2 in
    let place = frame_place index caught verdict K port 1 (port - 1) (counts_of ins) more (omega arith) (omega arith) front in
    let same = record_joined (port - 1) index ins more width (omega arith) (omega arith) in
    subst (λ o. IfSome o (λ r. clock (K ++ I) ≡ Some (window_start c r.moment))) (sym same)
    (subst (λ S. IfSome (record_from (counts_of ins) more port index) (λ r. S.tables.clock ≡ Some (window_start c r.moment))) (sym (states_follow c I K)) t)

time_joined : (c : Settings) (I K : Journal) (ins more : List (List Record)) → HoldsFrames I 1 ins → length more ≡ length ins → HasPorts (length more) K →
    InFrontFrom K 1 (counts_of ins) more → TimedFrom c (state_of c I) (counts_of ins) more K → Timed c (with_more ins more) I → Timed c (with_more ins more) (K ++ I)
time_joined c I [] ins more held width ports front t before = before
time_joined c I (Tick m ended ∷ K) ins more held width ports front t before = (
  time_joined c I K ins more held width ports (front_before (Tick m ended) K 1 (counts_of ins) more front) t.0 before,
  entry_joined c I K ins more (Tick m ended) held width ports front t.1,
)
time_joined c I (Frame port index caught verdict ∷ K) ins more held width ports front t before = (
  time_joined c I K ins more held width ports.0 (front_before (Frame port index caught verdict) K 1 (counts_of ins) more front) t.0 before,
  entry_joined c I K ins more (Frame port index caught verdict) held width ports front t.1,
)

-- ---- windows

-- the windows of the first n records lie between two moments
abbrev pub Within : Settings → ℕ → ℕ → ℕ → List Record → Type 0
Within c low high n rs = (i : ℕ) (r : Record) → i < n → slice_get rs i ≡ Some r → (low ≤ window_start c r.moment) × (window_start c r.moment ≤ high)

pub tick_later : (c : Settings) (B : State) (w m : ℕ) → IsNextTickBy c B w m → now_of B.tables ≤ m
tick_later c B w m h = by (B.tables.clock) h
  where
    by : (o : Option ℕ) → elim o as (λ _. Type 0) [
      | None ↦ m ≡ w
      | Some t ↦ (t < m) × (m ≤ w) × ((m ≡ w) ⊎ IsTrue (is_tick_owed c B.tables B.advertised m)) × (m % c.window ≡ 0)
          × ((k : ℕ) → IsTickTimeAt c B.tables.clock k → k < m → is_tick_owed c B.tables B.advertised k ≡ false)
    ] → unwrap_or o 0 ≤ m
    by None h = omega arith
    by (Some t) h = let lt = h.0 in omega arith

-- the clock of a window that it is, as a number
clock_is : (o : Option ℕ) (w : ℕ) → o ≡ Some w → unwrap_or o 0 ≡ w
clock_is o w e = ap (λ (x : Option ℕ). unwrap_or x 0) e

module _ (c : Settings) (S : State) (firsts : List ℕ) (ins : List (List Record)) where
  abbrev at_end : Journal → ℕ
  at_end K = now_of (state_on c S K).tables

  -- what holds of the records whose frames came so far
  abbrev Passed : Journal → Type 0
  Passed K = (now_of S.tables ≤ at_end K) × ((k : ℕ) (rs : List Record) → slice_get ins k ≡ Some rs → Within c (now_of S.tables) (at_end K) (length (of_port (k + 1) K)) rs)

  frame_passed : (port index : ℕ) (caught : Caught) (verdict : Verdict) (K : Journal) → HasPorts (length ins) (Frame port index caught verdict ∷ K) →
      InFrontFrom (Frame port index caught verdict ∷ K) 1 firsts ins → InTimeFrom c S firsts ins K (Frame port index caught verdict) → Passed K →
      (k : ℕ) (rs : List Record) → slice_get ins k ≡ Some rs → Within c (now_of S.tables) (at_end K) (length (of_port (k + 1) (Frame port index caught verdict ∷ K))) rs
  frame_passed port index caught verdict K ports front t h k rs is i r lt at = by_port (cases_eq port (k + 1))
    where
      by_port : (port ≡ k + 1) ⊎ (port ≡ k + 1 → ⊥) → (now_of S.tables ≤ window_start c r.moment) × (window_start c r.moment ≤ at_end K)
      by_port (inr ne) =
          let other : eqb port (k + 1) ≡ false = ne_eqb port (k + 1) ne in
          let same : length (of_port (k + 1) (Frame port index caught verdict ∷ K)) ≡ length (of_port (k + 1) K) =
          ap (λ (b : Bool). length (of_port (k + 1) K ++ (if b then (index, caught) ∷ [] else []))) other ∙ ap length (append-nil (of_port (k + 1) K)) in
          h.1 k rs is i r (subst (λ (n : ℕ). i < n) same lt) at
      by_port (inl e) = by_place (cases_eq i (length (of_port (k + 1) K)))
        where
          longer : length (of_port (k + 1) (Frame port index caught verdict ∷ K)) ≡ length (of_port (k + 1) K) + 1
          longer =
              ap (λ (b : Bool). length (of_port (k + 1) K ++ (if b then (index, caught) ∷ [] else []))) (eq-eqb port (k + 1) e)
              ∙ length-append (of_port (k + 1) K) ((index, caught) ∷ [])

          less : i < length (of_port (k + 1) K) + 1
          less = subst (λ (n : ℕ). i < n) longer lt

          by_place : (i ≡ length (of_port (k + 1) K)) ⊎ (i ≡ length (of_port (k + 1) K) → ⊥) → (now_of S.tables ≤ window_start c r.moment) × (window_start c r.moment ≤ at_end K)
          by_place (inr ne) = h.1 k rs is i r (below i (length (of_port (k + 1) K)) less ne) at
            where
              below : (x y : ℕ) → x < y + 1 → (x ≡ y → ⊥) → x < y
              below x y lt ne = elim (cases_order x y) [ inl e ↦ absurd (ne e) | inr (inl l) ↦ l | inr (inr l) ↦ absurd (omega (arith, lt, l)) ]
          by_place (inl here) =
              let most = ports.2 in
              let place = frame_place index caught verdict K port 1 k firsts ins (omega arith) (omega arith) front in
              let index_is : index - first_of firsts port ≡ i =
              ap (λ (q : ℕ). index - unwrap_or (slice_get firsts q) 0) (let x : port - 1 ≡ k = omega arith in x)
              ∙ (let x = ap (λ (q : ℕ). length (of_port q K)) e in omega arith) in
              let found : record_from firsts ins port index ≡ Some r =
              ap (λ (q : ℕ). record_of ins port q) index_is
              ∙ ap (λ (q : ℕ). option_and_then (λ xs. slice_get xs i) (slice_get ins q)) (let x : port - 1 ≡ k = omega arith in x)
              ∙ ap (λ o. option_and_then (λ xs. slice_get xs i) o) is ∙ at in
              let its : (state_on c S K).tables.clock ≡ Some (window_start c r.moment) =
              subst (λ o. IfSome o (λ x. (state_on c S K).tables.clock ≡ Some (window_start c x.moment))) found t in
              let now_is = clock_is ((state_on c S K).tables.clock) (window_start c r.moment) its in
              let low = h.0 in
              (omega (arith, low, now_is), omega (arith, now_is))

  passed : (K : Journal) → HasPorts (length ins) K → InFrontFrom K 1 firsts ins → TimedFrom c S firsts ins K → Passed K
  passed [] ports front t = (omega arith, λ k rs is i r lt at. absurd (omega (arith, lt)))
  passed (Tick m ended ∷ K) ports front t =
      let h = passed K ports (front_before (Tick m ended) K 1 firsts ins front) t.0 in
      let low = h.0 in
      let later = tick_later c (state_on c S K) t.1.0 m t.1.2 in
      (omega (arith, low, later), λ k rs is i r lt at. let b = h.1 k rs is i r lt at in (b.0, omega (arith, b.1, later)))
  passed (Frame port index caught verdict ∷ K) ports front t =
      let h = passed K ports.0 (front_before (Frame port index caught verdict) K 1 firsts ins front) t.0 in
      (h.0, frame_passed port index caught verdict K ports front t.1 h)

  -- where all records came, all windows lie so
  all_passed : (K : Journal) → RunFrom c S firsts ins K → (k : ℕ) (rs : List Record) → slice_get ins k ≡ Some rs → Within c (now_of S.tables) (at_end K) (length rs) rs
  all_passed K run k rs is = subst (λ (n : ℕ). Within c (now_of S.tables) (at_end K) n rs) (count k firsts ins rs 1 is run.frames) ((passed K run.ports (all_in_front K 1 firsts ins run.frames) run.timed).1 k rs is)
    where
      count : (k : ℕ) (fs : List ℕ) (xs : List (List Record)) (rs : List Record) (p : ℕ) → slice_get xs k ≡ Some rs → HoldsFrom K p fs xs → length (of_port (k + p) K) ≡ length rs
      count k fs [] rs p e h = absurd (cc)
      count k [] (qs ∷ xs) rs p e h = absurd h
      count zero (first ∷ fs) (qs ∷ xs) rs p e h =
          let same : qs ≡ rs = cc in
          ap (λ (q : ℕ). length (of_port q K)) (let x : zero + p ≡ p = omega arith in x) ∙ ap length h.0 ∙ length-numbered first qs ∙ ap length same
      count (suc k) (first ∷ fs) (qs ∷ xs) rs p e h = ap (λ (q : ℕ). length (of_port q K)) (let x : suc k + p ≡ k + (p + 1) = omega arith in x) ∙ count k fs xs rs (p + 1) e h.1

are_from : (c : Settings) (low high : ℕ) (rs : List Record) → Within c low high (length rs) rs → AreFrom c low rs
are_from c low high [] h = tt
are_from c low high (r ∷ rs) h = ((h 0 r (omega arith) refl).0, are_from c low high rs (λ i q lt at. h (suc i) q (omega (arith, lt)) at))

are_below : (c : Settings) (low high : ℕ) (rs : List Record) → Within c low high (length rs) rs → AreBelow c (high + 1) rs
are_below c low high [] h = tt
are_below c low high (r ∷ rs) h = (let le = (h 0 r (omega arith) refl).1 in omega arith, are_below c low high rs (λ i q lt at. h (suc i) q (omega (arith, lt)) at))

all_from : (c : Settings) (low high : ℕ) (ins : List (List Record)) → ((k : ℕ) (rs : List Record) → slice_get ins k ≡ Some rs → Within c low high (length rs) rs) → AllFrom c low ins
all_from c low high [] h = tt
all_from c low high (rs ∷ ins) h = (are_from c low high rs (h 0 rs refl), all_from c low high ins (λ k qs is. h (suc k) qs is))

all_below : (c : Settings) (low high : ℕ) (ins : List (List Record)) → ((k : ℕ) (rs : List Record) → slice_get ins k ≡ Some rs → Within c low high (length rs) rs) → AllBelow c (high + 1) ins
all_below c low high [] h = tt
all_below c low high (rs ∷ ins) h = (are_below c low high rs (h 0 rs refl), all_below c low high ins (λ k qs is. h (suc k) qs is))

pub runs_are_later : RunsAreLater
runs_are_later c S firsts ins K run = all_from c (now_of S.tables) (now_of (state_on c S K).tables) ins (all_passed c S firsts ins K run)

-- ---- a run is a piece from the beginning

held_first : (J : Journal) (p : ℕ) (ins : List (List Record)) → HoldsFrames J p ins → HoldsFrom J p (none_of ins) ins
held_first J p [] h = tt
held_first J p (rs ∷ ins) h = (h.0, held_first J (p + 1) ins h.1)

record_first : (ins : List (List Record)) (port index : ℕ) → record_of ins port index ≡ record_from (none_of ins) ins port index
record_first ins port index = ap (λ (q : ℕ). record_of ins port q) (let none = none_at (port - 1) ins in let x : index ≡ index - first_of (none_of ins) port = omega arith in x)

entry_first : (c : Settings) (ins : List (List Record)) (J : Journal) (e : Event) → InTime c ins J e → InTimeFrom c (state_of c []) (none_of ins) ins J e
entry_first c ins J (Tick m ended) t = (t.0, t.1, subst (λ S. IsNextTickBy c S t.0 m) (states_are_on c J) t.2)
entry_first c ins J (Frame port index caught verdict) t =
    subst (λ o. IfSome o (λ r. (state_on c (state_of c []) J).tables.clock ≡ Some (window_start c r.moment))) (record_first ins port index)
    (subst (λ S. IfSome (record_of ins port index) (λ r. S.tables.clock ≡ Some (window_start c r.moment))) (states_are_on c J) t)

time_first : (c : Settings) (ins : List (List Record)) (J : Journal) → Timed c ins J → TimedFrom c (state_of c []) (none_of ins) ins J
time_first c ins [] t = tt
time_first c ins (e ∷ J) t = (time_first c ins J t.0, entry_first c ins J e t.1)

pub runs_are_from : RunsAreFrom
runs_are_from c ins J run = record {
  ports = run.ports;
  frames = held_first J 1 ins run.frames;
  legal = legal_first c J run.legal;
  timed = time_first c ins J run.timed;
}

-- ---- both

run_below : (c : Settings) (ins : List (List Record)) (I : Journal) → Run c ins I → AllBelow c (now I + 1) ins
run_below c ins I run =
    subst (λ S. AllBelow c (now_of S.tables + 1) ins) (sym (states_are_on c I))
    (all_below c (now_of (state_of c []).tables) (now_of (state_on c (state_of c []) I).tables) ins (all_passed c (state_of c []) (none_of ins) ins I (runs_are_from c ins I run)))

pub runs_join : TimedGrows → RunsJoin
runs_join grows c ins more I K run piece =
    let width = same_width K 1 ins more piece.frames in
    let ports = subst (λ (n : ℕ). HasPorts n K) width piece.ports in
    record {
      ports = subst (λ (n : ℕ). HasPorts n (K ++ I)) (sym (joined_width ins more)) (ports-append (length ins) K I ports run.ports);
      frames = held_joined I K 1 ins more run.frames piece.frames;
      legal = legal-behind c I K run.legal piece.legal;
      timed = time_joined c I K ins more run.frames width piece.ports (all_in_front K 1 (counts_of ins) more piece.frames) piece.timed
          (grows c (now I) ins more I run.ports run.frames run.timed (run_below c ins I run) (runs_are_later c (state_of c I) (counts_of ins) more K piece) width);
    }

-- ---- cut

ports_behind : (n : ℕ) (I K : Journal) → HasPorts n (K ++ I) → HasPorts n K
ports_behind n I [] h = tt
ports_behind n I (Tick m ended ∷ K) h = ports_behind n I K h
ports_behind n I (Frame port index caught verdict ∷ K) h = (ports_behind n I K h.0, h.1, h.2)

same_behind : (l m r : List (ℕ × Caught)) → l ++ m ≡ l ++ r → m ≡ r
same_behind [] m r e = e
same_behind (x ∷ l) m r e = same_behind l m r (let tails : l ++ m ≡ l ++ r = cc in tails)

held_behind : (I K : Journal) (p : ℕ) (ins more : List (List Record)) → length more ≡ length ins → HoldsFrames I p ins → HoldsFrames (K ++ I) p (with_more ins more) → HoldsFrom K p (counts_of ins) more
held_behind I K p [] [] e h k = tt
held_behind I K p [] (qs ∷ more) e h k = absurd (omega arith)
held_behind I K p (rs ∷ ins) [] e h k = absurd (omega arith)
held_behind I K p (rs ∷ ins) (qs ∷ more) e h k =
    let whole : of_port p I ++ of_port p K ≡ numbered_from 0 rs ++ numbered_from (0 + length rs) qs = sym (of_port-append p K I) ∙ k.0 ∙ numbered-append 0 rs qs in
    let front : numbered_from 0 rs ++ of_port p K ≡ numbered_from 0 rs ++ numbered_from (0 + length rs) qs = ap (λ l. l ++ of_port p K) (sym h.0) ∙ whole in (
      same_behind (numbered_from 0 rs) (of_port p K) (numbered_from (0 + length rs) qs) front ∙ ap (λ (n : ℕ). numbered_from n qs) (omega arith),
      held_behind I K (p + 1) ins more (omega arith) h.1 k.1,
    )

entry_behind : (c : Settings) (I K : Journal) (ins more : List (List Record)) (e : Event) → HoldsFrames I 1 ins → length more ≡ length ins → HasPorts (length more) (e ∷ K) →
    InFrontFrom (e ∷ K) 1 (counts_of ins) more → InTime c (with_more ins more) (K ++ I) e → InTimeFrom c (state_of c I) (counts_of ins) more K e
entry_behind c I K ins more (Tick m ended) held width ports front t = (
  t.0,
  subst (λ ms. IsLeastOf ms t.0) (windows_joined c I K 1 ins more held width) t.1,
  subst (λ S. IsNextTickBy c S t.0 m) (states_follow c I K) t.2,
)
entry_behind c I K ins more (Frame port index caught verdict) held width ports front t =
    let some = ports.1 in
    let most = ports.2 in
    let place = frame_place index caught verdict K port 1 (port - 1) (counts_of ins) more (omega arith) (omega arith) front in
    let same = record_joined (port - 1) index ins more width (omega arith) (omega arith) in
    subst (λ S. IfSome (record_from (counts_of ins) more port index) (λ r. S.tables.clock ≡ Some (window_start c r.moment))) (states_follow c I K)
    (subst (λ o. IfSome o (λ r. clock (K ++ I) ≡ Some (window_start c r.moment))) same t)

time_behind : (c : Settings) (I K : Journal) (ins more : List (List Record)) → HoldsFrames I 1 ins → length more ≡ length ins → HasPorts (length more) K →
    InFrontFrom K 1 (counts_of ins) more → Timed c (with_more ins more) (K ++ I) → TimedFrom c (state_of c I) (counts_of ins) more K
time_behind c I [] ins more held width ports front t = tt
time_behind c I (Tick m ended ∷ K) ins more held width ports front t =
    (time_behind c I K ins more held width ports (front_before (Tick m ended) K 1 (counts_of ins) more front) t.0, entry_behind c I K ins more (Tick m ended) held width ports front t.1)
time_behind c I (Frame port index caught verdict ∷ K) ins more held width ports front t = (
  time_behind c I K ins more held width ports.0 (front_before (Frame port index caught verdict) K 1 (counts_of ins) more front) t.0,
  entry_behind c I K ins more (Frame port index caught verdict) held width ports front t.1,
)

pub runs_leave_pieces : RunsLeavePieces
runs_leave_pieces c ins more I K width held run =
    let ports = subst (λ (n : ℕ). HasPorts n K) (joined_width ins more ∙ sym width) (ports_behind (length (with_more ins more)) I K run.ports) in
    let frames = held_behind I K 1 ins more width held run.frames in
    record {
      ports = ports;
      frames = frames;
      legal = ((legal_is_cut c I K).0 run.legal).1;
      timed = time_behind c I K ins more held width ports (all_in_front K 1 (counts_of ins) more frames) run.timed;
    }
