-- A part of a window goes on to a run over all of the window.
use Rattle.std.proofs.Common.{◌≡◌, ℕ, zero, suc, ◌+◌, inl, inr, IsTrue, IsSome, List, [], ◌∷◌, ◌++◌, length, map, take, drop, Some, refl, sym, ap, ◌∙◌, subst, arith}
use Rattle.std.proofs.lemmas.List.{append-nil, take-append-drop}
use Rattle.fab_base.specs.declared.values.Caught.{Caught}
use Rattle.fab_config.specs.Settings.{Settings, is_in_range}
use Rattle.pcap_file.specs.declared.Record.{Record}
use Rattle.fab_policy.specs.Growing.{FollowedByParts, TimedGrows, with_more}
use Rattle.fab_policy.specs.Journal.{Journal, clock, followed}
use Rattle.fab_policy.specs.Legal.{Legal, HasPorts, numbered_from, of_port}
use Rattle.fab_policy.specs.Ranged.{IsRanged}
use Rattle.fab_policy.specs.Standing.{AreFrames}
use Rattle.fab_policy.specs.declared.event.Event.{Event}
use Rattle.fab_policy.specs.declared.event.Event.TheVariants.{Tick, Frame}
use Rattle.fab_windows.specs.Onward.{AreHeld, AreTicks, CanCome, CanComeAll, FramesExist, TicksExist}
use Rattle.fab_policy.proofs.FollowedLemmas.{of_port-followed, ports-followed, frames-append}
use Rattle.fab_policy.proofs.GrowLemmas.{numbered-append}
use Rattle.fab_windows.specs.Files.{GoesOn}
use Rattle.fab_windows.specs.Parts.{AreTicksOn, HoldFirsts, IsPart, IsNext}
use Rattle.fab_windows.specs.Run.{IsRunOver}
use Rattle.fab_windows.specs.Window.{AreTicksTo, HoldBatches}
use Rattle.fab_windows.proofs.WholeLemmas.{run_on}

abbrev lengths : List (List Record) → List ℕ
lengths taken = map (λ records. length records) taken

-- ---- ticks

ticks_on : (c : Settings) (w : ℕ) (J : Journal) (ticks more : List Event) → AreTicksOn c w J ticks → AreTicks c w (followed J ticks) more → AreTicksTo c w J (ticks ++ more)
ticks_on c w J [] [] h are = are
ticks_on c w J [] (Frame port index caught verdict ∷ more) h are = absurd are
ticks_on c w J [] (Tick m ended ∷ more) h are = (are.0, ticks_on c w (Tick m ended ∷ J) [] more tt are.1)
ticks_on c w J (Frame port index caught verdict ∷ ticks) more h are = absurd h
ticks_on c w J (Tick m ended ∷ ticks) more h are = (h.0, ticks_on c w (Tick m ended ∷ J) ticks more h.1 are)

-- at the end of them the clock is at the window
ticks_end : (c : Settings) (w : ℕ) (J : Journal) (ticks : List Event) → AreTicksTo c w J ticks → clock (followed J ticks) ≡ Some w
ticks_end c w J [] are = are
ticks_end c w J (Frame port index caught verdict ∷ ticks) are = absurd are
ticks_end c w J (Tick m ended ∷ ticks) are = ticks_end c w (Tick m ended ∷ J) ticks are.1

clock-frames : (J : Journal) (frames : List Event) → AreFrames frames → clock (followed J frames) ≡ clock J
clock-frames J [] own = refl
clock-frames J (Tick m ended ∷ frames) own = absurd own
clock-frames J (Frame port index caught verdict ∷ frames) own = clock-frames (Frame port index caught verdict ∷ J) frames own

-- ---- what is left of the frames

abbrev done_of : List Event → ℕ → ℕ
done_of frames p = length (of_port p (followed [] frames))

-- the numbers and the records that are left of each port from p on
abbrev firsts_left : List Event → ℕ → List ℕ → List ℕ
firsts_left frames p [] = []
firsts_left frames p (first ∷ firsts) = (first + done_of frames p) ∷ firsts_left frames (p + 1) firsts

abbrev left_in : List Event → ℕ → List (List Record) → List (List Record)
left_in frames p [] = []
left_in frames p (batch ∷ batches) = drop (done_of frames p) batch ∷ left_in frames (p + 1) batches

length-left : (frames : List Event) (p : ℕ) (batches : List (List Record)) → length (left_in frames p batches) ≡ length batches
length-left frames p [] = refl
length-left frames p (batch ∷ batches) = ap suc (length-left frames (p + 1) batches)

can_behind : (k first : ℕ) (records : List Record) → CanCome first records → CanCome (first + k) (drop k records)
can_behind k first [] can = can_none k first
  where
    can_none : (k first : ℕ) → CanCome (first + k) (drop k [])
    can_none zero first = tt
    can_none (suc k) first = tt
can_behind zero first (r ∷ records) can = subst (λ (n : ℕ). CanCome n (r ∷ records)) (let e : first ≡ first + 0 = omega arith in e) can
can_behind (suc k) first (r ∷ records) can = subst (λ (n : ℕ). CanCome n (drop k records)) (let e : first + 1 + k ≡ first + suc k = omega arith in e) (can_behind k (first + 1) records can.2)

can_left : (frames : List Event) (p : ℕ) (firsts : List ℕ) (batches : List (List Record)) → CanComeAll firsts batches → CanComeAll (firsts_left frames p firsts) (left_in frames p batches)
can_left frames p firsts [] can = tt
can_left frames p [] (batch ∷ batches) can = absurd can
can_left frames p (first ∷ firsts) (batch ∷ batches) can = (can_behind (done_of frames p) first batch can.0, can_left frames (p + 1) firsts batches can.1)

length-numbered : (n : ℕ) (records : List Record) → length (numbered_from n records) ≡ length records
length-numbered n [] = refl
length-numbered n (r ∷ records) = ap suc (length-numbered (n + 1) records)

two_parts : FollowedByParts → (p : ℕ) (frames later : List Event) → of_port p (followed [] (frames ++ later)) ≡ of_port p (followed [] frames) ++ of_port p (followed [] later)
two_parts parts p frames later = ap (of_port p) (parts [] frames later) ∙ of_port-followed p (followed [] frames) later

-- records in two parts
one_whole : (first k : ℕ) (batch : List Record) (a b : List (ℕ × Caught)) → length a ≡ k → a ≡ numbered_from first (take k batch) → b ≡ numbered_from (first + k) (drop k batch) → a ++ b ≡ numbered_from first batch
one_whole first k batch a b size e f =
    let many : length (take k batch) ≡ k = sym (length-numbered first (take k batch)) ∙ ap length (sym e) ∙ size in
    ap (λ l. l ++ b) e ∙ ap (λ l. numbered_from first (take k batch) ++ l) (f ∙ ap (λ (n : ℕ). numbered_from (first + n) (drop k batch)) (sym many))
    ∙ sym (numbered-append first (take k batch) (drop k batch)) ∙ ap (numbered_from first) (take-append-drop k batch)

held_whole : FollowedByParts → (frames later : List Event) (p : ℕ) (firsts : List ℕ) (batches : List (List Record)) → HoldFirsts frames p firsts batches → AreHeld later p (firsts_left frames p firsts) (left_in frames p batches) →
    HoldBatches (frames ++ later) p firsts batches
held_whole parts frames later p firsts [] h k = tt
held_whole parts frames later p [] (batch ∷ batches) h k = absurd h
held_whole parts frames later p (first ∷ firsts) (batch ∷ batches) h k = (
  two_parts parts p frames later ∙ one_whole first (done_of frames p) batch (of_port p (followed [] frames)) (of_port p (followed [] later)) refl h.0 k.0,
  held_whole parts frames later (p + 1) firsts batches h.1 k.1,
)

-- no frames are the first ones
none_first : (p : ℕ) (firsts : List ℕ) (batches : List (List Record)) → CanComeAll firsts batches → HoldFirsts [] p firsts batches
none_first p firsts [] can = tt
none_first p [] (batch ∷ batches) can = absurd can
none_first p (first ∷ firsts) (batch ∷ batches) can = (refl, none_first (p + 1) firsts batches can.1)

module _ (parts : FollowedByParts) (grows : TimedGrows) (frames_exist : FramesExist) (ticks_exist : TicksExist) (c : Settings) (v w : ℕ) (taken batches : List (List Record)) (J : Journal)
    (range : IsTrue (is_in_range c)) (run : IsRunOver c taken J) (next : IsNext c v w taken batches) where
  -- all ticks were made, and some frames
  frames_go_on : (ticks frames : List Event) → AreTicksTo c w J ticks → clock (followed J ticks) ≡ Some w → AreFrames frames → HasPorts (length batches) (followed [] frames) → HoldFirsts frames 1 (lengths taken) batches →
      IsSome (clock (followed (followed J ticks) frames)) → Legal c (followed (followed J ticks) frames) → IsRanged (followed (followed J ticks) frames) →
      (K : Journal) × GoesOn (followed (followed J ticks) frames) K × IsRunOver c (with_more taken batches) K
  frames_go_on ticks frames are at own ports held begun legal ranged =
      let size : length (left_in frames 1 batches) ≡ length batches = length-left frames 1 batches in
      let more = frames_exist c (followed (followed J ticks) frames) (firsts_left frames 1 (lengths taken)) (left_in frames 1 batches) range (omega (arith, size, next.width, next.few))
      (can_left frames 1 (lengths taken) batches next.can) begun legal ranged in
      let x = more.1 in
      let later = more.0 in
      let joined : followed (followed (followed J ticks) frames) later ≡ followed (followed J ticks) (frames ++ later) = sym (parts (followed J ticks) frames later) in
      let ports_both : HasPorts (length batches) (followed [] (frames ++ later)) =
      subst (HasPorts (length batches)) (sym (parts [] frames later)) (ports-followed (length batches) (followed [] frames) later ports (subst (λ (k : ℕ). HasPorts k (followed [] later)) size x.ports)) in (
        followed (followed J ticks) (frames ++ later),
        (later, sym joined),
        record {
          ranged = subst IsRanged joined x.ranged;
          run = run_on grows c v w taken batches J run next.width next.below next.soon next.own next.some ticks (frames ++ later) are (frames-append frames later own x.frames)
              (subst (λ (k : ℕ). HasPorts k (followed [] (frames ++ later))) next.width ports_both) (held_whole parts frames later 1 (lengths taken) batches held x.held) (subst (Legal c) joined x.legal);
        },
      )

  module _ (part : List Event) (p : IsPart c w (lengths taken) batches J part) where
    abbrev I_ticks : Journal
    I_ticks = followed J p.ticks

    split : followed J part ≡ followed I_ticks p.frames
    split = ap (followed J) p.both ∙ parts J p.ticks p.frames

    -- some ticks were made
    from_ticks : p.frames ≡ [] → (K : Journal) × GoesOn (followed J part) K × IsRunOver c (with_more taken batches) K
    from_ticks none =
        let same : followed J part ≡ I_ticks = split ∙ ap (followed I_ticks) none in
        let t = ticks_exist c I_ticks w range next.start next.range p.within (subst (Legal c) same p.legal) (subst IsRanged same p.ranged) in
        let more = t.0 in
        let are : AreTicksTo c w J (p.ticks ++ more) = ticks_on c w J p.ticks more p.are_ticks t.1 in
        let joined : followed J (p.ticks ++ more) ≡ followed I_ticks more = parts J p.ticks more in
        let at = ticks_end c w J (p.ticks ++ more) are in
        let x = frames_go_on (p.ticks ++ more) [] are at tt tt (none_first 1 (lengths taken) batches next.can) (subst IsSome (sym at) refl) (subst (Legal c) (sym joined) t.2) (subst IsRanged (sym joined) t.3) in (
          x.0,
          (
            more ++ x.1.0,
            x.1.1 ∙ ap (λ (L : Journal). followed L x.1.0) joined ∙ sym (parts I_ticks more x.1.0) ∙ ap (λ (L : Journal). followed L (more ++ x.1.0)) (sym same),
          ),
          x.2,
        )

    -- all ticks were made
    from_frames : clock I_ticks ≡ Some w → (K : Journal) × GoesOn (followed J part) K × IsRunOver c (with_more taken batches) K
    from_frames at =
        let are : AreTicksTo c w J p.ticks = subst (AreTicksTo c w J) (append-nil p.ticks) (ticks_on c w J p.ticks [] p.are_ticks at) in
        let begun : IsSome (clock (followed I_ticks p.frames)) = subst IsSome (sym (clock-frames I_ticks p.frames p.are_frames ∙ at)) refl in
        let x = frames_go_on p.ticks p.frames are at p.are_frames p.ports p.held begun (subst (Legal c) split p.legal) (subst IsRanged split p.ranged) in
        (x.0, subst (λ (L : Journal). GoesOn L x.0) (sym split) x.1, x.2)

    pub part_goes_on : (K : Journal) × GoesOn (followed J part) K × IsRunOver c (with_more taken batches) K
    part_goes_on = elim p.order [ inl none ↦ from_ticks none | inr at ↦ from_frames at ]
