-- The frames of entries, port by port.
use Rattle.std.proofs.Common.{◌≡◌, ◌⊎◌, inl, inr, ℕ, ◌+◌, ◌==◌, ◌<◌, ◌≤◌, Bool, true, false, cond, List, [], ◌∷◌, ◌++◌, length, take, get_or, Result, Ok, Err, OnOk, refl, sym, ap, ◌∙◌, arith, eq-eqb}
use Rattle.std.proofs.lemmas.List.{length-take-le, take_more}
use Rattle.std.specs.Prelude.{if◌then◌else◌}
use Rattle.std.specs.Result.{is_err}
use Rattle.fab_base.specs.declared.values.Caught.{Caught}
use Rattle.fab_policy.specs.Journal.{followed}
use Rattle.fab_policy.specs.Legal.{HasPorts, of_port, numbered_from}
use Rattle.fab_policy.specs.Standing.{AreFrames}
use Rattle.fab_policy.specs.declared.event.Event.{Event}
use Rattle.fab_policy.specs.declared.event.Event.TheVariants.{Tick, Frame}
use Rattle.fab_policy.specs.declared.verdict.Verdict.{Verdict}
use Rattle.pcap_file.specs.declared.Record.{Record}
use Rattle.fab_turn.specs.Views as turn
use Rattle.fab_shared.specs.Frames.{port_of_event}
use Rattle.fab_shared.specs.Workers.{frames_in}
use Rattle.fab_policy.proofs.FollowedLemmas.{of_port-followed, ports-followed}
use Rattle.fab_policy.proofs.GrowLemmas.{numbered-append}

pub frames_in-append : (es more : List Event) → frames_in (es ++ more) ≡ frames_in es ++ frames_in more
frames_in-append [] more = refl
frames_in-append (Tick m ended ∷ es) more = frames_in-append es more
frames_in-append (Frame port index caught verdict ∷ es) more = ap (λ (l : List (ℕ × Caught)). (index, caught) ∷ l) (frames_in-append es more)

-- one more entry, of this port or of another
one_more : (b : Bool) (port index : ℕ) (caught : Caught) (verdict : Verdict) (rest : List (ℕ × Caught)) (es : List Event) → rest ≡ frames_in es
    → (if b then (index, caught) ∷ [] else []) ++ rest ≡ frames_in (cond b (Frame port index caught verdict ∷ es) es)
one_more true port index caught verdict rest es h = ap (λ (l : List (ℕ × Caught)). (index, caught) ∷ l) h
one_more false port index caught verdict rest es h = h

-- a port's frames in the journal are those of its entries
pub frames_of_port : (p : ℕ) (es : List Event) → AreFrames es → of_port p (followed [] es) ≡ frames_in (turn.of_port port_of_event p es)
frames_of_port p [] f = refl
frames_of_port p (Tick m ended ∷ es) f = absurd f
frames_of_port p (Frame port index caught verdict ∷ es) f =
    of_port-followed p (Frame port index caught verdict ∷ []) es
    ∙ one_more (port == p) port index caught verdict (of_port p (followed [] es)) (turn.of_port port_of_event p es) (frames_of_port p es f)

tail_none : (b : Bool) (e : Event) (es : List Event) → cond b (e ∷ es) es ≡ [] → es ≡ []
tail_none true e es none = absurd cc
tail_none false e es none = none

-- where only the first n ports have entries, the journal has no other ports
pub ports_within : (n : ℕ) (es : List Event) → AreFrames es → ((p : ℕ) → ((1 ≤ p) × (p ≤ n)) ⊎ (turn.of_port port_of_event p es ≡ [])) → HasPorts n (followed [] es)
ports_within n [] f h = tt
ports_within n (Tick m ended ∷ es) f h = absurd f
ports_within n (Frame port index caught verdict ∷ es) f h =
    let mine = own_within (h port) in ports-followed n (Frame port index caught verdict ∷ []) es (tt, mine.0, mine.1) (ports_within n es f (λ p. others_within p (h p)))
  where
    own_within : ((1 ≤ port) × (port ≤ n)) ⊎ (turn.of_port port_of_event port (Frame port index caught verdict ∷ es) ≡ []) → (1 ≤ port) × (port ≤ n)
    own_within (inl within) = within
    own_within (inr none) = let here : cond (port == port) (Frame port index caught verdict ∷ turn.of_port port_of_event port es) (turn.of_port port_of_event port es) ≡ Frame port index caught verdict ∷ turn.of_port port_of_event port es = rw (eq-eqb port port refl) in absurd cc

    others_within : (p : ℕ) → ((1 ≤ p) × (p ≤ n)) ⊎ (turn.of_port port_of_event p (Frame port index caught verdict ∷ es) ≡ []) → ((1 ≤ p) × (p ≤ n)) ⊎ (turn.of_port port_of_event p es ≡ [])
    others_within p (inl within) = inl within
    others_within p (inr none) = inr (tail_none (port == p) (Frame port index caught verdict) (turn.of_port port_of_event p es) none)

-- the entry of the next record
pub taken_next : (first index place port : ℕ) (items : List Record) (r : Record) (caught : Caught) (v : Verdict) (old new : List Event) → place < length items → r ≡ get_or items place r →
    index ≡ first + place → caught ≡ r.caught → frames_in old ≡ numbered_from first (take place items) → new ≡ old ++ Frame port index caught v ∷ [] →
    frames_in new ≡ numbered_from first (take (place + 1) items)
taken_next first index place port items r caught v old new lt is at same so_far more =
    let front = length-take-le place items (omega arith) in
    let here : index ≡ first + length (take place items) = omega arith in
    let next : take (place + 1) items ≡ take place items ++ r ∷ [] = take_more items place r lt ∙ ap (λ (x : Record). take place items ++ x ∷ []) (sym is) in
    ap frames_in more
    ∙ frames_in-append old (Frame port index caught v ∷ [])
    ∙ ap (λ (l : List (ℕ × Caught)). l ++ (index, caught) ∷ []) so_far
    ∙ ap (λ (i : ℕ). numbered_from first (take place items) ++ (i, caught) ∷ []) here
    ∙ ap (λ (c : Caught). numbered_from first (take place items) ++ (first + length (take place items), c) ∷ []) same
    ∙ sym (numbered-append first (take place items) (r ∷ []))
    ∙ ap (numbered_from first) (sym next)

-- what holds of a call that wasn't refused
pub unless_refused : {A E : Type 0} (r : Result A E) (refused : Bool) (P : Type 0) → refused ≡ is_err r → refused ≡ false → OnOk r P → P
unless_refused (Ok x) refused P is none h = h
unless_refused (Err e) refused P is none h = let both : true ≡ false = sym is ∙ none in absurd cc
