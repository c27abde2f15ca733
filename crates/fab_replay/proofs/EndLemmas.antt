-- The place behind the last frame of the captures, where a journal ends.
use Rattle.std.proofs.Common.{◌≡◌, ℕ, ◌+◌, ◌≤◌, inr, Bool, true, false, eqb, MatchBool, List, [], length, drop, Option, None, refl, sym, subst, ◌∙◌, arith, Ok, Err}
use Rattle.std.specs.Prelude.{Result, IfOk, IfErr}
use Rattle.std.proofs.lemmas.Bool.{eqb-true, eqb-false}
use Rattle.fab_policy.specs.Journal.{Journal}
use Rattle.fab_policy.specs.Standing.{Contents}
use Rattle.fab_policy.specs.declared.line.Line.{Line}
use Rattle.fab_policy.specs.declared.line.Line.TheVariants.{Tick, Frame}
use Rattle.fab_policy.specs.declared.verdict.Verdict.{Verdict}
use Rattle.pcap_file.specs.declared.Record.{Record}
use Rattle.fab_replay.specs.Front.{IsGatheredTo, has_left}
use Rattle.fab_replay.specs.FrontFrom.{IsFirstWrongFrom, IsNextFrameFrom, expects_tick_from}
use Rattle.fab_replay.specs.Lines.{IsLineAt, IsOfLine, IsUnread, behind_by, end_fault, number_behind}
use Rattle.fab_replay.specs.Steps.{IsFound, IsReached, Scene}
use Rattle.fab_replay.specs.declared.fault.CheckFault.{CheckFault}
use Rattle.fab_replay.specs.declared.fault.CheckFault.TheVariants as fault
use Rattle.fab_replay.specs.declared.fault.LineWhy.TheVariants as why
use Rattle.fab_replay.specs.declared.lines.Place.{Place}
use Rattle.fab_replay.proofs.LineLemmas.{line_as, unread_as}
use Rattle.fab_replay.proofs.LeftLemmas.{gathered_all, left_some}
use Rattle.fab_replay.proofs.ListLemmas.{none_long, rest_none}
use Rattle.fab_replay.proofs.StepLemmas.{wrong_here}

-- whether a text ends at a place
pub end_case : (bytes : List ℕ) (at : ℕ) → at ≤ length bytes → MatchBool (eqb at (length bytes)) (drop at bytes ≡ []) (drop at bytes ≡ [] → ⊥)
end_case bytes at le = go (eqb at (length bytes)) refl
  where
    go : (b : Bool) → eqb at (length bytes) ≡ b → MatchBool b (drop at bytes ≡ []) (drop at bytes ≡ [] → ⊥)
    go true e = let same = eqb-true at (length bytes) e in rest_none bytes at (omega (arith, same))
    go false e = λ none.
        let long = none_long bytes at none in
        eqb-false at (length bytes) e (omega (arith, le, long))

module _ (x : Scene) (J : Journal) (F : Contents) (p : Place) (h : IsReached x J F p) (none : x.stop ≡ None) where
  all_gathered : IsGatheredTo x.settings x.records x.stop J
  all_gathered = gathered_all x.settings x.records x.stop J none

  module _ (left : has_left x.settings x.records J ≡ false) (unexpected : expects_tick_from x.settings x.from x.records J ≡ false) where
    pub tick_behind : (n : ℕ) (q : Place) (m : ℕ) (ended : List ℕ) → n ≡ number_behind p.format p.entries → IsLineAt x.bytes p q (Tick m ended) → IsFirstWrongFrom x.settings x.from x.records x.stop x.bytes n why.Tick
    tick_behind n q m ended number at = wrong_here x J F p h all_gathered n why.Tick number (Tick m ended, at.spells, inr (unexpected, refl))

    none_next : (port index : ℕ) (told : Option ℕ) (r : Record) → IsNextFrameFrom x.settings x.from x.records J port index told r → ⊥
    none_next port index told r n =
        let is = n.is in
        let own : port ≡ 1 + n.place = omega (arith, is) in
        let both : true ≡ false = sym (left_some x.settings (λ w. true) 1 x.records J n.place port n.records r n.later n.are own n.next refl) ∙ left in
        cc

    pub frame_behind : (n : ℕ) (q : Place) (port index : ℕ) (verdict : Verdict) (told : Option ℕ) → n ≡ number_behind p.format p.entries → IsLineAt x.bytes p q (Frame port index verdict told) → IsFirstWrongFrom x.settings x.from x.records x.stop x.bytes n why.Frame
    frame_behind n q port index verdict told number at = wrong_here x J F p h all_gathered n why.Frame number (port, index, told, (verdict, at.spells), unexpected, none_next port index told)

    pub line_behind : (q : Place) (l : Line) → IsLineAt x.bytes p q l → IsFound x (behind_by l p)
    line_behind q (Tick m ended) at = tick_behind (number_behind p.format p.entries) q m ended refl at
    line_behind q (Frame port index verdict told) at = frame_behind (number_behind p.format p.entries) q port index verdict told refl at

  -- what stands there can't be read
  pub text_behind : (e : CheckFault) → (drop p.at x.bytes ≡ [] → ⊥) → IsUnread x.bytes p e → IsFound x e
  text_behind (fault.Line n why.Rest) ne u = absurd (ne u.1)
  text_behind (fault.Line n why.Text) ne u = wrong_here x J F p h all_gathered n why.Text u.0 (u.1, u.2)
  text_behind fault.Memory ne u = tt
  text_behind _ ne u = absurd u

  -- what is read there, a line or none
  pub fault_behind : (left : has_left x.settings x.records J ≡ false) (unexpected : expects_tick_from x.settings x.from x.records J ≡ false) {b : List ℕ} (q : Place) (r : Result Line CheckFault) → x.bytes ≡ b → (drop p.at b ≡ [] → ⊥) → IfOk r (λ l. IsLineAt b p q l) → IfErr r (λ e. IsUnread b p e × (q ≡ p)) → IsFound x (end_fault r p)
  fault_behind left unexpected q (Ok l) same some line unread = line_behind left unexpected q l (line_as same refl line)
  fault_behind left unexpected {b} q (Err e) same some line unread = text_behind e (subst (λ t. drop p.at t ≡ [] → ⊥) (sym same) some) (unread_as p e same unread.0)

-- it is of a line
pub end_of_line : (p : Place) (r : Result Line CheckFault) → IfErr r IsOfLine → IsOfLine (end_fault r p)
end_of_line p (Ok (Tick m ended)) of_line = tt
end_of_line p (Ok (Frame port index verdict told)) of_line = tt
end_of_line p (Err e) of_line = of_line
