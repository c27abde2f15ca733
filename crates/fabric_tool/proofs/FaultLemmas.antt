-- What the files say to `replay` and to `show` is one thing.
use Rattle.std.proofs.Common.{◌≡◌, ℕ, ◌+◌, ◌*◌, ◌<◌, ◌≤◌, ◌⊎◌, inl, inr, List, length, Some, Err, refl, sym, ap, ◌∙◌, subst, arith}
use Rattle.std.specs.Prelude.{Result}
use Rattle.fab_base.specs.Seen.{Seen}
use Rattle.fab_config.specs.declared.ConfigFault.{ConfigFault}
use Rattle.pcap_file.specs.declared.fault.CapWhy.{CapWhy}
use Rattle.pcap_file.specs.declared.fault.LimitKind.TheVariants as kinds
use Rattle.fab_policy.specs.declared.verdict.Verdict.{Verdict}
use Rattle.pcap_file.specs.Capture.{HEAD}
use Rattle.fab_replay.specs.Check.{IsAnswer}
use Rattle.fab_replay.specs.Exact.{IsSameAnswer, IsSameWhy}
use Rattle.fab_replay.specs.declared.fault.CheckFault.{CheckFault}
use Rattle.fab_replay.specs.declared.fault.CheckFault.TheVariants as checks
use Rattle.fab_replay.specs.declared.fault.LineWhy.{LineWhy}
use Rattle.fab_replay.specs.declared.fault.LineWhy.TheVariants as lines
use Rattle.fab_replay.proofs.ExactLemmas.{answer_is_one}
use Rattle.fabric_tool.specs.Command.{RunNames}
use Rattle.fabric_tool.specs.Checking.{CheckSays, Finds, IsHeadRefused, IsLegalJournal, IsLongJournal, IsShownJournal, budget_of, matter_of, refused_by, ReplaySays, ShowSays}
use Rattle.fabric_tool.specs.Inputs.{HasFault, MOST_BYTES}
use Rattle.fabric_tool.specs.Outcome.{line_of}
use Rattle.fabric_tool.specs.declared.outcome.Outcome.{Outcome}
use Rattle.fabric_tool.specs.declared.outcome.Outcome.TheVariants as ends
use Rattle.fabric_tool.proofs.ConfigLemmas.{same_text, no_fault, one_fault}
use Rattle.fabric_tool.proofs.FoundLemmas.{no_bad, one_bad, opened_before}
use Rattle.fabric_tool.proofs.LegalLemmas.{have_room, in_one, only_legal, only_shown}
use Rattle.fabric_tool.proofs.Laws.{PrintsAlike, alike}

-- ---- outcomes that print the same

-- a wrong line is printed without the verdict that is told as right
other_verdict : (line : ℕ) (found made other : Verdict) → PrintsAlike (ends.WrongLine line (lines.Verdict found made)) (ends.WrongLine line (lines.Verdict found other))
unfolding line_of
other_verdict line found made other = record { line = refl; status = refl }

same_line : (line : ℕ) (x y : LineWhy) → IsSameWhy x y → PrintsAlike (ends.WrongLine line x) (ends.WrongLine line y)
same_line line lines.Text y is = alike _ _ (ap (λ (w : LineWhy). ends.WrongLine line w) (sym is))
same_line line lines.Tick y is = alike _ _ (ap (λ (w : LineWhy). ends.WrongLine line w) (sym is))
same_line line lines.Frame y is = alike _ _ (ap (λ (w : LineWhy). ends.WrongLine line w) (sym is))
same_line line (lines.Verdict found made) y is = subst (λ (w : LineWhy). PrintsAlike (ends.WrongLine line (lines.Verdict found made)) (ends.WrongLine line w)) (sym is.1) (other_verdict line found made is.0)
same_line line lines.Rest y is = alike _ _ (ap (λ (w : LineWhy). ends.WrongLine line w) (sym is))

same_fault : (e f : CheckFault) → (let r : Result ℕ CheckFault = Err f in r) ≡ Err e → PrintsAlike (refused_by e) (refused_by f)
same_fault e f is = let same : f ≡ e = cc in alike (refused_by e) (refused_by f) (ap refused_by (sym same))

same_refusal : (e f : CheckFault) → IsSameAnswer (Err e) (Err f) → PrintsAlike (refused_by e) (refused_by f)
same_refusal (checks.Line line x) f is =
    let same : f ≡ checks.Line line is.0 = (let e = is.2 in cc) in
    subst (λ (g : CheckFault). PrintsAlike (ends.WrongLine line x) (refused_by g)) (sym same) (same_line line x is.0 is.1)
same_refusal (checks.Output port at) f is = same_fault (checks.Output port at) f is
same_refusal (checks.Capture port at why) f is = same_fault (checks.Capture port at why) f is
same_refusal (checks.Limit kind) f is = same_fault (checks.Limit kind) f is
same_refusal checks.Read f is = same_fault checks.Read f is
same_refusal checks.Memory f is = same_fault checks.Memory f is

-- ---- one refusal

abbrev IsRefusal : Outcome → Type 0
IsRefusal (ends.WrongLine line why) = Unit {0}
IsRefusal (ends.WrongOutput port at) = Unit {0}
IsRefusal (ends.Config fault) = Unit {0}
IsRefusal (ends.Capture port at why) = Unit {0}
IsRefusal (ends.Limit kind) = Unit {0}
IsRefusal o = ⊥

-- a fault of the configuration, a journal that is too long, a bad head, or a fault of the check
abbrev Refused : RunNames → Seen → Outcome → Type 0
Refused k d o =
    ((fault : ConfigFault) × HasFault d k.config fault × (o ≡ ends.Config fault))
    ⊎ ((IsLongJournal k d × (o ≡ ends.Limit kinds.Bytes))
    ⊎ (((port : ℕ) × (reason : CapWhy) × IsHeadRefused k d port reason × (o ≡ ends.Capture port 0 reason)) ⊎ ((e : CheckFault) × Finds k d (λ c b m. IsAnswer c b m (Err e)) × (o ≡ refused_by e))))

module _ (k : RunNames) (d : Seen) where
  refused : (o : Outcome) → IsRefusal o → CheckSays k d o → Refused k d o
  refused (ends.WrongLine line why) is says = inr (inr (inr (checks.Line line why, says, refl)))
  refused (ends.WrongOutput port at) is says = inr (inr (inr (checks.Output port at, says, refl)))
  refused (ends.Config fault) is says = inl (fault, says, refl)
  refused (ends.Capture port at why) is (inl head) = inr (inr (inl (port, why, head.1, ap (λ (n : ℕ). ends.Capture port n why) head.0)))
  refused (ends.Capture port at why) is (inr stop) = inr (inr (inr (checks.Capture port at why, stop, refl)))
  refused (ends.Limit kind) is (inl long) = inr (inl (long.1, ap ends.Limit long.0))
  refused (ends.Limit kind) is (inr stop) = inr (inr (inr (checks.Limit kind, stop, refl)))
  refused o is says = absurd is

  one_check : (e f : CheckFault) → Finds k d (λ c b m. IsAnswer c b m (Err e)) → Finds k d (λ c b m. IsAnswer c b m (Err f)) → PrintsAlike (refused_by e) (refused_by f)
  one_check e f x y =
      same_refusal e f (answer_is_one y.settings (budget_of y.journal (length k.ins)) (matter_of k d y.opened y.journal) (Err e) (Err f) (in_one k d (λ c b m. IsAnswer c b m (Err e)) (λ c b m. IsAnswer c b m (Err f)) x y) y.says)

  -- a journal that is too long isn't within the limit
  too_long : (l : IsLongJournal k d) (journal : List ℕ) → d.file k.journal ≡ Some journal → length journal + HEAD * length k.ins ≤ MOST_BYTES → ⊥
  too_long l journal lines within = have_room k.ins d journal l.journal (same_text d k.journal journal l.journal lines l.lines) within l.heads

  -- a head without room stands before no bad head, and behind none
  no_room : (port : ℕ) (reason : CapWhy) → IsLongJournal k d → IsHeadRefused k d port reason → ⊥
  no_room port reason l r =
      let f = r.head.first in
      let n = l.heads in
      let same = ap (λ (x : List ℕ). length x) (same_text d k.journal l.journal r.journal l.lines r.lines) in
      let over = n.above in
      let up_to = r.within in
      let number = f.number in
      opened_before d f.before n.before f.name n.name f.behind n.behind n.opened reason (sym f.are ∙ n.are) n.heads f.without (let e : length f.before < length n.before = omega arith in e)

  refused_once : (o p : Outcome) → Refused k d o → Refused k d p → PrintsAlike o p
  refused_once o p (inl a) (inl b) = alike o p (a.2 ∙ ap (λ (f : ConfigFault). ends.Config f) (one_fault d k.config a.0 b.0 a.1 b.1) ∙ sym b.2)
  refused_once o p (inl a) (inr (inl b)) = absurd (no_fault d k.config b.0.settings a.0 b.0.config a.1)
  refused_once o p (inl a) (inr (inr (inl b))) = absurd (no_fault d k.config b.2.head.settings a.0 b.2.head.config a.1)
  refused_once o p (inl a) (inr (inr (inr b))) = absurd (no_fault d k.config b.1.settings a.0 b.1.matter.inputs.config a.1)
  refused_once o p (inr (inl a)) (inl b) = absurd (no_fault d k.config a.0.settings b.0 a.0.config b.1)
  refused_once o p (inr (inl a)) (inr (inl b)) = alike o p (a.1 ∙ sym b.1)
  refused_once o p (inr (inl a)) (inr (inr (inl b))) = absurd (no_room b.0 b.1 a.0 b.2)
  refused_once o p (inr (inl a)) (inr (inr (inr b))) = absurd (too_long a.0 b.1.journal b.1.matter.lines b.1.matter.within)
  refused_once o p (inr (inr (inl a))) (inl b) = absurd (no_fault d k.config a.2.head.settings b.0 a.2.head.config b.1)
  refused_once o p (inr (inr (inl a))) (inr (inl b)) = absurd (no_room a.0 a.1 b.0 a.2)
  refused_once o p (inr (inr (inl a))) (inr (inr (inl b))) =
      let same = one_bad k d a.0 b.0 a.1 b.1 a.2.head b.2.head in
      alike o p (a.3 ∙ ap (λ (n : ℕ). ends.Capture n 0 a.1) same.0 ∙ ap (λ (w : CapWhy). ends.Capture b.0 0 w) same.1 ∙ sym b.3)
  refused_once o p (inr (inr (inl a))) (inr (inr (inr b))) = absurd (no_bad k d b.1.settings b.1.opened a.0 a.1 b.1.matter.inputs a.2.head)
  refused_once o p (inr (inr (inr a))) (inl b) = absurd (no_fault d k.config a.1.settings b.0 a.1.matter.inputs.config b.1)
  refused_once o p (inr (inr (inr a))) (inr (inl b)) = absurd (too_long b.0 a.1.journal a.1.matter.lines a.1.matter.within)
  refused_once o p (inr (inr (inr a))) (inr (inr (inl b))) = absurd (no_bad k d a.1.settings a.1.opened b.0 b.1 a.1.matter.inputs b.2.head)
  refused_once o p (inr (inr (inr a))) (inr (inr (inr b))) =
      subst (λ (x : Outcome). PrintsAlike x p) (sym a.2) (subst (λ (x : Outcome). PrintsAlike (refused_by a.0) x) (sym b.2) (one_check a.0 b.0 a.1 b.1))

  -- what the files say to `replay` is one
  replay_refusal : (o : Outcome) → ReplaySays k d o → ((entries : ℕ) × (o ≡ ends.Legal entries) × Finds k d (IsLegalJournal entries)) ⊎ Refused k d o
  replay_refusal (ends.Legal entries) says = inl (entries, refl, says)
  replay_refusal (ends.WrongLine line why) says = inr (refused (ends.WrongLine line why) tt says)
  replay_refusal (ends.WrongOutput port at) says = inr (refused (ends.WrongOutput port at) tt says)
  replay_refusal (ends.Config fault) says = inr (refused (ends.Config fault) tt says)
  replay_refusal (ends.Capture port at why) says = inr (refused (ends.Capture port at why) tt says)
  replay_refusal (ends.Limit kind) says = inr (refused (ends.Limit kind) tt says)
  replay_refusal o says = absurd says

  pub replay_one : (o p : Outcome) → ReplaySays k d o → ReplaySays k d p → PrintsAlike o p
  replay_one o p a b = elim (replay_refusal o a) [
    | inl x ↦ alike o p (x.1 ∙ sym (only_legal k d x.0 x.2 p b))
    | inr x ↦ elim (replay_refusal p b) [ inl y ↦ alike o p (only_legal k d y.0 y.2 o a ∙ sym y.1) | inr y ↦ refused_once o p x y ]
  ]

  -- the same of `show`
  show_refusal : (o : Outcome) → ShowSays k d o → ((text : List ℕ) × (o ≡ ends.Shown text) × Finds k d (IsShownJournal text)) ⊎ Refused k d o
  show_refusal (ends.Shown text) says = inl (text, refl, says)
  show_refusal (ends.WrongLine line why) says = inr (refused (ends.WrongLine line why) tt says)
  show_refusal (ends.Config fault) says = inr (refused (ends.Config fault) tt says)
  show_refusal (ends.Capture port at why) says = inr (refused (ends.Capture port at why) tt says)
  show_refusal (ends.Limit kind) says = inr (refused (ends.Limit kind) tt says)
  show_refusal o says = absurd says

  pub show_one : (o p : Outcome) → ShowSays k d o → ShowSays k d p → PrintsAlike o p
  show_one o p a b = elim (show_refusal o a) [
    | inl x ↦ alike o p (x.1 ∙ sym (only_shown k d x.0 x.2 p b))
    | inr x ↦ elim (show_refusal p b) [ inl y ↦ alike o p (only_shown k d y.0 y.2 o a ∙ sym y.1) | inr y ↦ refused_once o p x y ]
  ]
