-- What the inputs of `run` say is one thing: a fault of the configuration, a first bad head, or where the reading stops.
use Rattle.std.proofs.Common.{◌≡◌, ℕ, ◌+◌, ◌<◌, List, [], ◌∷◌, ◌++◌, ◌⊎◌, length, Option, Some, None, Ok, Err, IsTrue, refl, sym, ap, ◌∙◌, subst, arith, inl, inr}
use Rattle.std.specs.Prelude.{Result, drop}
use Rattle.fab_base.specs.Seen.{Seen}
use Rattle.fab_config.specs.Settings.{Settings}
use Rattle.fab_config.specs.declared.ConfigFault.{ConfigFault}
use Rattle.pcap_file.specs.Capture.{HEAD, head_decoded}
use Rattle.pcap_file.specs.declared.CapFault.{CapFault}
use Rattle.pcap_file.specs.declared.CaptureHead.{CaptureHead}
use Rattle.window_records.specs.Looks.{Opened, Stop}
use Rattle.pcap_file.specs.Faults.{why_of}
use Rattle.window_records.specs.Port.{ending}
use Rattle.pcap_file.specs.declared.fault.CapWhy.{CapWhy}
use Rattle.run_files.specs.Faults.{fault_from}
use Rattle.run_files.specs.declared.fault.RunFault.{RunFault}
use Rattle.run_files.specs.declared.fault.RunFault.TheVariants as faults
use Rattle.fabric_tool.specs.Command.{RunNames}
use Rattle.fabric_tool.specs.Inputs.{HasFault, IsOpened, AreOpened, HasInputs, HasNoHead, HasBadHead, StopsBy, stop_of}
use Rattle.fabric_tool.specs.Opening.{ran_by}
use Rattle.fabric_tool.specs.Outcome.{status_of}
use Rattle.fabric_tool.specs.Running.{run_ending, RunSays, RunForms}
use Rattle.fabric_tool.specs.declared.outcome.Outcome.{Outcome}
use Rattle.fabric_tool.specs.declared.outcome.Outcome.TheVariants as ends
use Rattle.fabric_tool.proofs.ConfigLemmas.{same_text, one_value, one_fault, no_fault}
use Rattle.fabric_tool.proofs.EndingLemmas.{Said}

-- ---- heads

same_opened : (x y : Opened) → x.head ≡ y.head → x.body ≡ y.body → x ≡ y
same_opened x y e f = ap (λ (h : CaptureHead). let o : Opened = record { head = h; body = x.body } in o) e ∙ ap (λ (b : List ℕ). let o : Opened = record { head = y.head; body = b } in o) f

one_head : (d : Seen) (name : List ℕ) (x y : Opened) → IsOpened d name x → IsOpened d name y → x ≡ y
one_head d name x y one other =
    let same = same_text d name one.bytes other.bytes one.file other.file in
    let both : (let r : Result CaptureHead CapFault = Ok x.head in r) ≡ Ok y.head = sym one.head ∙ ap head_decoded same ∙ other.head in
    same_opened x y (cc) (one.body ∙ ap (drop HEAD) same ∙ sym other.body)

pub all_one : (d : Seen) (names : List (List ℕ)) (xs ys : List Opened) → AreOpened d names xs → AreOpened d names ys → xs ≡ ys
all_one d [] [] [] one other = refl
all_one d [] [] (y ∷ ys) one other = absurd other
all_one d [] (x ∷ xs) ys one other = absurd one
all_one d (n ∷ names) [] ys one other = absurd one
all_one d (n ∷ names) (x ∷ xs) [] one other = absurd other
all_one d (n ∷ names) (x ∷ xs) (y ∷ ys) one other = let first = one_head d n x y one.0 other.0 in let rest = all_one d names xs ys one.1 other.1 in cc

no_head : (d : Seen) (name : List ℕ) (x : Opened) (w : CapWhy) → IsOpened d name x → HasNoHead d name w → ⊥
no_head d name x w one other =
    let same = same_text d name one.bytes other.bytes one.file other.file in
    let both : (let r : Result CaptureHead CapFault = Ok x.head in r) ≡ Err other.fault = sym one.head ∙ ap head_decoded same ∙ other.says in
    absurd (cc)

none_without : (d : Seen) (before : List (List ℕ)) (name : List ℕ) (behind : List (List ℕ)) (xs : List Opened) (w : CapWhy) → AreOpened d (before ++ name ∷ behind) xs → HasNoHead d name w → ⊥
none_without d [] name behind [] w are without = absurd are
none_without d [] name behind (x ∷ xs) w are without = no_head d name x w are.0 without
none_without d (n ∷ before) name behind [] w are without = absurd are
none_without d (n ∷ before) name behind (x ∷ xs) w are without = none_without d before name behind xs w are.1 without

one_reason : (d : Seen) (name : List ℕ) (w v : CapWhy) → HasNoHead d name w → HasNoHead d name v → w ≡ v
one_reason d name w v one other =
    let same = same_text d name one.bytes other.bytes one.file other.file in
    let both : (let r : Result CaptureHead CapFault = Err one.fault in r) ≡ Err other.fault = sym one.says ∙ ap head_decoded same ∙ other.says in
    let fault : one.fault ≡ other.fault = cc in
    sym one.word ∙ ap why_of fault ∙ other.word

one_first : (d : Seen) (xs ys : List (List ℕ)) (n m : List ℕ) (bs cs : List (List ℕ)) (os qs : List Opened) (w v : CapWhy) → xs ++ n ∷ bs ≡ ys ++ m ∷ cs → AreOpened d xs os → AreOpened d ys qs → HasNoHead d n w → HasNoHead d m v → (length xs ≡ length ys) × (w ≡ v)
one_first d [] [] n m bs cs os qs w v e one other without again = let same : n ≡ m = cc in (refl, one_reason d m w v (subst (λ x. HasNoHead d x w) same without) again)
one_first d [] (y ∷ ys) n m bs cs os [] w v e one other without again = absurd other
one_first d [] (y ∷ ys) n m bs cs os (q ∷ qs) w v e one other without again = let same : y ≡ n = cc in absurd (no_head d n q w (subst (λ x. IsOpened d x q) same other.0) without)
one_first d (x ∷ xs) [] n m bs cs [] qs w v e one other without again = absurd one
one_first d (x ∷ xs) [] n m bs cs (o ∷ os) qs w v e one other without again = let same : x ≡ m = cc in absurd (no_head d m o v (subst (λ z. IsOpened d z o) same one.0) again)
one_first d (x ∷ xs) (y ∷ ys) n m bs cs [] qs w v e one other without again = absurd one
one_first d (x ∷ xs) (y ∷ ys) n m bs cs (o ∷ os) [] w v e one other without again = absurd other
one_first d (x ∷ xs) (y ∷ ys) n m bs cs (o ∷ os) (q ∷ qs) w v e one other without again =
    let rest : xs ++ n ∷ bs ≡ ys ++ m ∷ cs = cc in
    let h = one_first d xs ys n m bs cs os qs w v rest one.1 other.1 without again in
    let count = h.0 in
    (omega arith, h.1)

-- of captures that are opened up to some name, none before it is without a head
pub opened_before : (d : Seen) (xs ys : List (List ℕ)) (n m : List ℕ) (bs cs : List (List ℕ)) (qs : List Opened) (w : CapWhy) → xs ++ n ∷ bs ≡ ys ++ m ∷ cs → AreOpened d ys qs → HasNoHead d n w → length xs < length ys → ⊥
opened_before d xs [] n m bs cs qs w e other without lt = absurd (omega arith)
opened_before d [] (y ∷ ys) n m bs cs [] w e other without lt = absurd other
opened_before d [] (y ∷ ys) n m bs cs (q ∷ qs) w e other without lt = let same : y ≡ n = cc in absurd (no_head d n q w (subst (λ x. IsOpened d x q) same other.0) without)
opened_before d (x ∷ xs) (y ∷ ys) n m bs cs [] w e other without lt = absurd other
opened_before d (x ∷ xs) (y ∷ ys) n m bs cs (q ∷ qs) w e other without lt = let rest : xs ++ n ∷ bs ≡ ys ++ m ∷ cs = cc in opened_before d xs ys n m bs cs qs w rest other.1 without (omega arith)

pub one_bad : (k : RunNames) (d : Seen) (p q : ℕ) (w v : CapWhy) → HasBadHead k d p w → HasBadHead k d q v → (p ≡ q) × (w ≡ v)
one_bad k d p q w v one other =
    let x = one.first in
    let y = other.first in
    let h = one_first d x.before y.before x.name y.name x.behind y.behind x.opened y.opened w v (sym x.are ∙ y.are) x.heads y.heads x.without y.without in
    (x.number ∙ ap (λ (n : ℕ). n + 1) h.0 ∙ sym y.number, h.1)

pub no_bad : (k : RunNames) (d : Seen) (c : Settings) (opened : List Opened) (p : ℕ) (w : CapWhy) → HasInputs k d c opened → HasBadHead k d p w → ⊥
no_bad k d c opened p w inputs bad =
    let f = bad.first in
    none_without d f.before f.name f.behind opened w (subst (λ l. AreOpened d l opened) f.are inputs.heads) f.without

-- ---- what the inputs of `run` say

-- how `run` ends where the reading of the captures stops so, or doesn't
abbrev EndsAt : Option Stop → Outcome → Type 0
EndsAt None o = (frames : ℕ) × (entries : ℕ) × (o ≡ ends.Ran frames entries)
EndsAt (Some s) o = o ≡ ran_by (Err (fault_from (ending s)))

-- all heads are there, and the reading ends `run` so
record Through (k : RunNames) (d : Seen) (o : Outcome) : Type 0 where
  settings : Settings
  opened : List Opened
  inputs : HasInputs k d settings opened
  at : Option Stop
  is : stop_of settings opened ≡ at
  says : EndsAt at o

abbrev Finds : RunNames → Seen → Outcome → Type 0
Finds k d o =
    ((fault : ConfigFault) × HasFault d k.config fault × (o ≡ ends.Config fault))
    ⊎ (((port : ℕ) × (reason : CapWhy) × HasBadHead k d port reason × (o ≡ ends.Capture port 0 reason)) ⊎ Through k d o)

module _ (k : RunNames) (d : Seen) where
  -- where the reading stops is one thing
  one_stop : (c b : Settings) (xs ys : List Opened) (s t : Option Stop) → HasInputs k d c xs → HasInputs k d b ys → stop_of c xs ≡ s → stop_of b ys ≡ t → s ≡ t
  one_stop c b xs ys s t one other is again =
      let config = one_value d k.config c b one.config other.config in
      let opened = all_one d k.ins xs ys one.heads other.heads in
      sym is ∙ ap (λ (x : Settings). stop_of x xs) config ∙ ap (λ (l : List Opened). stop_of b l) opened ∙ again

  ended_once : (o p : Outcome) (s t : Option Stop) → s ≡ t → EndsAt s o → EndsAt t p → ((frames entries : ℕ) → p ≡ ends.Ran frames entries → ⊥) → o ≡ p
  ended_once o p None None e one other not_ran = absurd (not_ran other.0 other.1 other.2)
  ended_once o p None (Some t) e one other not_ran = absurd (cc)
  ended_once o p (Some s) None e one other not_ran = absurd (not_ran other.0 other.1 other.2)
  ended_once o p (Some s) (Some t) e one other not_ran = let same : s ≡ t = cc in one ∙ ap (λ (x : Stop). ran_by (Err (fault_from (ending x)))) same ∙ sym other

  one_end : (o p : Outcome) → Finds k d o → Finds k d p → ((frames entries : ℕ) → p ≡ ends.Ran frames entries → ⊥) → o ≡ p
  one_end o p (inl one) (inl other) not_ran = one.2 ∙ ap (λ (f : ConfigFault). ends.Config f) (one_fault d k.config one.0 other.0 one.1 other.1) ∙ sym other.2
  one_end o p (inl one) (inr (inl other)) not_ran = absurd (no_fault d k.config other.2.settings one.0 other.2.config one.1)
  one_end o p (inl one) (inr (inr other)) not_ran = absurd (no_fault d k.config other.settings one.0 other.inputs.config one.1)
  one_end o p (inr (inl one)) (inl other) not_ran = absurd (no_fault d k.config one.2.settings other.0 one.2.config other.1)
  one_end o p (inr (inl one)) (inr (inl other)) not_ran =
      let h = one_bad k d one.0 other.0 one.1 other.1 one.2 other.2 in
      let port = h.0 in
      let reason = h.1 in
      one.3 ∙ ap (λ (n : ℕ). ends.Capture n 0 one.1) port ∙ ap (λ (w : CapWhy). ends.Capture other.0 0 w) reason ∙ sym other.3
  one_end o p (inr (inl one)) (inr (inr other)) not_ran = absurd (no_bad k d other.settings other.opened one.0 one.1 other.inputs one.2)
  one_end o p (inr (inr one)) (inl other) not_ran = absurd (no_fault d k.config one.settings other.0 one.inputs.config other.1)
  one_end o p (inr (inr one)) (inr (inl other)) not_ran = absurd (no_bad k d one.settings one.opened other.0 other.1 one.inputs other.2)
  one_end o p (inr (inr one)) (inr (inr other)) not_ran =
      ended_once o p one.at other.at (one_stop one.settings other.settings one.opened other.opened one.at other.at one.inputs other.inputs one.is other.is) one.says other.says not_ran

  stops_through : (fault : RunFault) (o : Outcome) → o ≡ ran_by (Err fault) → StopsBy k d fault → Through k d o
  stops_through fault o is stops = record {
    settings = stops.settings;
    opened = stops.opened;
    inputs = stops.inputs;
    at = Some stops.at;
    is = stops.is;
    says = is ∙ sym (ap (λ (f : RunFault). ran_by (Err f)) stops.says);
  }

  -- a refusal of the inputs
  said : (p : Outcome) → RunSays k d p → Finds k d p × ((frames entries : ℕ) → p ≡ ends.Ran frames entries → ⊥)
  said (ends.Config fault) says = (inl (fault, says, refl), λ frames entries is. absurd (cc))
  said (ends.Capture port at reason) (inl bad) = (inr (inl (port, reason, bad.1, ap (λ (n : ℕ). ends.Capture port n reason) bad.0)), λ frames entries is. absurd (cc))
  said (ends.Capture port at reason) (inr stops) = (inr (inr (stops_through (faults.Capture port at reason) (ends.Capture port at reason) refl stops)), λ frames entries is. absurd (cc))
  said (ends.Limit kind) stops = (inr (inr (stops_through (faults.Limit kind) (ends.Limit kind) refl stops)), λ frames entries is. absurd (cc))
  said p says = absurd says

  module _ (new : Seen) (told : IsTrue d.told) where
    -- where nothing fails, an outcome is what the inputs say, or want of memory
    found : (o : Outcome) → Said d (run_ending k d new o) → Finds k d o ⊎ (o ≡ ends.Memory)
    found (ends.Ran frames entries) h = let r = h told in inl (inr (inr (record { settings = r.settings; opened = r.opened; inputs = r.inputs; at = None; is = r.none; says = (frames, entries, refl) })))
    found (ends.Config fault) h = inl (inl (fault, h told, refl))
    found (ends.Capture port at reason) h = elim (h told) [
      | inl bad ↦ inl (inr (inl (port, reason, bad.2, ap (λ (n : ℕ). ends.Capture port n reason) bad.1)))
      | inr stopped ↦ inl (inr (inr (stops_through (faults.Capture port at reason) (ends.Capture port at reason) refl stopped.stops)))
    ]
    found (ends.Limit kind) h = inl (inr (inr (stops_through (faults.Limit kind) (ends.Limit kind) refl (h told).stops)))
    found ends.Memory h = inr refl
    found o h = absurd h

    pub run_once : (o p : Outcome) → Said d (run_ending k d new o) → RunSays k d p → (o ≡ p) ⊎ (o ≡ ends.Memory)
    run_once o p holds says = elim (found o holds) [
      | inl finds ↦ let s = said p says in inl (one_end o p finds s.0 s.1)
      | inr memory ↦ inr memory
    ]

    ran_at : (o : Outcome) (s : Option Stop) → s ≡ None → EndsAt s o → status_of o ≡ 0
    ran_at o None e at = ap status_of at.2
    ran_at o (Some s) e at = absurd (cc)

    pub run_formed : RunForms k d → (o : Outcome) → Said d (run_ending k d new o) → (status_of o ≡ 0) ⊎ (o ≡ ends.Memory)
    run_formed forms o holds = elim (found o holds) [
      | inl finds ↦ inl (elim finds [
        | inl fault ↦ absurd (no_fault d k.config forms.settings fault.0 forms.inputs.config fault.1)
        | inr other ↦ elim other [
          | inl bad ↦ absurd (no_bad k d forms.settings forms.opened bad.0 bad.1 forms.inputs bad.2)
          | inr through ↦ ran_at o through.at (one_stop through.settings forms.settings through.opened forms.opened through.at None through.inputs forms.inputs through.is forms.none) through.says
        ]
      ])
      | inr memory ↦ inr memory
    ]
