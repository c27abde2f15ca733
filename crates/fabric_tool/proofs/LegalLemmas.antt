-- A journal that names a run excludes each refusal of `replay` and of `show`.
use Rattle.std.proofs.Common.{◌≡◌, ℕ, ◌+◌, ◌-◌, ◌*◌, ◌≤◌, List, ◌∷◌, length, length-append, sym, ap, ◌∙◌, subst, arith, inl, inr}
use Rattle.fab_base.specs.Seen.{Seen}
use Rattle.fab_config.specs.Settings.{Settings}
use Rattle.pcap_file.specs.declared.Budget.{Budget}
use Rattle.pcap_file.specs.Capture.{HEAD}
use Rattle.fab_policy.specs.Journal.{Journal}
use Rattle.window_records.specs.Looks.{Opened}
use Rattle.fab_replay.specs.Check.{Matter}
use Rattle.fab_replay.specs.Showing.{shown}
use Rattle.fab_replay.proofs.ExactLemmas.{run_is_one, output_differs}
use Rattle.fabric_tool.specs.Command.{RunNames}
use Rattle.fabric_tool.specs.Checking.{budget_of, matter_of, Finds, IsLegalJournal, IsShownJournal, IsLongJournal, ReplaySays, ShowSays}
use Rattle.fabric_tool.specs.Inputs.{HasFault, HasBadHead, HaveNoRoom, MOST_BYTES}
use Rattle.fabric_tool.specs.declared.outcome.Outcome.{Outcome}
use Rattle.fabric_tool.specs.declared.outcome.Outcome.TheVariants as ends
use Rattle.fabric_tool.proofs.ConfigLemmas.{same_text, one_value, no_fault}
use Rattle.fabric_tool.proofs.FoundLemmas.{all_one, no_bad}

-- where all heads have room, that of no port has none
pub have_room : (names : List (List ℕ)) (d : Seen) (l m : List ℕ) → l ≡ m → length l + HEAD * length names ≤ MOST_BYTES → HaveNoRoom names d (MOST_BYTES - length m) → ⊥
have_room names d l m e within lack =
    let same : length l ≡ length m = ap (λ (x : List ℕ). length x) e in
    let count = ap (λ (x : List (List ℕ)). length x) lack.are in
    let over = lack.above in
    omega (arith, same, within, over, count, length-append lack.before (lack.name ∷ lack.behind))

module _ (k : RunNames) (d : Seen) where
  -- the files of a command are one matter
  pub in_one : (P Q : Settings → Budget → Matter → Type 0) → Finds k d P → (g : Finds k d Q) → P g.settings (budget_of g.journal (length k.ins)) (matter_of k d g.opened g.journal)
  in_one P Q f g =
      let config = one_value d k.config f.settings g.settings f.matter.inputs.config g.matter.inputs.config in
      let heads = all_one d k.ins f.opened g.opened f.matter.inputs.heads g.matter.inputs.heads in
      let lines = same_text d k.journal f.journal g.journal f.matter.lines g.matter.lines in
      subst (λ (c : Settings). P c (budget_of g.journal (length k.ins)) (matter_of k d g.opened g.journal)) config
      (subst (λ (l : List Opened). P f.settings (budget_of g.journal (length k.ins)) (matter_of k d l g.journal)) heads
      (subst (λ (l : List ℕ). P f.settings (budget_of l (length k.ins)) (matter_of k d f.opened l)) lines f.says))

  -- whatever names a run excludes what no run allows
  excluded : (P Q : Settings → Budget → Matter → Type 0) → ((c : Settings) (b : Budget) (m : Matter) → P c b m → Q c b m → ⊥) → Finds k d P → Finds k d Q → ⊥
  excluded P Q apart f g = apart g.settings (budget_of g.journal (length k.ins)) (matter_of k d g.opened g.journal) (in_one P Q f g) g.says

  -- no configuration's fault, no bad head, and no journal that is too long
  module _ (P : Settings → Budget → Matter → Type 0) (f : Finds k d P) where
    no_config : (fault : _) → HasFault d k.config fault → ⊥
    no_config fault has = no_fault d k.config f.settings fault f.matter.inputs.config has

    no_head : (port : ℕ) (why : _) → HasBadHead k d port why → ⊥
    no_head port why bad = no_bad k d f.settings f.opened port why f.matter.inputs bad

    no_long : IsLongJournal k d → ⊥
    no_long l = have_room k.ins d f.journal l.journal (same_text d k.journal f.journal l.journal f.matter.lines l.lines) f.matter.within l.heads

  -- where the journal and the outputs are those of a run, the files say nothing else to `replay`
  module _ (entries : ℕ) (f : Finds k d (IsLegalJournal entries)) where
    pub only_legal : (o : Outcome) → ReplaySays k d o → o ≡ ends.Legal entries
    only_legal (ends.Legal n) h =
        let mine = in_one (IsLegalJournal entries) (IsLegalJournal n) f h in
        let one = (run_is_one h.settings (budget_of h.journal (length k.ins)) (matter_of k d h.opened h.journal) mine.entry_list mine.names).0 h.says.entry_list h.says.names in
        ap ends.Legal (h.says.count ∙ ap (λ (J : Journal). length J) one ∙ sym mine.count)
    only_legal (ends.WrongLine line why) h = absurd (excluded (IsLegalJournal entries) _ (λ c b m x wrong. (run_is_one c b m x.entry_list x.names).1 line why wrong) f h)
    only_legal (ends.WrongOutput port at) h = absurd (excluded (IsLegalJournal entries) _ (λ c b m x wrong. output_differs c b m port at x.entry_list wrong x.names x.outputs) f h)
    only_legal (ends.Config fault) h = absurd (no_config (IsLegalJournal entries) f fault h)
    only_legal (ends.Capture port at why) h = absurd (elim h [
      | inl bad ↦ no_head (IsLegalJournal entries) f port why bad.1.head
      | inr g ↦ excluded (IsLegalJournal entries) _ (λ c b m x stop. (run_is_one c b m x.entry_list x.names).2 _ stop) f g
    ])
    only_legal (ends.Limit kind) h = absurd (elim h [
      | inl long ↦ no_long (IsLegalJournal entries) f long.1
      | inr g ↦ excluded (IsLegalJournal entries) _ (λ c b m x stop. (run_is_one c b m x.entry_list x.names).2 _ stop) f g
    ])
    only_legal o h = absurd h

  -- the same of `show`, to which no output is told
  module _ (text : List ℕ) (f : Finds k d (IsShownJournal text)) where
    pub only_shown : (o : Outcome) → ShowSays k d o → o ≡ ends.Shown text
    only_shown (ends.Shown n) h =
        let mine = in_one (IsShownJournal text) (IsShownJournal n) f h in
        let one = (run_is_one h.settings (budget_of h.journal (length k.ins)) (matter_of k d h.opened h.journal) mine.entry_list mine.names).0 h.says.entry_list h.says.names in
        ap ends.Shown (h.says.told ∙ ap (λ (J : Journal). shown h.settings J) one ∙ sym mine.told)
    only_shown (ends.WrongLine line why) h = absurd (excluded (IsShownJournal text) _ (λ c b m x wrong. (run_is_one c b m x.entry_list x.names).1 line why wrong) f h)
    only_shown (ends.Config fault) h = absurd (no_config (IsShownJournal text) f fault h)
    only_shown (ends.Capture port at why) h = absurd (elim h [
      | inl bad ↦ no_head (IsShownJournal text) f port why bad.1.head
      | inr g ↦ excluded (IsShownJournal text) _ (λ c b m x stop. (run_is_one c b m x.entry_list x.names).2 _ stop) f g
    ])
    only_shown (ends.Limit kind) h = absurd (elim h [
      | inl long ↦ no_long (IsShownJournal text) f long.1
      | inr g ↦ excluded (IsShownJournal text) _ (λ c b m x stop. (run_is_one c b m x.entry_list x.names).2 _ stop) f g
    ])
    only_shown o h = absurd h
