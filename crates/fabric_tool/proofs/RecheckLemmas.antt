-- `replay` and `show` take what a `run` or a `live` wrote.
use Rattle.std.proofs.Common.{◌≡◌, ℕ, zero, suc, ◌+◌, ◌*◌, ◌<◌, ◌≤◌, List, [], ◌∷◌, length, map, get_or, Some, None, IsTrue, refl, sym, ap, ◌∙◌, subst, arith, ◌⊎◌, inl, inr, String}
use Rattle.std.specs.declared.alloc.Global.{Global}
use Rattle.fab_base.specs.Seen.{Seen, bytes_of}
use Rattle.fab_base.specs.Sunk.{Sunk}
use Rattle.fab_config.specs.Settings.{Settings}
use Rattle.fab_policy.specs.Journal.{Journal}
use Rattle.fab_base.specs.Counting.{counting}
use Rattle.window_records.specs.Looks.{Opened, all_records, stop}
use Rattle.fab_policy.specs.Text.{egress, text}
use Rattle.std.specs.List.{All}
use Rattle.pcap_file.specs.Capture.{HEAD, IsCapture}
use Rattle.pcap_file.specs.declared.Record.{Record}
use Rattle.pcap_file.proofs.lemmas.Chains.{one_capture}
use Rattle.window_records.specs.Reads.{IsWhole}
use Rattle.fab_windows.specs.Run.{IsRunOver}
use Rattle.fab_live.specs.Arriving.{arrived, records_of}
use Rattle.fab_replay.specs.Check.{AreSent, NamesRun}
use Rattle.fab_replay.specs.Showing.{shown}
use Rattle.fabric_tool.specs.Checking.{CheckSays, budget_of, matter_of}
use Rattle.fabric_tool.specs.Command.{RunNames, LiveWords, Command, Replay, Show}
use Rattle.run_files.specs.Names.{Among}
use Rattle.fabric_tool.specs.Inputs.{AreOpened, AreCaptures, HasInputs, MOST_BYTES, MOST_FRAMES}
use Rattle.fabric_tool.specs.Left.{HoldsAll}
use Rattle.fabric_tool.specs.Living.{session_of}
use Rattle.fabric_tool.specs.Rechecking.{HasWritten, IsRechecked, HasRecorded, IsReplayed, without_outputs}
use Rattle.fabric_tool.specs.Statuses.{HasForms, IsComplete}
use Rattle.fabric_tool.specs.declared.outcome.Outcome.TheVariants as ends
use Rattle.fabric_tool.proofs.CaptureLemmas.{whole_all, whole_captures}

-- heads are those of other files with the same bytes
opened_again : (a b : Seen) (names : List (List ℕ)) (opened : List Opened) → ((m : List ℕ) → Among names m → b.file m ≡ a.file m) → AreOpened a names opened → AreOpened b names opened
opened_again a b [] [] kept are = tt
opened_again a b [] (o ∷ opened) kept are = absurd are
opened_again a b (n ∷ names) [] kept are = absurd are
opened_again a b (n ∷ names) (o ∷ opened) kept are = (
  record { bytes = are.0.bytes; file = kept n (inl refl) ∙ are.0.file; head = are.0.head; body = are.0.body },
  opened_again a b names opened (λ m at. kept m (inr at)) are.1,
)

opened_count : (d : Seen) (names : List (List ℕ)) (opened : List Opened) → AreOpened d names opened → length opened ≡ length names
opened_count d [] [] are = refl
opened_count d [] (o ∷ opened) are = absurd are
opened_count d (n ∷ names) [] are = absurd are
opened_count d (n ∷ names) (o ∷ opened) are = let h = opened_count d names opened are.1 in omega arith

-- the bytes of each of these files, by its place
each_file : (d : Seen) (f : ℕ → List ℕ) (k : ℕ) (names : List (List ℕ)) (q : ℕ) → map (λ n. d.file n) names ≡ map (λ (l : List ℕ). Some l) (map f (counting k (length names))) → q < length names → bytes_of (d.file (get_or names q [])) ≡ f (k + q)
each_file d f k [] q are lt = absurd (omega arith)
each_file d f k (n ∷ names) zero are lt = let first : d.file n ≡ Some (f k) = cc in ap bytes_of first ∙ ap f (let e : k ≡ k + zero = omega arith in e)
each_file d f k (n ∷ names) (suc q) are lt =
    let rest : map (λ n. d.file n) names ≡ map (λ (l : List ℕ). Some l) (map f (counting (k + 1) (length names))) = cc in
    each_file d f (k + 1) names q rest (omega arith) ∙ ap f (let e : k + 1 + q ≡ k + suc q = omega arith in e)

-- what a `run` or a `live` wrote, of which the check finds all that it wants
record IsKept (k : RunNames) (d : Seen) : Type 0 where
  settings : Settings
  opened : List Opened
  inputs : HasInputs k d settings opened
  journal : Journal
  run : IsRunOver settings (all_records opened) journal
  whole : All IsWhole opened
  files : HoldsAll k settings d journal
  ports : length k.outs ≡ length k.ins
  within : length (text journal) + HEAD * length k.ins ≤ MOST_BYTES
  none : stop settings (budget_of (text journal) (length k.ins)).bytes MOST_FRAMES opened ≡ None

module _ (k : RunNames) (d : Seen) (w : IsKept k d) where
  abbrev bytes : List ℕ
  bytes = text w.journal

  -- the journal names the run, whatever the outputs are
  names_run : (outs : List (List ℕ)) → let j : RunNames = record { config = k.config; journal = k.journal; ins = k.ins; outs = outs } in NamesRun w.settings (budget_of bytes (length k.ins)) (matter_of j d w.opened bytes) w.journal
  names_run outs = record {
    named = record { ranged = w.run.ranged; ports = w.run.run.ports; lines = inl refl; frames = w.run.run.frames };
    run = w.run.run;
    none = w.none;
    whole = w.whole;
  }

  -- each output is what the run sends
  sent : AreSent w.settings (matter_of k d w.opened bytes) w.journal
  sent q lt =
      let count = opened_count d k.ins w.opened w.inputs.heads ∙ sym w.ports in
      each_file d (λ p. egress w.settings (length k.outs) p w.journal) 1 k.outs q w.files.captures lt
      ∙ ap (λ (p : ℕ). egress w.settings (length k.outs) p w.journal) (let e : 1 + q ≡ q + 1 = omega arith in e)
      ∙ ap (λ (n : ℕ). egress w.settings n (q + 1) w.journal) (sym count)

  legal_again : CheckSays k d (ends.Legal (length w.journal))
  legal_again = record {
    settings = w.settings;
    opened = w.opened;
    journal = bytes;
    matter = record { inputs = w.inputs; lines = w.files.lines; within = w.within };
    says = record { entry_list = w.journal; names = names_run k.outs; outputs = sent; count = refl };
  }

  shown_again : CheckSays (without_outputs k) d (ends.Shown (shown w.settings w.journal))
  shown_again = record {
    settings = w.settings;
    opened = w.opened;
    journal = bytes;
    matter = record { inputs = record { config = w.inputs.config; heads = w.inputs.heads }; lines = w.files.lines; within = w.within };
    says = record { entry_list = w.journal; names = names_run []; told = refl };
  }

  forms : IsTrue d.told → (c : Command) → (c ≡ Replay k) ⊎ (c ≡ Show (without_outputs k)) → HasForms c d
  forms told c checks = elim checks [
    | inl is ↦ subst (λ x. HasForms x d) (sym is) (told, length w.journal, legal_again)
    | inr is ↦ subst (λ x. HasForms x d) (sym is) (told, shown w.settings w.journal, shown_again)
  ]

-- ---- what a `run` wrote

written_kept : (k : RunNames) (d : Seen) → HasWritten k d → IsKept k d
written_kept k d w = record {
  settings = w.run.settings;
  opened = w.run.opened;
  inputs =
      let config = w.run.inputs.config in
      record {
        config = record { text = config.text; file = w.kept k.config (inl refl) ∙ config.file; value = config.value };
        heads = opened_again w.found d k.ins w.run.opened (λ m at. w.kept m (inr at)) w.run.inputs.heads;
      };
  journal = w.run.journal;
  run = w.run.run;
  whole = whole_all w.found k.ins w.run.opened (all_records w.run.opened) w.run.inputs.heads w.run.captures;
  files = w.run.files;
  ports = w.ports;
  within = w.within;
  none = w.none;
}

-- the files of such a command have their forms
pub recheck_complete : (words : List (String Global)) (old new : Seen) (before after : Sunk) → IsRechecked words old new before after → IsComplete words old new before after
recheck_complete words old new before after x = record { k = x.check; is = x.is; forms = forms x.k old (written_kept x.k old x.written) x.told x.check x.checks; quiet = x.quiet }

-- ---- what a `live` recorded

-- captures are those of one list of records for each
records_once : (d : Seen) (names : List (List ℕ)) (xs ys : List (List Record)) → AreCaptures d names xs → AreCaptures d names ys → xs ≡ ys
records_once d [] [] [] one other = refl
records_once d [] [] (y ∷ ys) one other = absurd other
records_once d [] (x ∷ xs) ys one other = absurd one
records_once d (n ∷ names) [] ys one other = absurd one
records_once d (n ∷ names) (x ∷ xs) [] one other = absurd other
records_once d (n ∷ names) (x ∷ xs) (y ∷ ys) one other =
    let file : Some one.0.bytes ≡ Some other.0.bytes = sym one.0.file ∙ other.0.file in
    let same : one.0.bytes ≡ other.0.bytes = cc in
    let first : x ≡ y = (one_capture other.0.bytes one.0.head other.0.head x y (subst (λ l. IsCapture one.0.head x l) same one.0.capture) other.0.capture).1 in
    ap (λ l. l ∷ xs) first ∙ ap (λ l. y ∷ l) (records_once d names xs ys one.1 other.1)

recorded_kept : (k : LiveWords) (d : Seen) → HasRecorded k d → IsKept (session_of k) d
recorded_kept k d w =
    let s = w.lived.session in
    let whole = whole_all d k.ins w.opened (records_of (length k.outs) (arrived 0 w.lived.packets)) w.heads s.captures in
    let are = records_once d k.ins (all_records w.opened) (records_of (length k.outs) (arrived 0 w.lived.packets)) (whole_captures d k.ins w.opened w.heads whole) s.captures in
    record {
      settings = w.lived.settings;
      opened = w.opened;
      inputs = record { config = record { text = w.lived.config.text; file = w.kept ∙ w.lived.config.file; value = w.lived.config.value }; heads = w.heads };
      journal = s.journal;
      run = subst (λ l. IsRunOver w.lived.settings l s.journal) (sym are) s.run.run;
      whole = whole;
      files = s.files.sent;
      ports = w.ports;
      within = w.within;
      none = w.none;
    }

pub replay_complete : (words : List (String Global)) (old new : Seen) (before after : Sunk) → IsReplayed words old new before after → IsComplete words old new before after
replay_complete words old new before after x =
    record { k = x.check; is = x.is; forms = forms (session_of x.k) old (recorded_kept x.k old x.recorded) x.told x.check x.checks; quiet = x.quiet }
