-- `replay` and `show` of what a `run` over a capture without a record writes.
use Rattle.std.specs.Prelude.{◌≡◌, ℕ, zero, suc, ◌+◌, ◌*◌, ◌<◌, ◌≤◌, List, [], ◌∷◌, length, codes, Some, String, refl}
use Rattle.std.specs.List.{All}
use Rattle.std.specs.declared.alloc.Global.{Global}
use Rattle.std.proofs.Common.{inl, inr, arith, lit≤, ap, sym, subst}
use Rattle.pcap_file.specs.Capture as captures
use Rattle.pcap_file.specs.Capture.{HEAD, head_decoded, head_bytes}
use Rattle.fab_policy.specs.Journal.{Journal, followed}
use Rattle.fab_policy.specs.Legal.{Run}
use Rattle.window_records.specs.Looks as looks
use Rattle.fab_policy.specs.State.{tables_of, overdue, now_of}
use Rattle.fab_policy.specs.Text as text
use Rattle.fab_policy.specs.declared.event.Event.{Event}
use Rattle.fab_policy.specs.declared.event.Event.TheVariants.{Frame}
use Rattle.fab_policy.specs.declared.verdict.Verdict.TheVariants.{Granted}
use Rattle.fab_policy.proofs.NamedLemmas.{text_names_journal}
use Rattle.window_records.specs.Reads.{IsWhole}
use Rattle.fab_replay.specs.Check.{NamesRun}
use Rattle.fab_replay.specs.Showing.{shown}
use Rattle.fab_replay.proofs.OneLemmas.{same_frames}
use Rattle.fab_windows.specs.Run.{IsRunOver}
use Rattle.fabric_tool.specs.Checking.{HasMatter, budget_of, output_in, Finds, IsLegalJournal, IsShownJournal}
use Rattle.run_files.specs.Names.{Among}
use Rattle.fabric_tool.specs.Command.{RunNames, Replay, Show, command}
use Rattle.fabric_tool.specs.Inputs.{AreOpened, MOST_BYTES}
use Rattle.fabric_tool.specs.Left.{HasRun, IsSafe, AreDistinct}
use Rattle.fabric_tool.specs.Rechecking.{HasWritten, IsRechecked, without_outputs}
use Rattle.fabric_tool.specs.Statuses.{IsComplete, IsNamed}
use Rattle.fabric_tool.specs.declared.outcome.Outcome.TheVariants as ends
use Rattle.command_examples.specs.Store.{File, CONFIG, K, K_FILE, IN_FILE, opened, names, holding, said, quiet}
use Rattle.command_examples.specs.Running.{value, has_inputs, no_stop}
use Rattle.command_examples.specs.Running as running

-- the head line of a journal without an entry
abbrev pub JOURNAL : List ℕ
JOURNAL = codes "journal 2\n"

abbrev pub FILES : List File
FILES = K_FILE ∷ IN_FILE ∷ record { name = codes "J"; bytes = JOURNAL } ∷ record { name = codes "OUT"; bytes = head_bytes } ∷ []

-- ---- the run

no_record : looks.all_records (opened ∷ []) ≡ [] ∷ []
unfolding captures.next
no_record = refl

run : Run K (looks.all_records (opened ∷ [])) []
unfolding captures.next
run = record { ports = tt; frames = (refl, tt); legal = tt; timed = tt }

whole : All IsWhole (opened ∷ [])
unfolding captures.next
whole zero d lt = refl
whole (suc k) d lt = absurd (omega (arith, lt))

-- ---- what is checked

matter : (k : RunNames) → k.config ≡ codes "K" → k.journal ≡ codes "J" → k.ins ≡ codes "IN" ∷ [] → HasMatter k (holding FILES) K (opened ∷ []) JOURNAL
unfolding head_decoded
matter k config journal ins = record {
  inputs = record {
    config = record { text = CONFIG; file = ap (holding FILES).file config; value = value };
    heads = subst (λ l. AreOpened (holding FILES) l (opened ∷ [])) (sym ins) (record { bytes = head_bytes; file = refl; head = refl; body = refl }, tt);
  };
  lines = ap (holding FILES).file journal;
  within = subst (λ (l : List (List ℕ)). length JOURNAL + HEAD * length l ≤ MOST_BYTES) (sym ins) (lit≤ tt);
}

pub names_run : (outputs : ℕ) (found : ℕ → List ℕ) → NamesRun K (budget_of JOURNAL 1) (record { ins = opened ∷ []; journal = JOURNAL; outputs = outputs; found = found }) []
unfolding looks.looks looks.stop captures.next text.text
names_run outputs found = record { named = record { ranged = tt; ports = tt; lines = inl refl; frames = (refl, tt) }; run = run; none = refl; whole = whole }

same : (q : ℕ) → q < 1 → output_in names (holding FILES) q ≡ text.egress K 1 (q + 1) []
unfolding text.egress
same zero lt = refl
same (suc q) lt = absurd (omega (arith, lt))

pub is_legal : Finds names (holding FILES) (IsLegalJournal 0)
unfolding text.egress
is_legal = record {
  settings = K;
  opened = opened ∷ [];
  journal = JOURNAL;
  matter = matter names refl refl refl;
  says = record { entry_list = []; names = names_run 1 (output_in names (holding FILES)); outputs = same; count = refl };
}

pub is_shown : Finds (without_outputs names) (holding FILES) (IsShownJournal (shown K []))
is_shown = record {
  settings = K;
  opened = opened ∷ [];
  journal = JOURNAL;
  matter = matter (without_outputs names) refl refl refl;
  says = record { entry_list = []; names = names_run 0 (output_in (without_outputs names) (holding FILES)); told = refl };
}

module _ (words : List (String Global)) where
  pub replay_is_complete : command words ≡ Some (Replay names) → IsComplete words (holding FILES) (holding FILES) (said []) (said [])
  replay_is_complete is = record { k = Replay names; is = is; forms = (refl, 0, is_legal); quiet = quiet (Replay names) FILES FILES [] [] }

  pub replay_is_named : command words ≡ Some (Replay names) → IsNamed words (ends.Legal 0) (holding FILES) (holding FILES) (said []) (said [])
  replay_is_named is = record { k = Replay names; is = is; told = refl; says = is_legal; quiet = quiet (Replay names) FILES FILES [] [] }

  pub show_is_complete : command words ≡ Some (Show (without_outputs names)) → IsComplete words (holding FILES) (holding FILES) (said []) (said [])
  show_is_complete is = record { k = Show (without_outputs names); is = is; forms = (refl, shown K [], is_shown); quiet = quiet (Show (without_outputs names)) FILES FILES [] [] }

  pub show_is_named : command words ≡ Some (Show (without_outputs names)) → IsNamed words (ends.Shown (shown K [])) (holding FILES) (holding FILES) (said []) (said [])
  show_is_named is = record { k = Show (without_outputs names); is = is; told = refl; says = is_shown; quiet = quiet (Show (without_outputs names)) FILES FILES [] [] }

-- ---- what `run` wrote

not_followed : (J : Journal) (e : Event) (later : List Event) → followed (e ∷ J) later ≡ [] → ⊥
not_followed J e [] is = absurd (cc)
not_followed J e (f ∷ later) is = not_followed (e ∷ J) f later is

-- nothing stood before the entries of an empty journal
nothing_before : (I : Journal) (later : List Event) → [] ≡ followed I later → I ≡ []
nothing_before I [] is = sym is
nothing_before I (e ∷ later) is = absurd (not_followed I e later (sym is))

safe : IsSafe K []
safe = record {
  legal = tt;
  distinct = λ I later is. subst (λ (J : Journal). AreDistinct K (tables_of K J)) (sym (nothing_before I later is)) (record { addresses = (tt, λ k d lt. absurd (omega (arith, lt))); names = tt; macs = tt });
  grants = λ I later port index a caught is. absurd (not_followed I (Frame port index caught (Granted a)) later (sym is));
  data_frames = λ I later port index caught verdict is data_frame. absurd (not_followed I (Frame port index caught verdict) later (sym is));
  named = λ I e later is. absurd (not_followed I e later (sym is));
  quiet = λ I later is. subst (λ (J : Journal). overdue K (tables_of K J) (now_of (tables_of K J)) ≡ []) (sym (nothing_before I later is)) refl;
}

-- the journal's file has the text of no other run
one : (I : Journal) → IsRunOver K (looks.all_records (opened ∷ [])) I → (holding FILES).file (codes "J") ≡ Some (text.text I) → I ≡ []
unfolding text.text
one I r is =
    let same : text.text I ≡ text.text [] = cc in
    (text_names_journal I [] r.ranged tt (same_frames (looks.all_records (opened ∷ [])) I [] r.run.ports run.ports r.run.frames run.frames)).0 same

pub has_run : HasRun names 0 0 (holding running.FILES) (holding FILES)
unfolding head_decoded captures.next text.text text.egress
has_run = record {
  settings = K;
  opened = opened ∷ [];
  inputs = has_inputs;
  captures = (record { bytes = head_bytes; file = refl; head = opened.head; capture = record { head = refl; whole = refl; says = refl } }, tt);
  none = no_stop;
  journal = [];
  run = record { ranged = tt; run = run };
  one = one;
  safe = safe;
  files = record { lines = refl; captures = refl };
  frames_are = refl;
  entries_are = refl;
}

pub has_written : HasWritten names (holding FILES)
unfolding looks.looks looks.stop captures.next text.text has_run
has_written = record { found = holding running.FILES; frames = 0; entries = 0; run = has_run; ports = refl; kept = kept; within = lit≤ tt; none = refl }
  where
    kept : (m : List ℕ) → Among (codes "K" ∷ codes "IN" ∷ []) m → (holding FILES).file m ≡ (holding running.FILES).file m
    kept m (inl is) = subst (λ (n : List ℕ). (holding FILES).file n ≡ (holding running.FILES).file n) (sym is) refl
    kept m (inr (inl is)) = subst (λ (n : List ℕ). (holding FILES).file n ≡ (holding running.FILES).file n) (sym is) refl
    kept m (inr (inr none)) = absurd none

module _ (words : List (String Global)) where
  pub replay_is_rechecked : command words ≡ Some (Replay names) → IsRechecked words (holding FILES) (holding FILES) (said []) (said [])
  replay_is_rechecked is = record { k = names; written = has_written; told = refl; check = Replay names; checks = inl refl; is = is; quiet = quiet (Replay names) FILES FILES [] [] }

  pub show_is_rechecked : command words ≡ Some (Show (without_outputs names)) → IsRechecked words (holding FILES) (holding FILES) (said []) (said [])
  show_is_rechecked is = record { k = names; written = has_written; told = refl; check = Show (without_outputs names); checks = inr refl; is = is; quiet = quiet (Show (without_outputs names)) FILES FILES [] [] }
