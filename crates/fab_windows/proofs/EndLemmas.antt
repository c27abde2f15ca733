-- How a run ends from what stands between two windows.
use Rattle.std.proofs.Common.{◌≡◌, ℕ, ◌+◌, List, [], ◌∷◌, length, map, Option, Some, None, refl, sym, ap, ◌∙◌, subst, inl}
use Rattle.std.specs.Prelude.{filter, nat_lt}
use Rattle.std.specs.List.{All}
use Rattle.std.proofs.lemmas.List.{append-nil}
use Rattle.fab_base.specs.Seen.{Seen}
use Rattle.fab_config.specs.Settings.{Settings}
use Rattle.fab_policy.specs.Journal.{Journal, frame_count}
use Rattle.fab_policy.specs.Growing.{NothingIsRun}
use Rattle.window_records.specs.Keeping.{Splits, IsAhead, KeepsBefore, KeepsJust}
use Rattle.fab_policy.specs.Legal.{window_start}
use Rattle.window_records.specs.Looks.{Opened, Stop, stop, kept, all_records}
use Rattle.pcap_file.specs.declared.Budget.{Budget}
use Rattle.pcap_file.specs.declared.Record.{Record}
use Rattle.window_records.specs.Port.{ending}
use Rattle.run_files.specs.Faults.{fault_from}
use Rattle.window_records.specs.Reads.{IsWhole}
use Rattle.fab_windows.specs.declared.Done.{Done}
use Rattle.fab_states.specs.Runs.{HoldsFrom, none_of}
use Rattle.fab_windows.specs.From.{FinishedOn, FrontsOn, InterruptedOn, IsRunOn, Origin, StoppedOn, WholesOn, captures_on, journal_on}
use Rattle.fab_windows.specs.Run.{keeps}

-- whole files are beginnings
pub whole_is_front : (c : Settings) (o : Origin) (d : Seen) (journal : ℕ) (outs : List ℕ) (J : Journal) → WholesOn c o d journal outs J → FrontsOn c o d journal outs J
whole_is_front c o d journal outs J w = record {
  before = Some J;
  begins = ([], refl);
  hold = record {
    lines_ = (journal_on o J, w.lines_, ([], append-nil (journal_on o J)));
    records = λ q lt. (captures_on c o (length outs) J q, w.records q lt, ([], append-nil (captures_on c o (length outs) J q)));
    order = inl (record { lines_ = (journal_on o J, w.lines_, ([], append-nil (journal_on o J))); records = w.records });
  };
}

abbrev pub no_records : List Record
no_records = []

-- a stop at a first look keeps nothing
kept_nothing : (c : Settings) (s : Stop) (ins : List (List Record)) → s.window ≡ None → map (kept c (Some s)) ins ≡ map (λ records. []) ins
kept_nothing c s [] e = refl
kept_nothing c s (rs ∷ ins) e =
    (λ i. ap (λ (x : Option ℕ). elim x as (λ _. List Record) [ None ↦ [] | Some v ↦ filter (λ r. nat_lt (window_start c r.moment) v) rs ]) e i ∷ kept_nothing c s ins e i)

module _ (c : Settings) (o : Origin) (budget : Budget) (opened : List Opened) where
  -- ---- before anything was taken

  none_held : (p : ℕ) (ins : List (List Record)) → HoldsFrom [] p (none_of (map (λ (records : List Record). no_records) ins)) (map (λ (records : List Record). no_records) ins)
  none_held p [] = tt
  none_held p (records ∷ ins) = (refl, none_held (p + 1) ins)

  pub none_run : (ins : List (List Record)) → IsRunOn c o (map (λ (records : List Record). no_records) ins) []
  none_run ins = record { ranged = tt; run = record { ports = tt; frames = none_held 1 ins; legal = tt; timed = tt } }

  module _ (nothing : NothingIsRun) where
    pub ends_before : (Files : Journal → Type 0) → Files [] → InterruptedOn c o budget opened Files
    ends_before Files files =
        let laws = nothing c (keeps c budget opened) in
        record {
          moment = 0;
          entry_list = [];
          run = subst (λ rs. IsRunOn c o rs []) (sym laws.1) (none_run (keeps c budget opened));
          files = files;
        }

    pub stops_first : (d : Seen) (journal : ℕ) (outs : List ℕ) (s : Stop) → stop c budget.bytes budget.frames opened ≡ Some s → s.window ≡ None → WholesOn c o d journal outs [] → StoppedOn c o budget opened d journal outs (fault_from (ending s))
    stops_first d journal outs s is none files =
        let kept_is = ap (λ o. map (kept c o) (all_records opened)) is ∙ kept_nothing c s (all_records opened) none in
        record {
          at = s;
          is = is;
          says = refl;
          entry_list = [];
          run = subst (λ rs. IsRunOn c o rs []) (sym kept_is) (none_run (all_records opened));
          files = files;
        }

  -- ---- between windows

  module _ (w : ℕ) (taken : List (List Record)) (J : Journal) (run : IsRunOn c o taken J) (splits : Splits c w opened taken) where
    -- by a fault of the depot or want of memory
    pub interrupted : KeepsBefore → (Files : Journal → Type 0) → IsAhead w (stop c budget.bytes budget.frames opened) → Files J → InterruptedOn c o budget opened Files
    interrupted keeps_before Files ahead files = record {
      moment = w;
      entry_list = J;
      run = subst (λ rs. IsRunOn c o rs J) (sym (keeps_before c w (stop c budget.bytes budget.frames opened) opened taken ahead splits)) run;
      files = files;
    }

    -- at a look of the window that comes next
    pub stopped : KeepsJust → (d : Seen) (journal : ℕ) (outs : List ℕ) (s : Stop) → stop c budget.bytes budget.frames opened ≡ Some s → s.window ≡ Some w → WholesOn c o d journal outs J → StoppedOn c o budget opened d journal outs (fault_from (ending s))
    stopped keeps_just d journal outs s is own files = record {
      at = s;
      is = is;
      says = refl;
      entry_list = J;
      run = subst (λ rs. IsRunOn c o rs J) (sym (ap (λ o. map (kept c o) (all_records opened)) is ∙ keeps_just c w s opened taken own splits)) run;
      files = files;
    }

-- at the end of all captures
pub finished : (c : Settings) (o : Origin) (budget : Budget) (opened : List Opened) (taken : List (List Record)) (J : Journal) (d : Seen) (journal : ℕ) (outs : List ℕ) (done : Done) →
    IsRunOn c o taken J → stop c budget.bytes budget.frames opened ≡ None → taken ≡ all_records opened → All IsWhole opened → WholesOn c o d journal outs J →
    done.frames ≡ frame_count J → done.entries ≡ length J → FinishedOn c o budget opened d journal outs done
finished c o budget opened taken J d journal outs done run none all whole files frames entries = record {
  entry_list = J;
  whole = whole;
  none = none;
  run = subst (λ rs. IsRunOn c o rs J) all run;
  files = files;
  frames = frames;
  entries = entries;
}
