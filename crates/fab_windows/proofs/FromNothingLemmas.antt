-- A run from the state before anything happened leaves what a run leaves.
use Rattle.std.proofs.Common.{◌≡◌, ℕ, ◌+◌, List, [], ◌++◌, length, Option, Some, None, Result, Ok, Err, refl, sym, ap, ◌∙◌, subst}
use Rattle.std.proofs.lemmas.List.{append-nil}
use Rattle.fab_base.specs.Seen.{Seen}
use Rattle.fab_config.specs.Settings.{Settings}
use Rattle.pcap_file.specs.declared.Budget.{Budget}
use Rattle.pcap_file.specs.declared.Record.{Record}
use Rattle.fab_policy.specs.Journal.{Journal}
use Rattle.fab_policy.specs.Outputs.{state_of}
use Rattle.fab_policy.specs.Text.{egress, text}
use Rattle.fab_policy.proofs.GrowLemmas.{nothing_is_written}
use Rattle.fab_states.specs.Written.{piece_records, piece_text}
use Rattle.fab_states.proofs.NothingLemmas.{run_nothing}
use Rattle.fab_states.proofs.WrittenLemmas.{records-behind, text-behind}
use Rattle.window_records.specs.First.{Start, opened_in}
use Rattle.window_records.specs.Looks.{Opened}
use Rattle.run_files.specs.declared.fault.RunFault.{RunFault}
use Rattle.run_files.specs.declared.fault.RunFault.TheVariants as fault
use Rattle.fab_windows.specs.declared.Done.{Done}
use Rattle.fab_windows.specs.Files.{FileSlots, Fronts, Hold, HoldFronts, Wholes, captures, captures_so_far, file_bytes, text_so_far}
use Rattle.fab_windows.specs.From.{EndsOn, FrontsOn, InterruptedOn, IsRunOn, RunsOn, StoppedOn, WholesOn, captures_on, captures_till, journal_on, journal_till, nothing_of}
use Rattle.fab_windows.specs.Run.{Ends, Interrupted, IsRunOver, Runs, Stopped}

module _ (c : Settings) where
  pub run_is : (ins : List (List Record)) (K : Journal) → IsRunOn c (nothing_of c) ins K → IsRunOver c ins K
  run_is ins K h = record { ranged = h.ranged; run = run_nothing c ins K h.run }

  -- ---- files

  pub journal_is : (K : Journal) → journal_on (nothing_of c) K ≡ text K
  journal_is K = ap (λ l. l ++ piece_text 0 K) (sym nothing_is_written.0) ∙ sym (text-behind [] K) ∙ ap text (append-nil K)

  capture_is : (n : ℕ) (K : Journal) (q : ℕ) → captures_on c (nothing_of c) n K q ≡ captures c n K q
  capture_is n K q =
      ap (λ l. l ++ piece_records c n (q + 1) (state_of c []) K) (sym (nothing_is_written.1 c n (q + 1)))
      ∙ sym (records-behind c n (q + 1) [] K) ∙ ap (egress c n (q + 1)) (append-nil K)

  pub captures_are : (n : ℕ) (K : Journal) → captures_on c (nothing_of c) n K ≡ captures c n K
  captures_are n K = λ i q. capture_is n K q i

  pub journal_was : (before : Option Journal) → journal_till (nothing_of c) before ≡ text_so_far before
  journal_was None = refl
  journal_was (Some I) = journal_is I

  pub captures_were : (n : ℕ) (before : Option Journal) → captures_till c (nothing_of c) n before ≡ captures_so_far c n before
  captures_were n None = refl
  captures_were n (Some I) = captures_are n I

  module _ (d : Seen) (journal : ℕ) (outs : List ℕ) where
    pub wholes_are : (K : Journal) → WholesOn c (nothing_of c) d journal outs K → Wholes c d journal outs K
    wholes_are K h = subst (λ r. Hold d journal outs (text K) r) (captures_are (length outs) K) (subst (λ l. Hold d journal outs l (captures_on c (nothing_of c) (length outs) K)) (journal_is K) h)

    pub wholes_back : (K : Journal) → Wholes c d journal outs K → WholesOn c (nothing_of c) d journal outs K
    wholes_back K h = subst (λ l. Hold d journal outs l (captures_on c (nothing_of c) (length outs) K)) (sym (journal_is K)) (subst (λ r. Hold d journal outs (text K) r) (sym (captures_are (length outs) K)) h)

    pub fronts_held : (K : Journal) (before : Option Journal) →
        HoldFronts d journal outs (file_bytes (journal_till (nothing_of c) before) (captures_till c (nothing_of c) (length outs) before)) (file_bytes (journal_on (nothing_of c) K) (captures_on c (nothing_of c) (length outs) K)) →
        HoldFronts d journal outs (file_bytes (text_so_far before) (captures_so_far c (length outs) before)) (file_bytes (text K) (captures c (length outs) K))
    fronts_held K before h =
        subst (λ x. HoldFronts d journal outs x (file_bytes (text K) (captures c (length outs) K))) (λ i. file_bytes (journal_was before i) (captures_were (length outs) before i))
        (subst (HoldFronts d journal outs (file_bytes (journal_till (nothing_of c) before) (captures_till c (nothing_of c) (length outs) before))) (λ i. file_bytes (journal_is K i) (captures_are (length outs) K i)) h)

    fronts_are : (K : Journal) → FrontsOn c (nothing_of c) d journal outs K → Fronts c d journal outs K
    fronts_are K h = record { before = h.before; begins = h.begins; hold = fronts_held K h.before h.hold }

    -- ---- endings

    module _ (budget : Budget) (ins : List Opened) where
      stopped_is : (e : RunFault) → StoppedOn c (nothing_of c) budget ins d journal outs e → Stopped c budget ins d journal outs e
      stopped_is e h = record { at = h.at; is = h.is; says = h.says; entry_list = h.entry_list; run = run_is _ h.entry_list h.run; files = wholes_are h.entry_list h.files }

      interrupted_is : (Old New : Journal → Type 0) → ((K : Journal) → Old K → New K) → InterruptedOn c (nothing_of c) budget ins Old → Interrupted c budget ins New
      interrupted_is Old New f h = record { moment = h.moment; entry_list = h.entry_list; run = run_is _ h.entry_list h.run; files = f h.entry_list h.files }

      ends_are : (r : Result Done RunFault) → EndsOn c (nothing_of c) budget ins d journal outs r → Ends c budget ins d journal outs r
      ends_are (Ok done) h = record {
        entry_list = h.entry_list;
        whole = h.whole;
        none = h.none;
        run = run_is _ h.entry_list h.run;
        files = wholes_are h.entry_list h.files;
        frames = h.frames;
        entries = h.entries;
      }
      ends_are (Err (fault.Capture port at why)) h = stopped_is (fault.Capture port at why) h
      ends_are (Err (fault.Limit kind)) h = stopped_is (fault.Limit kind) h
      ends_are (Err fault.Read) h = interrupted_is (WholesOn c (nothing_of c) d journal outs) (Wholes c d journal outs) wholes_are h
      ends_are (Err fault.Write) h = interrupted_is (FrontsOn c (nothing_of c) d journal outs) (Fronts c d journal outs) fronts_are h
      ends_are (Err fault.Memory) h = interrupted_is (FrontsOn c (nothing_of c) d journal outs) (Fronts c d journal outs) fronts_are h

pub runs_are : (c : Settings) (old : Start) (new : Seen) (files : FileSlots) (r : Result Done RunFault) → RunsOn c (nothing_of c) old new files r → Runs c old new files r
runs_are c old new files r h = record {
  touches = h.touches;
  ends = λ told. ends_are c new files.journal files.outs old.left (opened_in old.seen old.ins) r (h.ends told);
  read = h.read;
  write = h.write;
  counts = h.counts;
}
