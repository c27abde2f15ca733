-- How `replay` and `show` end, by how their check ended.
use Rattle.std.proofs.Common.{◌≡◌, ℕ, ◌-◌, ◌<◌, ◌≤◌, List, [], ◌∷◌, ◌++◌, length, true, Ok, Err, refl, ap, ◌∙◌, arith, inl, inr}
use Rattle.std.specs.Prelude.{String}
use Rattle.std.specs.declared.alloc.Global.{Global}
use Rattle.fab_base.specs.Ending.{End, Uses}
use Rattle.fab_base.specs.Seen.{Seen, Nothing}
use Rattle.fab_base.proofs.EndingLemmas.{uses_wider}
use Rattle.fab_config.specs.Settings.{Settings}
use Rattle.pcap_file.specs.declared.Budget.{Budget}
use Rattle.fab_policy.specs.Journal.{Journal}
use Rattle.fab_policy.specs.Standing.{Contents, Stands}
use Rattle.fab_policy.specs.State.{tables_of}
use Rattle.fab_replay.specs.Check.{Matter}
use Rattle.fab_replay.specs.Showing.{shown_by}
use Rattle.fabric_tool.specs.Checking.{Finds, IsStanding, IsLegalJournal, IsShownJournal, IsChecked, GivenRead, GivenEnds, Tells, reads_of}
use Rattle.fabric_tool.specs.Command.{RunNames, are_ports, names_of, show_of, input_of, count_of, Replay, Show}
use Rattle.fabric_tool.specs.Ending.{CountsOf}
use Rattle.fabric_tool.specs.Ends.{Holds}
use Rattle.fabric_tool.specs.Inputs.{HaveNoRoom, MOST_BYTES}
use Rattle.fabric_tool.specs.Outcome.{outcome_end}
use Rattle.fabric_tool.specs.declared.command.Width.{Width}
use Rattle.fabric_tool.specs.declared.command.Width.TheVariants as widths
use Rattle.fabric_tool.specs.declared.outcome.Outcome.{Outcome}
use Rattle.fabric_tool.specs.declared.outcome.Outcome.TheVariants as ends
use Rattle.fabric_tool.proofs.CheckLemmas.{ins_named, first_two}
use Rattle.fabric_tool.proofs.NameLemmas.{ports}
use Rattle.fabric_tool.proofs.UseLemmas.{used_files, used_counts}
use Rattle.run_files.specs.Names.{Among}
use Rattle.run_files.proofs.NameLemmas.{length-counted}

-- ---- before the check

-- a journal that is too long alone leaves no room for the first head
long_journal : (d : Seen) (names : List (List ℕ)) (journal : List ℕ) → 1 ≤ length names → MOST_BYTES < length journal → HaveNoRoom names d (MOST_BYTES - length journal)
long_journal d [] journal some above = absurd (omega arith)
long_journal d (name ∷ names) journal some above = record { before = []; name = name; behind = names; are = refl; opened = []; heads = tt; above = omega arith }

-- the configuration or the journal can't be read
pub given_ended : (w : Width) (words : List (String Global)) → are_ports w words ≡ true → (a z : Seen) (x : Outcome) → GivenRead (names_of w words) a z (Err x) → IsChecked w (names_of w words) a z (Err x)
given_ended w words run a z x r = go x (uses_wider (Among ((names_of w words).config ∷ (names_of w words).journal ∷ [])) Nothing (Among (reads_of w (names_of w words))) Nothing (first_two w words) (λ m y. y) (outcome_end x) a z r.uses) r.ended
  where
    counted : {end : End} → Uses (Among (reads_of w (names_of w words))) Nothing end a z → CountsOf (reads_of w (names_of w words)) [] end a z
    counted used = used_counts used (reads_of w (names_of w words)) [] (λ m y. y)

    some : 1 ≤ length (names_of w words).ins
    some =
        let named = ap (λ (l : List (List ℕ)). length l) (ins_named w words) in
        let count = length-counted (input_of w words) 0 (count_of w words) in
        let ports_some = (ports w words run).some in
        omega arith

    go : (x : Outcome) → Uses (Among (reads_of w (names_of w words))) Nothing (outcome_end x) a z → GivenEnds (names_of w words) a z x → IsChecked w (names_of w words) a z (Err x)
    go (ends.Config fault) used e = (used_files used, λ told. e told, counted used)
    go (ends.Limit kind) used e = (
      used_files used,
      λ told.
          let l = e.1 told in
          inl (e.0, record { settings = l.0; config = l.1; journal = l.2; lines = l.3; heads = long_journal a (names_of w words).ins l.2 some l.4 }),
      counted used,
    )
    go ends.ReadFault used (inl rose) = (used_files used, λ told. inl rose, counted used)
    go ends.ReadFault used (inr e) = (used_files used, λ told. inr (inl (let config = e.1 told in (config.0, config.1, e.0))), counted used)
    go ends.Memory used e = (used_files used, λ told. tt, counted used)
    go x used e = absurd e

-- ---- behind it

-- the files of a command are so of another property that follows
finds_on : (k : RunNames) (d : Seen) (P Q : Settings → Budget → Matter → Type 0) → ((c : Settings) (b : Budget) (m : Matter) → P c b m → Q c b m) → Finds k d P → Finds k d Q
finds_on k d P Q on f = record { settings = f.settings; opened = f.opened; journal = f.journal; matter = f.matter; says = on _ _ _ f.says }

pub replay_done : (k : RunNames) (a z : Seen) (F : Contents) (entries : ℕ) → IsChecked widths.Two k a z (Ok (F, entries)) → Holds (Replay k) a z (ends.Legal entries)
replay_done k a z F entries h = (used_files h.0, λ told. finds_on k a (IsStanding F entries) (IsLegalJournal entries) (λ c b m s. record { entry_list = s.entry_list; names = s.names; outputs = s.outputs; count = s.count }) (h.1 told), h.0.counts)

pub replay_refused : (k : RunNames) (a z : Seen) (o : Outcome) → IsChecked widths.Two k a z (Err o) → Holds (Replay k) a z o
replay_refused k a z (ends.Legal entries) h = absurd h
replay_refused k a z o h = h

-- what was written of a fabric into an empty text is what is told of it
pub told_text : (F : Contents) (entries : ℕ) (text written before : List ℕ) → text ≡ written → ((J : Journal) → Stands F J → written ≡ before ++ shown_by entries (tables_of F.settings J)) → before ≡ [] → Tells F entries (ends.Shown text)
told_text F entries text written before is made none = λ J stands. is ∙ made J stands ∙ ap (λ (l : List ℕ). l ++ shown_by entries (tables_of F.settings J)) none

-- what is told of the fabric is what is shown of the journal
shown_of : (F : Contents) (entries : ℕ) (text : List ℕ) (c : Settings) (b : Budget) (m : Matter) → Tells F entries (ends.Shown text) → IsStanding F entries c b m → IsShownJournal text c b m
shown_of F entries text c b m tells s = record {
  entry_list = s.entry_list;
  names = s.names;
  told = tells s.entry_list s.stands ∙ ap (λ (n : ℕ). shown_by n (tables_of F.settings s.entry_list)) s.count ∙ ap (λ (x : Settings). shown_by (length s.entry_list) (tables_of x s.entry_list)) s.settings;
}

pub show_done : (k : RunNames) (a z : Seen) (F : Contents) (entries : ℕ) (o : Outcome) → IsChecked widths.One k a z (Ok (F, entries)) → Tells F entries o → Holds (Show k) a z o
show_done k a z F entries (ends.Shown text) h tells = (used_files h.0, λ told. finds_on k a (IsStanding F entries) (IsShownJournal text) (λ c b m s. shown_of F entries text c b m tells s) (h.1 told), h.0.counts)
show_done k a z F entries ends.Memory h tells = (used_files h.0, λ told. tt, h.0.counts)
show_done k a z F entries o h tells = absurd tells

pub show_refused : (words : List (String Global)) (a z : Seen) (o : Outcome) → IsChecked widths.One (show_of words) a z (Err o) → Holds (Show (show_of words)) a z o
show_refused words a z (ends.Shown text) h = absurd h
show_refused words a z (ends.WrongOutput port at) h = (h.0, λ told. let first = (h.1 told).says.first in absurd (omega (arith, first.2)), h.2)
show_refused words a z o h = h
