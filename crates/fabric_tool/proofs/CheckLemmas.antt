-- How the check of `replay` and of `show` ends.
use Rattle.std.proofs.Common.{◌≡◌, ℕ, zero, suc, ◌+◌, ◌-◌, ◌*◌, ◌<◌, ◌≤◌, List, [], ◌∷◌, ◌++◌, length, get_or, true, Some, Ok, Err, IsTrue, refl, sym, ap, ◌∙◌, subst, arith, inl, inr}
use Rattle.std.specs.Prelude.{Result, String}
use Rattle.std.specs.declared.alloc.Global.{Global}
use Rattle.fab_base.specs.Ending.{End, Said, Read, end_by, SparesReads, Counts, Either, RoseIn, Uses}
use Rattle.fab_base.specs.Seen.{Seen, SameFiles, SameWriteFaults, Touches, Nothing, bytes_of}
use Rattle.fab_config.specs.Settings.{Settings}
use Rattle.pcap_file.specs.Capture.{HEAD}
use Rattle.pcap_file.specs.declared.Budget.{Budget}
use Rattle.fab_policy.specs.Journal.{Journal}
use Rattle.fab_policy.specs.Standing.{Contents}
use Rattle.window_records.specs.First.{opened_in}
use Rattle.fab_base.specs.Slots.{slot_at, NameIn}
use Rattle.window_records.specs.Ports.{slots_of}
use Rattle.window_records.specs.declared.shelf.Input.{Input}
use Rattle.pcap_file.specs.declared.fault.GatherFault.{GatherFault}
use Rattle.fab_replay.specs.Outputs.{IsCompared}
use Rattle.fab_replay.specs.Check.{Matter, NamesRun, IsAccepted, IsFirstOutput, IsFirstStop, Says, Checks, matter_in, sent_on, task_of}
use Rattle.fab_replay.specs.Counts as counts
use Rattle.fab_replay.specs.declared.fault.CheckFault.{CheckFault}
use Rattle.fab_replay.specs.declared.fault.CheckFault.TheVariants as checks
use Rattle.fabric_tool.specs.Checking.{budget_of, output_in, matter_of, HasMatter, HasGiven, Finds, IsStanding, IsUnread, IsChecked, AreOpenInputs, reads_of, refused_by}
use Rattle.fabric_tool.specs.Command.{are_ports, names_of, ins_of, count_of, input_of}
use Rattle.run_files.specs.Names.{Among}
use Rattle.fabric_tool.specs.Ending.{CountsOf}
use Rattle.fabric_tool.specs.Inputs.{AreOpened, MOST_BYTES, MOST_FRAMES}
use Rattle.fabric_tool.specs.Outcome.{outcome_end}
use Rattle.fabric_tool.specs.Reading.{AreHeads, HeadsRead, HeadsEnd}
use Rattle.fabric_tool.specs.declared.command.Width.{Width}
use Rattle.fabric_tool.specs.declared.command.Width.TheVariants as widths
use Rattle.fabric_tool.specs.declared.outcome.Outcome.{Outcome}
use Rattle.fabric_tool.specs.declared.outcome.Outcome.TheVariants as ends
use Rattle.fab_base.proofs.EndingLemmas.{uses_then, uses_wider}
use Rattle.fab_base.proofs.SeenLemmas.{touches_wider}
use Rattle.run_files.proofs.NameLemmas.{among_front, among_back, among_split, rose_since, length-counted}
use Rattle.fabric_tool.proofs.HeadLemmas.{heads_opened, heads_since}
use Rattle.fabric_tool.proofs.JournalLemmas.{outs_count}
use Rattle.fabric_tool.proofs.SinceLemmas.{without_since, no_room_since, unread_since}
use Rattle.fabric_tool.proofs.SlotLemmas.{heads_on, all_named, slots_among}
use Rattle.fabric_tool.proofs.UseLemmas.{used_touches, used_files, used_told, used_counts}
pub use Rattle.fabric_tool.proofs.SlotLemmas.{ins_named}

-- ---- the same matter, told by slots and by names

-- an output of which nothing is given yet has the bytes of its file
found_there : (a d : Seen) (names : List (List ℕ)) (slots : List ℕ) (q : ℕ) → q < length slots → IsTrue a.told → AreOpenInputs a d names slots → bytes_of (a.file (get_or names q [])) ≡ d.left (slot_at slots q)
found_there a d [] [] q lt told are = absurd (omega arith)
found_there a d [] (s ∷ slots) q lt told are = absurd are
found_there a d (n ∷ names) [] q lt told are = absurd are
found_there a d (n ∷ names) (s ∷ slots) zero lt told are = ap bytes_of (are.0.2 told)
found_there a d (n ∷ names) (s ∷ slots) (suc q) lt told are = found_there a d names slots q (omega arith) told are.1

module _ (c : Settings) (budget : Budget) (m : Matter) (found : ℕ → List ℕ) (same : (q : ℕ) → q < m.outputs → found q ≡ m.found q) where
  names_on : (J : Journal) → NamesRun c budget m J → NamesRun c budget (record { ins = m.ins; journal = m.journal; outputs = m.outputs; found = found }) J
  names_on J n = record { named = n.named; run = n.run; none = n.none; whole = n.whole }

  pub standing_on : (F : Contents) (entries : ℕ) → F.settings ≡ c → IsAccepted c budget m F entries → IsStanding F entries c budget (record { ins = m.ins; journal = m.journal; outputs = m.outputs; found = found })
  standing_on F entries settings x = let l = x.legal in record { entry_list = l.entry_list; names = names_on l.entry_list l.names; outputs = λ q lt. same q lt ∙ l.outputs q lt; count = l.count; stands = x.stands; settings = settings }

  pub output_on : (port at : ℕ) → IsFirstOutput c budget m port at → IsFirstOutput c budget (record { ins = m.ins; journal = m.journal; outputs = m.outputs; found = found }) port at
  output_on port at x =
      let f = x.first in
      record {
        entry_list = x.entry_list;
        names = names_on x.entry_list x.names;
        first = (f.0, f.1, f.2, subst (λ l. IsCompared (Some at) l (sent_on c m x.entry_list f.0)) (sym (same f.0 f.2)) f.3, λ q lt. same q (omega (arith, lt, f.2)) ∙ f.4 q lt);
      }

  pub stop_on : (e : GatherFault) → IsFirstStop c budget m e → IsFirstStop c budget (record { ins = m.ins; journal = m.journal; outputs = m.outputs; found = found }) e
  stop_on e x = record { at = x.at; is = x.is; says = x.says; entry_list = x.entry_list; before = x.before; all = x.all }

-- ---- names of a command

-- a capture or an output is an input of the command
pub checked : (w : Width) (words : List (String Global)) (m : List ℕ) → Among (ins_of w words ++ (names_of w words).outs) m → Among (reads_of w (names_of w words)) m
checked widths.One words m x = inr (inr (elim (among_split (ins_of widths.One words) [] m x) [ inl i ↦ i | inr none ↦ absurd none ]))
checked widths.Two words m x = inr (inr x)

-- and so are the configuration and the journal
pub first_two : (w : Width) (words : List (String Global)) (m : List ℕ) → Among ((names_of w words).config ∷ (names_of w words).journal ∷ []) m → Among (reads_of w (names_of w words)) m
first_two widths.One words m (inl e) = inl e
first_two widths.One words m (inr (inl e)) = inr (inl e)
first_two widths.One words m (inr (inr none)) = absurd none
first_two widths.Two words m (inl e) = inl e
first_two widths.Two words m (inr (inl e)) = inr (inl e)
first_two widths.Two words m (inr (inr none)) = absurd none

-- ---- how the check ends

-- the same outputs, of files that are as they were
outs_since : (a m o : Seen) → SameFiles a m → (IsTrue a.told → IsTrue m.told) → (names : List (List ℕ)) (slots : List ℕ) → AreOpenInputs m o names slots → AreOpenInputs a o names slots
outs_since a m o same told_m [] [] are = tt
outs_since a m o same told_m [] (s ∷ slots) are = absurd are
outs_since a m o same told_m (n ∷ names) [] are = absurd are
outs_since a m o same told_m (n ∷ names) (s ∷ slots) are = ((are.0.0, are.0.1, λ told. sym (same n) ∙ are.0.2 (told_m told)), outs_since a m o same told_m names slots are.1)

-- the check of equal things
pub checks_as : {s c : Settings} {left : Budget} {xs ins : List Input} {ys slots journal : List ℕ} {o z : Seen} {F : Contents} {r : Result ℕ CheckFault} → s ≡ c → xs ≡ ins → ys ≡ slots → Checks (task_of s left xs o journal ys) z F r → Checks (task_of c left ins o journal slots) z F r
checks_as {s} {c} {left} {xs} {ins} {ys} {slots} {journal} {o} {z} {F} {r} settings inputs outputs checks =
    subst (λ x. Checks (task_of x left ins o journal slots) z F r) settings
    (subst (λ l. Checks (task_of s left l o journal slots) z F r) inputs (subst (λ l. Checks (task_of s left xs o journal l) z F r) outputs checks))

-- what it did to the store, by its slots
checks_uses : (names : List ℕ → Type 0) (o z : Seen) (r : Result ℕ CheckFault) → Touches Nothing names o z → (r ≡ Err checks.Read → RoseIn names o.read_faults z.read_faults) → SparesReads (end_by counts.check_end r) o z × SameWriteFaults o z → Uses names Nothing (end_by counts.check_end r) o z
checks_uses names o z r touches rose tells = record { touches = touches_wider Nothing names Nothing (Either names Nothing) o z (λ m x. x) (λ m x. inl x) touches; counts = go r rose tells }
  where
    go : (r : Result ℕ CheckFault) → (r ≡ Err checks.Read → RoseIn names o.read_faults z.read_faults) → SparesReads (end_by counts.check_end r) o z × SameWriteFaults o z → Counts (RoseIn names o.read_faults z.read_faults) (RoseIn Nothing o.write_faults z.write_faults) (end_by counts.check_end r) o z
    go (Ok entries) rose tells = tells
    go (Err checks.Read) rose tells = (rose refl, tells.1)
    go (Err e) rose tells = tells

-- the configuration and the journal were read
module _ (w : Width) (words : List (String Global)) (run : are_ports w words ≡ true) (c : Settings) (journal : List ℕ) (a b : Seen) (given : HasGiven (names_of w words) c journal a b) where
  abbrev own : List (List ℕ)
  own = reads_of w (names_of w words)

  told_b : IsTrue a.told → IsTrue b.told
  told_b = used_told given.uses

  files_b : SameFiles a b
  files_b = used_files given.uses

  all_b : Uses (Among own) Nothing Said a b
  all_b = uses_wider (Among ((names_of w words).config ∷ (names_of w words).journal ∷ [])) Nothing (Among own) Nothing (first_two w words) (λ m x. x) Said a b given.uses

  -- further calls, on captures and outputs
  then_on : (names : List ℕ → Type 0) → ((m : List ℕ) → names m → Among (ins_of w words ++ (names_of w words).outs) m) → (end : End) (m z : Seen) → Uses (Among own) Nothing Said a m → Uses names Nothing end m z → Uses (Among own) Nothing end a z
  then_on names are end m z before now = uses_then (Among own) Nothing end a m z before (uses_wider names Nothing (Among own) Nothing (λ n x. checked w words n (are n x)) (λ n x. x) end m z now)

  in_front : (m : List ℕ) → Among (ins_of w words) m → Among (ins_of w words ++ (names_of w words).outs) m
  in_front = among_front (ins_of w words) (names_of w words).outs

  in_back : (m : List ℕ) → Among (names_of w words).outs m → Among (ins_of w words ++ (names_of w words).outs) m
  in_back = among_back (ins_of w words) (names_of w words).outs

  counted : {end : End} {z : Seen} → Uses (Among own) Nothing end a z → CountsOf own [] end a z
  counted used = used_counts used own [] (λ m x. x)

  names_count : length (names_of w words).ins ≡ count_of w words
  names_count = ap (λ (l : List (List ℕ)). length l) (ins_named w words) ∙ length-counted (input_of w words) 0 (count_of w words)

  -- a head can't be read
  pub heads_ended : length journal ≤ MOST_BYTES → (z : Seen) (frames : ℕ) (left : Budget) (x : Outcome) → HeadsRead (ins_of w words) b z (record { bytes = MOST_BYTES - length journal; frames = frames }) left (Err x) → IsChecked w (names_of w words) a z (Err x)
  heads_ended room z frames left x read = go x (then_on (Among (ins_of w words)) in_front (outcome_end x) b z all_b read.uses) read.ended
    where
      go : (x : Outcome) → Uses (Among own) Nothing (outcome_end x) a z → HeadsEnd (ins_of w words) (MOST_BYTES - length journal) b z x → IsChecked w (names_of w words) a z (Err x)
      go (ends.Capture port at reason) used e = (
        used_files used,
        λ told.
            inl (
              e.0,
              record {
                head = record { settings = c; config = given.config told; first = without_since a b files_b (ins_named w words) (e.2 (told_b told)) };
                journal = journal;
                lines = given.lines told;
                within = (let up_to = e.1 in omega arith);
              },
            ),
        counted used,
      )
      go (ends.Limit kind) used e = (
        used_files used,
        λ told.
            inl (
              e.0,
              record { settings = c; config = given.config told; journal = journal; lines = given.lines told; heads = no_room_since a b files_b (ins_named w words) (e.2 (told_b told)) },
            ),
        counted used,
      )
      go ends.ReadFault used e = (
        used_files used,
        λ told.
            inr (inr (inl (record {
              settings = c;
              config = given.config told;
              journal = journal;
              lines = given.lines told;
              room = room;
              first = unread_since a b files_b (ins_named w words) z given.uses.touches.reads_rise (e (told_b told));
            }))),
        counted used,
      )
      go ends.Memory used e = (used_files used, λ told. tt, counted used)
      go x used e = absurd e

  module _ (m : Seen) (ins : List Input) (had left : Budget) (heads : AreHeads b m (ins_of w words) ins) (read : Uses (Among (ins_of w words)) Nothing Said b m)
      (taken : (left.bytes + HEAD * length (ins_of w words) ≡ had.bytes) × (left.frames ≡ had.frames)) (had_bytes : had.bytes ≡ MOST_BYTES - length journal) (had_frames : had.frames ≡ MOST_FRAMES) (room : length journal ≤ MOST_BYTES) where
    all_m : Uses (Among own) Nothing Said a m
    all_m = then_on (Among (ins_of w words)) in_front Said b m all_b read

    within : length journal + HEAD * length (names_of w words).ins ≤ MOST_BYTES
    within = let n = names_count in let l = length-counted (input_of w words) 0 (count_of w words) in let t = taken.0 in omega arith

    matter_at : (d : Seen) → AreHeads a d (ins_of w words) ins → IsTrue a.told → HasMatter (names_of w words) a c (opened_in d ins) journal
    matter_at d are told = record {
      inputs = record { config = given.config told; heads = subst (λ l. AreOpened a l (opened_in d ins)) (sym (ins_named w words)) (heads_opened a d (ins_of w words) ins told are) };
      lines = given.lines told;
      within = within;
    }

    -- behind all heads a capture or an output couldn't be read
    unread_behind : (o z : Seen) → AreHeads a o (ins_of w words) ins → Uses (Among own) Nothing Said a o → RoseIn (Among (ins_of w words ++ (names_of w words).outs)) o.read_faults z.read_faults → IsTrue a.told → IsUnread (names_of w words) a z
    unread_behind o z are before rose told =
        let names = ins_of w words ++ (names_of w words).outs in
        inr (inr (inr (
          subst (λ l. RoseIn (Among (l ++ (names_of w words).outs)) a.read_faults z.read_faults) (sym (ins_named w words)) (rose_since a.read_faults o.read_faults z.read_faults before.touches.reads_rise names rose),
          record { settings = c; opened = opened_in o ins; journal = journal; matter = matter_at o are told; says = tt },
        )))

    -- an output can't be opened
    pub outs_ended : (z : Seen) → Uses (Among (names_of w words).outs) Nothing Read m z → IsChecked w (names_of w words) a z (Err ends.ReadFault)
    outs_ended z more =
        let used = then_on (Among (names_of w words).outs) in_back Read m z all_m more in
        let rose = more.counts.0 in
        (used_files used, unread_behind m z (heads_since a b m files_b told_b (ins_of w words) ins heads) all_m (rose.0, in_back rose.0 rose.1, rose.2), counted used)

    module _ (o : Seen) (slots : List ℕ) (opened : Uses (Among (names_of w words).outs) Nothing Said m o) (outs : AreOpenInputs m o (names_of w words).outs slots) where
      all_o : Uses (Among own) Nothing Said a o
      all_o = then_on (Among (names_of w words).outs) in_back Said m o all_m opened

      -- memory is refused for the fabric
      pub no_fabric : IsChecked w (names_of w words) a o (Err ends.Memory)
      no_fabric = (used_files all_o, λ told. tt, counted all_o)

      heads_a : AreHeads a o (ins_of w words) ins
      heads_a = heads_since a b o files_b told_b (ins_of w words) ins (heads_on w words run b m o ins heads slots (used_touches opened) outs)

      outs_a : AreOpenInputs a o (names_of w words).outs slots
      outs_a = outs_since a m o (used_files all_m) (used_told all_m) (names_of w words).outs slots outs

      same_budget : left ≡ budget_of journal (length (names_of w words).ins)
      same_budget =
          let n = names_count in
          let l = length-counted (input_of w words) 0 (count_of w words) in
          let t = taken.0 in
          let bytes : left.bytes ≡ MOST_BYTES - length journal - HEAD * length (names_of w words).ins = omega arith in
          ap (λ (x : ℕ). let y : Budget = record { bytes = x; frames = left.frames } in y) bytes
          ∙ ap (λ (x : ℕ). let y : Budget = record { bytes = MOST_BYTES - length journal - HEAD * length (names_of w words).ins; frames = x } in y) (taken.1 ∙ had_frames)

      -- the outputs by their names
      by_names : (P : Matter → Type 0) → P (record { ins = opened_in o ins; journal = journal; outputs = length slots; found = output_in (names_of w words) a }) → P (matter_of (names_of w words) a (opened_in o ins) journal)
      by_names P p = subst (λ (n : ℕ). P (record { ins = opened_in o ins; journal = journal; outputs = n; found = output_in (names_of w words) a })) (outs_count a o (names_of w words).outs slots outs_a) p

      finds : (P : Settings → Budget → Matter → Type 0) → IsTrue a.told → P c left (record { ins = opened_in o ins; journal = journal; outputs = length slots; found = output_in (names_of w words) a }) → Finds (names_of w words) a P
      finds P told p = record {
        settings = c;
        opened = opened_in o ins;
        journal = journal;
        matter = matter_at o heads_a told;
        says = subst (λ x. P c x (matter_of (names_of w words) a (opened_in o ins) journal)) same_budget (by_names (P c left) p);
      }

      same_found : IsTrue a.told → (q : ℕ) → q < length slots → output_in (names_of w words) a q ≡ o.left (slot_at slots q)
      same_found told q lt = found_there a o (names_of w words).outs slots q lt told outs_a

      module _ (z : Seen) (F : Contents) (settings : F.settings ≡ c) (r : Result ℕ CheckFault) (all : Checks (task_of c left ins o journal slots) z F r) (tells : SparesReads (end_by counts.check_end r) o z × SameWriteFaults o z) where
        says : IsTrue a.told → Says c left (matter_in o ins journal slots) F r
        says told = all.says (used_told all_o told)

        of_slots : (n : List ℕ) → NameIn o (slots_of ins ++ slots) n → Among (ins_of w words ++ (names_of w words).outs) n
        of_slots n at = slots_among w words run o (slots_of ins ++ slots) (all_named w words run b m o ins heads slots (used_touches opened) outs) n at

        rose_in : r ≡ Err checks.Read → RoseIn (NameIn o (slots_of ins ++ slots)) o.read_faults z.read_faults
        rose_in is = all.read is

        used : (t : Result ℕ CheckFault) → r ≡ t → Uses (Among own) Nothing (end_by counts.check_end t) a z
        used t is =
            subst (λ (y : Result ℕ CheckFault). Uses (Among own) Nothing (end_by counts.check_end y) a z) is
            (then_on (NameIn o (slots_of ins ++ slots)) of_slots (end_by counts.check_end r) o z all_o (checks_uses (NameIn o (slots_of ins ++ slots)) o z r all.touches rose_in tells))

        pub check_done : (entries : ℕ) → r ≡ Ok entries → IsChecked w (names_of w words) a z (Ok (F, entries))
        check_done entries is = (used (Ok entries) is, λ told. finds (IsStanding F entries) told (standing_on c left (matter_in o ins journal slots) (output_in (names_of w words) a) (same_found told) F entries settings (subst (Says c left (matter_in o ins journal slots) F) is (says told))))

        pub check_refused : (e : CheckFault) → r ≡ Err e → IsChecked w (names_of w words) a z (Err (refused_by e))
        check_refused (checks.Line line why) is =
            let u = used (Err (checks.Line line why)) is in
            (used_files u, λ told. finds _ told (subst (Says c left (matter_in o ins journal slots) F) is (says told)), counted u)
        check_refused (checks.Output port at) is =
            let u = used (Err (checks.Output port at)) is in
            (used_files u, λ told. finds _ told (output_on c left (matter_in o ins journal slots) (output_in (names_of w words) a) (same_found told) port at (subst (Says c left (matter_in o ins journal slots) F) is (says told))), counted u)
        check_refused (checks.Capture port at why) is =
            let u = used (Err (checks.Capture port at why)) is in
            (used_files u, λ told. inr (finds _ told (stop_on c left (matter_in o ins journal slots) (output_in (names_of w words) a) (same_found told) _ (subst (Says c left (matter_in o ins journal slots) F) is (says told)))), counted u)
        check_refused (checks.Limit kind) is =
            let u = used (Err (checks.Limit kind)) is in
            (used_files u, λ told. inr (finds _ told (stop_on c left (matter_in o ins journal slots) (output_in (names_of w words) a) (same_found told) _ (subst (Says c left (matter_in o ins journal slots) F) is (says told)))), counted u)
        check_refused checks.Read is =
            let u = used (Err checks.Read) is in
            let rose = rose_in is in
            (used_files u, unread_behind o z heads_a all_o (rose.0, of_slots rose.0 rose.1, rose.2), counted u)
        check_refused checks.Memory is = let u = used (Err checks.Memory) is in (used_files u, λ told. tt, counted u)
