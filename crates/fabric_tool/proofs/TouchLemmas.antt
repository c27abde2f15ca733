-- What a command keeps of slots, counts and files that aren't its own.
use Rattle.std.proofs.Common.{◌≡◌, ℕ, List, [], ◌∷◌, ◌++◌, Ok, true, Some, inl, inr, refl, sym, ◌∙◌, subst}
use Rattle.std.specs.Prelude.{Result, String}
use Rattle.std.specs.declared.alloc.Global.{Global}
use Rattle.fab_base.specs.Ending.{End, Said, Either, Uses}
use Rattle.fab_base.specs.Seen.{Seen, Touches, Nothing, Only, OpensIn}
use Rattle.fab_base.specs.Slots.{NameIn}
use Rattle.fab_base.specs.declared.values.Failed.{Failed}
use Rattle.fab_base.proofs.EndingLemmas.{opens_in_uses}
use Rattle.fab_base.proofs.SeenLemmas.{touches_trans, touches_wider}
use Rattle.fab_config.specs.Settings.{Settings}
use Rattle.window_records.specs.First.{start_at}
use Rattle.window_records.specs.Ports.{slots_of}
use Rattle.window_records.specs.declared.shelf.Input.{Input}
use Rattle.fab_live.specs.Live.{LiveRuns}
use Rattle.fab_live.specs.declared.fault.LiveFault.{LiveFault}
use Rattle.fab_policy.specs.Standing.{Contents}
use Rattle.fab_replay.specs.Check.{Checks, task_of}
use Rattle.fab_replay.specs.declared.fault.CheckFault.{CheckFault}
use Rattle.fab_windows.specs.Files.{file_slots}
use Rattle.fab_windows.specs.Run.{Runs}
use Rattle.fab_windows.specs.declared.Done.{Done}
use Rattle.pcap_file.specs.declared.Budget.{Budget}
use Rattle.run_files.specs.Names.{Among}
use Rattle.run_files.specs.Opening.{AreEmptyOutputs, Opens}
use Rattle.run_files.specs.declared.fault.RunFault.{RunFault}
use Rattle.run_files.proofs.NameLemmas.{among_front, among_back}
use Rattle.side_runs.specs.Bridged.{Bridges}
use Rattle.side_runs.specs.declared.bridge_run.Crossed.{Crossed}
use Rattle.fabric_tool.specs.Checking.{AreOpenInputs, command_of, reads_of}
use Rattle.fabric_tool.specs.Command.{Command, Run, Snoop, Live, SnoopNames, are_pairs, are_ports, is_live, run_of, live_of, names_of, ins_of, named, form_of, command}
use Rattle.fabric_tool.specs.Ends.{inputs, outputs, TouchesOwn}
use Rattle.fabric_tool.specs.Opening.{RecordedOpened, HasWidth}
use Rattle.fabric_tool.specs.Reading.{AreHeads}
use Rattle.fabric_tool.specs.declared.command.Form.{Form}
use Rattle.fabric_tool.specs.declared.command.Width.{Width}
use Rattle.fabric_tool.specs.declared.command.Width.TheVariants as widths
use Rattle.fabric_tool.specs.declared.live.Recorded.{Recorded}
use Rattle.fabric_tool.proofs.CheckLemmas.{checked, first_two}
use Rattle.fabric_tool.proofs.FormLemmas.{command_is}
use Rattle.fabric_tool.proofs.GivenLemmas as given
use Rattle.fabric_tool.proofs.HeadLemmas.{heads_still}
use Rattle.fabric_tool.proofs.LivingLemmas as living
use Rattle.fabric_tool.proofs.NameLemmas.{inputs_apart}
use Rattle.fabric_tool.proofs.SlotLemmas.{slots_among, all_named}
use Rattle.fabric_tool.proofs.UseLemmas.{used_touches}

module _ (k : Command) where
  pub own_then : (a b c : Seen) → TouchesOwn k a b → TouchesOwn k b c → TouchesOwn k a c
  own_then a b c = touches_trans (Among (outputs k)) (Either (Among (inputs k)) (Among (outputs k))) a b c

  -- calls on names that are its own
  pub own_wider : (may counted : List ℕ → Type 0) (a b : Seen) → ((m : List ℕ) → may m → Among (outputs k) m) → ((m : List ℕ) → counted m → Either (Among (inputs k)) (Among (outputs k)) m) → Touches may counted a b → TouchesOwn k a b
  own_wider may counted = touches_wider may counted (Among (outputs k)) (Either (Among (inputs k)) (Among (outputs k)))

  -- that read inputs
  pub own_read : (names : List ℕ → Type 0) (a b : Seen) → ((m : List ℕ) → names m → Among (inputs k) m) → Touches Nothing names a b → TouchesOwn k a b
  own_read names a b are = own_wider Nothing names a b (λ m x. absurd x) (λ m x. inl (are m x))

  pub own_input : (name : List ℕ) {end : End} (a b : Seen) → Among (inputs k) name → Uses (Only name) Nothing end a b → TouchesOwn k a b
  own_input name a b is used = own_read (Only name) a b (λ m e. subst (Among (inputs k)) (sym e) is) (used_touches used)

  -- that write outputs
  pub own_written : (a b : Seen) → Touches (Among (outputs k)) (Among (outputs k)) a b → TouchesOwn k a b
  own_written a b = own_wider (Among (outputs k)) (Among (outputs k)) a b (λ m x. x) (λ m x. inr x)

  -- that read one file and write another
  pub own_pair : (from to : List ℕ) (a b : Seen) → Among (inputs k) from → Among (outputs k) to → Touches (Only to) (Either (Only from) (Only to)) a b → TouchesOwn k a b
  own_pair from to a b read written = own_wider (Only to) (Either (Only from) (Only to)) a b
      (λ m e. subst (Among (outputs k)) (sym e) written)
      (λ m x. elim x [ inl e ↦ inl (subst (Among (inputs k)) (sym e) read) | inr e ↦ inr (subst (Among (outputs k)) (sym e) written) ])

-- ---- `run`

pub windows_own : (words : List (String Global)) → are_pairs words ≡ true → (old m a b : Seen) (ins : List Input) (journal : ℕ) (outs : List ℕ) → Uses (Among ((run_of words).config ∷ (run_of words).ins)) Nothing Said old m → AreHeads old m (run_of words).ins ins →
    Opens ((run_of words).journal ∷ (run_of words).outs) m a → AreEmptyOutputs a ((run_of words).journal ∷ (run_of words).outs) (journal ∷ outs) → {c : Settings} {budget : Budget} {r : Result Done RunFault} → Runs c (start_at a ins budget) b (file_slots journal outs) r →
    TouchesOwn (Run (run_of words)) old b
windows_own words run old m a b ins journal outs inputs heads opens outputs runs =
    let k = run_of words in
    let heads_a = heads_still old m a k.ins ins (Among (k.journal ∷ k.outs)) (Among (k.journal ∷ k.outs)) opens.touches (inputs_apart words run) heads in
    let written = given.written_among words run old a ins journal outs heads_a outputs in
    let read = given.read_among words run old a ins journal outs heads_a outputs in
    own_then (Run k) old m b (own_read (Run k) (Among (k.config ∷ k.ins)) old m (λ n x. x) (used_touches inputs))
    (own_then (Run k) m a b (own_written (Run k) m a opens.touches)
    (own_wider (Run k) _ _ a b written (λ n x. elim x [ inl w ↦ inr (written n w) | inr i ↦ inl (inr (read n i)) ]) runs.touches))

-- ---- `snoop`

pub bridge_own : (k : SnoopNames) (a b d : Seen) {c : Settings} {budget : Budget} {r : Result Crossed RunFault} → Uses (Only k.config) Nothing Said a b → Bridges k.ins k.outs budget c b d r → TouchesOwn (Snoop k) a d
bridge_own k a b d read bridges = own_then (Snoop k) a b d (own_input (Snoop k) k.config a b (inl refl) read)
    (own_wider (Snoop k) _ _ b d (λ m x. x) (λ m x. elim x [ inl i ↦ inl (inr i) | inr o ↦ inr o ]) bridges.uses.touches)

-- ---- `live`

module _ (words : List (String Global)) (live : is_live words ≡ true) (old m s : Seen) (read : Uses (Only (live_of words).config) Nothing Said old m) {r : Result ℕ Failed} (o : OpensIn {E = Failed} (live_of words).stream m s r) where
  pub stream_own : TouchesOwn (Live (live_of words)) old s
  stream_own =
      let k = Live (live_of words) in
      own_then k old m s (own_input k (live_of words).config old m (inl refl) read) (own_input k (live_of words).stream m s (inr (inl refl)) (opens_in_uses m s (live_of words).stream r o))

  pub recorded_own : (a : Seen) {e : Result Recorded Failed} → RecordedOpened (live_of words) s a e → TouchesOwn (Live (live_of words)) old a
  recorded_own a opened = let k = Live (live_of words) in own_then k old s a stream_own (own_written k s a opened.opens.touches)

pub lived_own : (words : List (String Global)) → is_live words ≡ true → (old m s a b : Seen) (stream : ℕ) (files : Recorded) → Uses (Only (live_of words).config) Nothing Said old m → OpensIn {E = Failed} (live_of words).stream m s (Ok stream) → RecordedOpened (live_of words) s a (Ok files) → HasWidth (live_of words) files →
    {c : Settings} {budget : Budget} {r : Result Done LiveFault} → LiveRuns c budget stream (record { journal = files.journal; ins = files.ins.items; outs = files.outs.items }) a b r → TouchesOwn (Live (live_of words)) old b
lived_own words live old m s a b stream files read o opened width runs =
    let k = Live (live_of words) in
    let written = living.written_among words live a files.journal files.ins.items files.outs.items opened.slots width.0 width.1 in
    let is_stream : a.name stream ≡ (live_of words).stream = (opened.opens.touches.slots stream (inl o.opened.0)).name ∙ o.opened.2 in
    own_then k old a b (recorded_own words live old m s read o a opened)
    (own_wider k _ _ a b written (λ n x. elim x [ inl e ↦ inl (inr (inl (e ∙ is_stream))) | inr w ↦ inr (written n w) ]) runs.uses.touches)

-- ---- `replay` and `show`

own_reads : (w : Width) (words : List (String Global)) (m : List ℕ) → Among (reads_of w (names_of w words)) m → Among (inputs (command_of w (names_of w words))) m
own_reads widths.One words m x = x
own_reads widths.Two words m x = x

module _ (w : Width) (words : List (String Global)) where
  abbrev k : Command
  k = command_of w (names_of w words)

  -- calls that read some of its names
  read_on : (names : List ℕ → Type 0) (a b : Seen) → ((m : List ℕ) → names m → Among (reads_of w (names_of w words)) m) → Touches Nothing names a b → TouchesOwn k a b
  read_on names a b are = own_read k names a b (λ m x. own_reads w words m (are m x))

  pub given_own : {end : End} (a b : Seen) → Uses (Among ((names_of w words).config ∷ (names_of w words).journal ∷ [])) Nothing end a b → TouchesOwn k a b
  given_own a b used = read_on _ a b (first_two w words) (used_touches used)

  pub heads_own : {end : End} (a b : Seen) → Uses (Among (ins_of w words)) Nothing end a b → TouchesOwn k a b
  heads_own a b used = read_on _ a b (λ m x. checked w words m (among_front (ins_of w words) (names_of w words).outs m x)) (used_touches used)

  -- behind the captures the outputs were opened
  pub outs_own : {end : End} (a b d : Seen) → Uses (Among (ins_of w words)) Nothing Said a b → Uses (Among (names_of w words).outs) Nothing end b d → TouchesOwn k a d
  outs_own a b d heads outs = own_then k a b d (heads_own a b heads) (read_on _ b d (λ m x. checked w words m (among_back (ins_of w words) (names_of w words).outs m x)) (used_touches outs))

  -- and all of them were checked
  pub check_own : are_ports w words ≡ true → (b m o z : Seen) (ins : List Input) → AreHeads b m (ins_of w words) ins → Uses (Among (ins_of w words)) Nothing Said b m → (slots : List ℕ) → Uses (Among (names_of w words).outs) Nothing Said m o → AreOpenInputs m o (names_of w words).outs slots →
      {c : Settings} {left : Budget} {journal : List ℕ} {F : Contents} {r : Result ℕ CheckFault} → Checks (task_of c left ins o journal slots) z F r → TouchesOwn k b z
  check_own run b m o z ins heads read slots opened outs checks = own_then k b o z (outs_own b m o read opened)
      (read_on (NameIn o (slots_of ins ++ slots)) o z (λ n at. checked w words n (slots_among w words run o (slots_of ins ++ slots) (all_named w words run b m o ins heads slots (used_touches opened) outs) n at)) checks.touches)

-- ---- words

-- of words of a form
pub own_of : (words : List (String Global)) (form : Form) → form_of words ≡ Some form → (a b : Seen) → TouchesOwn (named words form) a b → (k : Command) → command words ≡ Some k → TouchesOwn k a b
own_of words form is a b touches k names =
    let e = command_is words (Some form) is in
    let same : named words form ≡ k = cc in
    subst (λ c. TouchesOwn c a b) same touches
