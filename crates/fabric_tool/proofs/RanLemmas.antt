-- How `run` ends.
use Rattle.std.proofs.Common.{◌≡◌, ℕ, zero, suc, ◌+◌, ◌-◌, ◌*◌, ◌<◌, ◌≤◌, List, [], ◌∷◌, ◌⊎◌, length, true, Some, Ok, Err, IsTrue, refl, sym, ap, ◌∙◌, subst, arith, inl, inr}
use Rattle.std.specs.Prelude.{Result, String, Vec, map, get_or}
use Rattle.std.specs.declared.alloc.Global.{Global}
use Rattle.fab_base.specs.Ending.{End, Said, Read, Memory, NoFaults, IsPrefixOf, Uses}
use Rattle.fab_base.specs.Seen.{Seen, SameFiles, Touches, Nothing, Only}
use Rattle.fab_config.specs.Settings.{Settings, is_in_range}
use Rattle.pcap_file.specs.Capture.{HEAD}
use Rattle.pcap_file.specs.declared.Budget.{Budget}
use Rattle.fab_policy.specs.Growing.{NothingIsRun}
use Rattle.fab_policy.specs.Journal.{Journal}
use Rattle.fab_base.specs.Counting.{counting}
use Rattle.window_records.specs.Looks.{Opened, stop, kept, all_records}
use Rattle.fab_policy.specs.Outputs.{state_of}
use Rattle.fab_policy.specs.Standing.{Contents}
use Rattle.fab_policy.specs.Text.{text, egress}
use Rattle.fab_policy.specs.Written.{before}
use Rattle.fab_policy.proofs.NamedLemmas.{text_names_journal}
use Rattle.window_records.specs.First.{opened_in, start_at}
use Rattle.fab_base.specs.Slots.{name_of, NameIn}
use Rattle.window_records.specs.Ports.{slots_of}
use Rattle.window_records.specs.declared.shelf.Input.{Input}
use Rattle.run_files.specs.declared.fault.RunFault.{RunFault}
use Rattle.run_files.specs.declared.fault.RunFault.TheVariants as faults
use Rattle.fab_windows.specs.Files.{Written, FileBytes, file_bytes, file_slots, Wholes, Fronts, HoldsFrom, InOrder, captures, text_so_far, captures_so_far}
use Rattle.fab_windows.specs.Run.{AreGiven, IsRunOver, Runs, Finished, Stopped, Interrupted, keeps}
use Rattle.fab_windows.specs.declared.Done.{Done}
use Rattle.fab_replay.proofs.OneLemmas.{same_frames}
use Rattle.fabric_tool.specs.Command.{RunNames, Run, are_pairs, run_of, port_count, input_at}
use Rattle.fab_base.proofs.EndingLemmas.{none_then, uses_refused, uses_then, uses_wider, rose_only}
use Rattle.run_files.specs.Names.{Among}
use Rattle.fabric_tool.specs.Ending.{CountsOf}
use Rattle.fabric_tool.specs.Ends.{Holds, KeepsOthers}
use Rattle.fabric_tool.specs.Inputs.{HasConfig, HasInputs, stop_of, kept_of, LIMITS, MOST_BYTES, MOST_FRAMES}
use Rattle.fabric_tool.specs.Left.{HoldsAll, HoldsFronts, AreOldOrFront, HasRun, HasStopped, HasPart, LegalIsSafe}
use Rattle.fabric_tool.specs.Opening.{ran_by}
use Rattle.run_files.specs.Opening.{AreEmptyOutputs, OpenedUpTo, Opens}
use Rattle.fabric_tool.specs.Preparing.{IsNew, IsPrepared}
use Rattle.fabric_tool.specs.Outcome.{outcome_end}
use Rattle.fabric_tool.specs.Reading.{AreHeads, ConfigRead, HeadsRead, HeadsEnd}
use Rattle.fabric_tool.specs.declared.outcome.Outcome.{Outcome}
use Rattle.fabric_tool.specs.declared.outcome.Outcome.TheVariants as ends
use Rattle.fabric_tool.proofs.AmongLemmas.{none_among}
use Rattle.run_files.proofs.NameLemmas.{rose_since, length-counted}
use Rattle.run_files.proofs.OpenLemmas.{outputs_count, up_to_rose}
use Rattle.fabric_tool.proofs.CaptureLemmas.{whole_captures}
use Rattle.fabric_tool.proofs.GivenLemmas.{written_among, read_among, ins_count, outs_count, given}
use Rattle.fabric_tool.proofs.HeadLemmas.{heads_still, heads_since, heads_count, heads_opened}
use Rattle.fabric_tool.proofs.NameLemmas.{pairs, inputs_apart}
use Rattle.fabric_tool.proofs.PartLemmas.{empty_part, unwritten}
use Rattle.fabric_tool.proofs.ReadLemmas.{config_refused}
use Rattle.fabric_tool.proofs.UseLemmas.{used_files, used_told, used_counts}
use Rattle.fabric_tool.proofs.SinceLemmas.{without_since, unread_since}

le_trans : {x y z : ℕ} → x ≤ y → y ≤ z → x ≤ z
le_trans {x} {y} {z} h k = omega arith

-- ---- before an output is opened

others_same : (k : RunNames) (old new : Seen) → SameFiles old new → KeepsOthers (Run k) old new
others_same k old new same m none = same m

-- a configuration that was read of a word
pub config_as : {m n : List ℕ} {a b : Seen} {r : Result Settings Outcome} → m ≡ n → ConfigRead m a b r → ConfigRead n a b r
config_as {m} {n} {a} {b} {r} e read = subst (λ l. ConfigRead l a b r) e read

-- what reading the configuration and the heads counts
counted : (k : RunNames) {end : End} {old new : Seen} → Uses (Among (k.config ∷ k.ins)) Nothing end old new → CountsOf (k.config ∷ k.ins) (k.journal ∷ k.outs) end old new
counted k used = used_counts used (k.config ∷ k.ins) (k.journal ∷ k.outs) (λ m x. x)

config_alone : (k : RunNames) (end : End) (old new : Seen) → Uses (Only k.config) Nothing end old new → Uses (Among (k.config ∷ k.ins)) Nothing end old new
config_alone k = uses_wider (Only k.config) Nothing (Among (k.config ∷ k.ins)) Nothing (λ m x. inl x) (λ m x. x)

config_ended : (k : RunNames) (old new : Seen) (x : Outcome) → ConfigRead k.config old new (Err x) → Holds (Run k) old new x
config_ended k old new x read = config_refused read (Holds (Run k) old new)
    (λ fault used says. (used_files used, says, counted k (config_alone k Said old new used)))
    (λ used. (others_same k old new (used_files used), λ told. inl (used_files used, rose_only k.config old.read_faults new.read_faults used.counts.0), counted k (config_alone k Read old new used)))
    (λ used. (others_same k old new (used_files used), λ told. inl (used_files used), counted k (config_alone k Memory old new used)))

-- what holds where the command ends before a fabric is made
unprepared : (k : RunNames) (old new : Seen) (x : Outcome) → Uses (Among (k.config ∷ k.ins)) Nothing (outcome_end x) old new → Holds (Run k) old new x → IsPrepared k old new (Err x)
unprepared k old new x used ended = record { uses = used; fabric = tt; config = λ told. tt; heads = tt; left = tt; ended = ended }

pub no_config : (k : RunNames) {old new : Seen} {x : Outcome} → ConfigRead k.config old new (Err x) → IsPrepared k old new (Err x)
no_config k {old} {new} {x} read = unprepared k old new x (config_alone k (outcome_end x) old new read.uses) (config_ended k old new x read)

-- the heads of all ports are within the limit
pub room_in : (words : List (String Global)) → are_pairs words ≡ true → HEAD * length (run_of words).ins ≤ MOST_BYTES
room_in words run = let n = length-counted (input_at words) 0 (port_count words) in let few = (pairs words run).few in omega arith

-- the configuration was read
module _ (k : RunNames) {c : Settings} {old b : Seen} (config : ConfigRead k.config old b (Ok c)) where
  told_b : IsTrue old.told → IsTrue b.told
  told_b = used_told config.uses

  same_b : SameFiles old b
  same_b = used_files config.uses

  module _ {new : Seen} where
    with_heads : (end : End) → Uses (Among k.ins) Nothing end b new → Uses (Among (k.config ∷ k.ins)) Nothing end old new
    with_heads end heads = uses_then (Among (k.config ∷ k.ins)) Nothing end old b new (config_alone k Said old b config.uses) (uses_wider (Among k.ins) Nothing (Among (k.config ∷ k.ins)) Nothing (λ m x. inr x) (λ m x. x) end b new heads)

    heads_ended : HEAD * length k.ins ≤ MOST_BYTES → (left : Budget) (x : Outcome) → HeadsRead k.ins b new LIMITS left (Err x) → Holds (Run k) old new x
    heads_ended room left x read = go x (with_heads (outcome_end x) read.uses) read.ended
      where
        go : (x : Outcome) → Uses (Among (k.config ∷ k.ins)) Nothing (outcome_end x) old new → HeadsEnd k.ins MOST_BYTES b new x → Holds (Run k) old new x
        go (ends.Capture port at reason) used e = (
          λ m other. used_files used m,
          λ told. inl (used_files used, e.0, record { settings = c; config = config.ok told; first = without_since old b same_b refl (e.2 (told_b told)) }),
          counted k used,
        )
        go (ends.Limit kind) used e = let few = e.1 in absurd (omega arith)
        go ends.ReadFault used e = (
          λ m other. used_files used m,
          λ told. inr (inl (used_files used, record { settings = c; config = config.ok told; first = unread_since old b same_b refl new config.uses.touches.reads_rise (e (told_b told)) })),
          counted k used,
        )
        go ends.Memory used e = (λ m other. used_files used m, λ told. inl (used_files used), counted k used)
        go x used e = absurd e

    -- a head can't be read
    pub no_heads : {left : Budget} {x : Outcome} → HEAD * length k.ins ≤ MOST_BYTES → HeadsRead k.ins b new LIMITS left (Err x) → IsPrepared k old new (Err x)
    no_heads {left} {x} room read = unprepared k old new x (with_heads (outcome_end x) read.uses) (heads_ended room left x read)

    -- all heads are read, and no fault was counted up to there
    module _ {left : Budget} {ins : Vec Input Global} (read : HeadsRead k.ins b new LIMITS left (Ok ins)) where
      all_read : Uses (Among (k.config ∷ k.ins)) Nothing Said old new
      all_read = with_heads Said read.uses

      -- memory is refused
      pub no_fabric : IsPrepared k old new (Err ends.Memory)
      no_fabric = unprepared k old new ends.Memory (uses_refused (Among (k.config ∷ k.ins)) Nothing old new all_read) (λ m other. used_files all_read m, λ told. inl (used_files all_read), counted k all_read)

      pub with_fabric : (F : Contents) → F.settings ≡ c → IsNew F k.ins → IsPrepared k old new (Ok (record { fabric = F; ins = ins; budget = left }))
      with_fabric F is made = record {
        uses = all_read;
        fabric = made;
        config = λ told. subst (λ (s : Settings). HasConfig old k.config s) (sym is) (config.ok told);
        heads = heads_since old b new same_b told_b k.ins ins.items read.heads;
        left = read.taken;
        ended = tt;
      }

-- a fabric that was made of it
pub new_as : (words : List (String Global)) (F : Contents) (c : Settings) → F.settings ≡ c → IsTrue (is_in_range c) → F.count ≡ port_count words → F.state ≡ state_of c [] → (F.events ≡ []) × (F.outs ≡ []) → IsNew F (run_of words).ins
new_as words F c is range count state nothing = record {
  range = subst (λ (s : Settings). IsTrue (is_in_range s)) (sym is) range;
  count = count ∙ sym (length-counted (input_at words) 0 (port_count words));
  state = state ∙ ap (λ (s : Settings). state_of s []) (sym is);
  nothing = nothing;
}

-- ---- outputs are opened

module _ (k : RunNames) (c : Settings) (old m a : Seen) (ins : List Input)
    (config : IsTrue old.told → HasConfig old k.config c) (inputs : Uses (Among (k.config ∷ k.ins)) Nothing Said old m) (heads : AreHeads old m k.ins ins) (opens : Opens (k.journal ∷ k.outs) m a) where
  told_m : IsTrue old.told → IsTrue m.told
  told_m = used_told inputs

  others_opened : KeepsOthers (Run k) old a
  others_opened name none = opens.touches.files name (none_among (k.journal ∷ k.outs) name none) ∙ used_files inputs name

  -- one of them can't be
  pub not_opened : NothingIsRun → OpenedUpTo (k.journal ∷ k.outs) m a → Holds (Run k) old a ends.WriteFault
  not_opened nothing up_to = (
    others_opened,
    λ told. inr (empty_part k c (opened_in m ins) old a nothing
        (record { config = config told; heads = heads_opened old m k.ins ins told heads })
        (λ name. elim (opens.each (told_m told) name) [ inl same ↦ inl (same ∙ used_files inputs name) | inr empty ↦ inr empty ])
        (unwritten (k.journal ∷ k.outs) old m a (used_files inputs) (told_m told) up_to)),
    rose_since old.write_faults m.write_faults a.write_faults inputs.touches.writes_rise (k.journal ∷ k.outs) (up_to_rose (k.journal ∷ k.outs) m a up_to),
  )

-- ---- what is handed to the windows

module _ (words : List (String Global)) (run : are_pairs words ≡ true) (old : Seen) {m a : Seen} (ins : List Input) {journal : ℕ} (outs : List ℕ)
    (heads : AreHeads old m (run_of words).ins ins) (opens : Opens ((run_of words).journal ∷ (run_of words).outs) m a) (outputs : AreEmptyOutputs a ((run_of words).journal ∷ (run_of words).outs) (journal ∷ outs)) where
  pub heads_after : AreHeads old a (run_of words).ins ins
  heads_after = heads_still old m a (run_of words).ins ins (Among ((run_of words).journal ∷ (run_of words).outs)) (Among ((run_of words).journal ∷ (run_of words).outs)) opens.touches (inputs_apart words run) heads

  -- the lists as they are lent
  module _ {i : List Input} {o : List ℕ} (is : i ≡ ins) (are : o ≡ outs) where
    ports_are : length i ≡ port_count words
    ports_are = ap length is ∙ ins_count words run old a ins journal outs heads_after outputs

    pub some_ports : (1 ≤ length i) × (length i ≤ 64)
    some_ports =
        let n = ports_are in
        let some = (pairs words run).some in
        let few = (pairs words run).few in
        (omega arith, omega arith)

    pub same_count : length o ≡ length i
    same_count = ap length are ∙ outs_count words run old a ins journal outs heads_after outputs ∙ sym ports_are

    pub one_a_port : (n : ℕ) → n ≡ port_count words → n ≡ length i
    one_a_port n e = e ∙ sym ports_are

    pub given_as : AreGiven a i journal o
    given_as = subst (λ x. AreGiven a x journal o) (sym is) (subst (λ x. AreGiven a ins journal x) (sym are) (given words run old a ins journal outs heads_after outputs))

-- what the windows did with them
pub runs_as : {c : Settings} {budget : Budget} {i ins : List Input} {a b : Seen} {journal : ℕ} {o outs : List ℕ} {r : Result Done RunFault} → i ≡ ins → o ≡ outs → Runs c (start_at a i budget) b (file_slots journal o) r → Runs c (start_at a ins budget) b (file_slots journal outs) r
runs_as {c} {budget} {i} {ins} {a} {b} {journal} {o} {outs} {r} f h runs =
    subst (λ (l : List Input). Runs c (start_at a l budget) b (file_slots journal outs) r) f (subst (λ (l : List ℕ). Runs c (start_at a i budget) b (file_slots journal l) r) h runs)

-- ---- the windows

-- the slots of outputs have these names still
abbrev pub AreNamed : Seen → List (List ℕ) → List ℕ → Type 0
AreNamed d [] [] = Unit {0}
AreNamed d [] (s ∷ slots) = ⊥
AreNamed d (name ∷ names) [] = ⊥
AreNamed d (name ∷ names) (s ∷ slots) = (d.name s ≡ name) × AreNamed d names slots

pub named_still : (a b : Seen) (may counted : List ℕ → Type 0) → Touches may counted a b → (names : List (List ℕ)) (slots : List ℕ) → AreEmptyOutputs a names slots → AreNamed b names slots
named_still a b may counted k [] [] are = tt
named_still a b may counted k [] (s ∷ slots) are = absurd are
named_still a b may counted k (n ∷ names) [] are = absurd are
named_still a b may counted k (n ∷ names) (s ∷ slots) are = ((k.slots s (inr are.0.0)).name ∙ are.0.1, named_still a b may counted k names slots are.1)

pub named_at : (b : Seen) (names : List (List ℕ)) (slots : List ℕ) → AreNamed b names slots → (q : ℕ) → q < length slots → name_of b slots q ≡ get_or names q []
named_at b [] [] are q lt = absurd (omega arith)
named_at b [] (s ∷ slots) are q lt = absurd are
named_at b (n ∷ names) [] are q lt = absurd are
named_at b (n ∷ names) (s ∷ slots) are zero lt = are.0
named_at b (n ∷ names) (s ∷ slots) are (suc q) lt = named_at b names slots are.1 q (omega arith)

-- the order of writing, of the same files by other words
pub in_order_as : (d : Seen) (j j' : List ℕ) (n : ℕ) (out out' : ℕ → List ℕ) (was now : FileBytes) → j ≡ j' → ((q : ℕ) → q < n → out q ≡ out' q) → InOrder d j n out was now → InOrder d j' n out' was now
in_order_as d j j' n out out' was now e same (inl h) = inl (record {
  lines_ = subst (λ m. HoldsFrom d m was.lines) e h.lines_;
  records = λ q lt. ap d.file (sym (same q lt)) ∙ h.records q lt;
})
in_order_as d j j' n out out' was now e same (inr h) = inr (record {
  lines_ = ap d.file (sym e) ∙ h.lines_;
  port = h.port;
  whole = λ q less lt. ap d.file (sym (same q lt)) ∙ h.whole q less lt;
  part = λ lt. subst (λ m. HoldsFrom d m (was.records_of h.port)) (same h.port lt) (h.part lt);
  behind = λ q above lt. ap d.file (sym (same q lt)) ∙ h.behind q above lt;
})

-- files that hold what is numbered
pub held : (b : Seen) (names : List (List ℕ)) (slots : List ℕ) (g : ℕ → List ℕ) (k : ℕ) → AreNamed b names slots → ((q : ℕ) → q < length slots → b.file (name_of b slots q) ≡ Some (g (k + q))) → map (λ n. b.file n) names ≡ map (λ l. Some l) (map g (counting k (length names)))
held b [] [] g k are each = refl
held b [] (s ∷ slots) g k are each = absurd are
held b (n ∷ names) [] g k are each = absurd are
held b (n ∷ names) (s ∷ slots) g k are each =
    let at : k + 0 ≡ k = omega arith in
    let first : b.file n ≡ Some (g k) = ap b.file (sym are.0) ∙ each 0 (omega arith) ∙ ap (λ (p : ℕ). Some (g p)) at in
    let rest = held b names slots g (k + 1) are.1 (λ q lt. let e : k + suc q ≡ k + 1 + q = omega arith in each (suc q) (omega arith) ∙ ap (λ (p : ℕ). Some (g p)) e) in
    cc

pub held_fronts : (a b : Seen) (names : List (List ℕ)) (slots : List ℕ) (g : ℕ → List ℕ) (k : ℕ) → AreNamed b names slots → ((q : ℕ) → q < length slots → (bytes : List ℕ) × (b.file (name_of b slots q) ≡ Some bytes) × IsPrefixOf bytes (g (k + q))) → AreOldOrFront a b names (map g (counting k (length names)))
held_fronts a b [] [] g k are each = tt
held_fronts a b [] (s ∷ slots) g k are each = absurd are
held_fronts a b (n ∷ names) [] g k are each = absurd are
held_fronts a b (n ∷ names) (s ∷ slots) g k are each =
    let at : k + 0 ≡ k = omega arith in
    let first = each 0 (omega arith) in (
      inr (first.0, ap b.file (sym are.0) ∙ first.1, subst (λ (p : ℕ). IsPrefixOf first.0 (g p)) at first.2),
      held_fronts a b names slots g (k + 1) are.1 (λ q lt. let e : k + suc q ≡ k + 1 + q = omega arith in let h = each (suc q) (omega arith) in (h.0, h.1, subst (λ (p : ℕ). IsPrefixOf h.0 (g p)) e h.2)),
    )

module _ (words : List (String Global)) (run : are_pairs words ≡ true) (c : Settings) (old m a b : Seen) (ins : List Input) (journal : ℕ) (outs : List ℕ) (budget : Budget)
    (range : IsTrue (is_in_range c)) (safe : LegalIsSafe)
    (config : IsTrue old.told → HasConfig old (run_of words).config c) (inputs : Uses (Among ((run_of words).config ∷ (run_of words).ins)) Nothing Said old m) (heads : AreHeads old m (run_of words).ins ins)
    (opens : Opens ((run_of words).journal ∷ (run_of words).outs) m a) (outputs : AreEmptyOutputs a ((run_of words).journal ∷ (run_of words).outs) (journal ∷ outs))
    (bytes : budget.bytes + 24 * length (run_of words).ins ≡ MOST_BYTES) (frames : budget.frames ≡ MOST_FRAMES) (quiet : NoFaults old a) where
  abbrev k : RunNames
  k = run_of words

  abbrev opened : List Opened
  opened = opened_in a ins

  heads_a : AreHeads old a k.ins ins
  heads_a = heads_still old m a k.ins ins (Among (k.journal ∷ k.outs)) (Among (k.journal ∷ k.outs)) opens.touches (inputs_apart words run) heads

  told_a : IsTrue old.told → IsTrue a.told
  told_a told = subst IsTrue (sym opens.touches.told) (used_told inputs told)

  has : IsTrue old.told → HasInputs k old c opened
  has told = record { config = config told; heads = heads_opened old a k.ins ins told heads_a }

  opened_count : length opened ≡ length k.ins
  opened_count = go ins ∙ heads_count old a k.ins ins heads_a
    where
      go : (l : List Input) → length (opened_in a l) ≡ length l
      go [] = refl
      go (i ∷ l) = let h = go l in omega arith

  -- the budget is what the heads leave of the limits
  same_stop : stop c budget.bytes budget.frames opened ≡ stop_of c opened
  same_stop =
      let count = opened_count in
      let left : budget.bytes ≡ MOST_BYTES - HEAD * length opened = omega arith in
      ap (λ (n : ℕ). stop c n budget.frames opened) left ∙ ap (λ (n : ℕ). stop c (MOST_BYTES - HEAD * length opened) n opened) frames

  same_kept : keeps c budget opened ≡ kept_of c opened
  same_kept = ap (λ (s : _). map (kept c s) (all_records opened)) same_stop

  module _ (touches : Touches (Written a journal outs) (λ n. Written a journal outs n ⊎ NameIn a (slots_of ins) n) a b) where
    others : KeepsOthers (Run k) old b
    others name none =
        let apart = none_among (k.journal ∷ k.outs) name none in
        touches.files name (λ w. apart (written_among words run old a ins journal outs heads_a outputs name w)) ∙ opens.touches.files name apart ∙ used_files inputs name

    named : AreNamed b (k.journal ∷ k.outs) (journal ∷ outs)
    named = named_still a b _ _ touches (k.journal ∷ k.outs) (journal ∷ outs) outputs

    count : length outs ≡ length k.outs
    count = outputs_count a k.outs outs outputs.1

    holds_all : (J : Journal) → Wholes c b journal outs J → HoldsAll k c b J
    holds_all J w = record {
      lines = ap b.file (sym named.0) ∙ w.lines_;
      captures = held b k.outs outs (λ p. egress c (length k.outs) p J) 1 named.1 (λ q lt.
          let e : q + 1 ≡ 1 + q = omega arith in
          w.records q lt ∙ ap (λ (p : ℕ). Some (egress c (length outs) p J)) e ∙ ap (λ (n : ℕ). Some (egress c n (1 + q) J)) count);
    }

    holds_fronts : (J : Journal) → Fronts c b journal outs J → HoldsFronts k (k.journal ∷ k.outs) c old b J
    holds_fronts J w = record {
      lines = inr (w.hold.lines_.0, ap b.file (sym named.0) ∙ w.hold.lines_.1, w.hold.lines_.2);
      captures = held_fronts old b k.outs outs (λ p. egress c (length k.outs) p J) 1 named.1 (λ q lt.
          let e : q + 1 ≡ 1 + q = omega arith in
          let h = w.hold.records q lt in
          (h.0, h.1, subst (λ (n : ℕ). IsPrefixOf h.0 (egress c n (1 + q) J)) count (subst (λ (p : ℕ). IsPrefixOf h.0 (egress c (length outs) p J)) e h.2)));
      order = inr (record {
        before = w.before;
        begins = w.begins;
        order = in_order_as b (b.name journal) k.journal (length k.outs) (name_of b outs) (λ q. get_or k.outs q []) _ _ named.0 (λ q lt. named_at b k.outs outs named.1 q (let e = count in omega arith))
            (subst (λ (n : ℕ). InOrder b (b.name journal) n (name_of b outs) (file_bytes (text_so_far w.before) (captures_so_far c n w.before)) (file_bytes (text J) (captures c n J))) count w.hold.order);
      });
    }

    stopped : (e : RunFault) → IsTrue old.told → Stopped c budget opened b journal outs e → HasStopped k e old b
    stopped e told s = record {
      stops = record { settings = c; opened = opened; inputs = has told; at = s.at; is = sym same_stop ∙ s.is; says = s.says };
      journal = s.entry_list;
      run = subst (λ l. IsRunOver c l s.entry_list) same_kept s.run;
      files = holds_all s.entry_list s.files;
    }

    finished : (done : Done) → IsTrue old.told → Finished c budget opened b journal outs done → HasRun k done.frames done.entries old b
    finished done told f = record {
      settings = c;
      opened = opened;
      inputs = has told;
      captures = whole_captures old k.ins opened (has told).heads f.whole;
      none = sym same_stop ∙ f.none;
      journal = f.entry_list;
      run = f.run;
      one = λ I run is.
          let one_text : text I ≡ text f.entry_list = let both = sym is ∙ (holds_all f.entry_list f.files).lines in cc in
          (text_names_journal I f.entry_list run.ranged f.run.ranged (same_frames (all_records opened) I f.entry_list run.run.ports f.run.run.ports run.run.frames f.run.run.frames)).0 one_text;
      safe = safe c f.entry_list range f.run.run.legal;
      files = holds_all f.entry_list f.files;
      frames_are = f.frames;
      entries_are = f.entries;
    }

    interrupted_whole : IsTrue old.told → Interrupted c budget opened (Wholes c b journal outs) → HasPart k old (λ c J. HoldsAll k c b J)
    interrupted_whole told i = record {
      settings = c;
      opened = opened;
      inputs = has told;
      moment = i.moment;
      journal = i.entry_list;
      run = subst (λ l. IsRunOver c (before c i.moment l) i.entry_list) same_kept i.run;
      files = holds_all i.entry_list i.files;
    }

    interrupted_front : IsTrue old.told → Interrupted c budget opened (Fronts c b journal outs) → HasPart k old (λ c J. HoldsFronts k (k.journal ∷ k.outs) c old b J)
    interrupted_front told i = record {
      settings = c;
      opened = opened;
      inputs = has told;
      moment = i.moment;
      journal = i.entry_list;
      run = subst (λ l. IsRunOver c (before c i.moment l) i.entry_list) same_kept i.run;
      files = holds_fronts i.entry_list i.files;
    }

  pub windows_ended : (r : Result Done RunFault) → Runs c (start_at a ins budget) b (file_slots journal outs) r → Holds (Run k) old b (ran_by r)
  windows_ended (Ok done) r = (others r.touches, λ told. finished r.touches done told (r.ends (told_a told)), none_then old a b quiet r.counts)
  windows_ended (Err (faults.Capture port at why)) r = (
    others r.touches,
    λ told. inr (stopped r.touches (faults.Capture port at why) told (r.ends (told_a told))),
    none_then old a b quiet r.counts,
  )
  windows_ended (Err (faults.Limit kind)) r = (
    others r.touches,
    λ told. stopped r.touches (faults.Limit kind) told (r.ends (told_a told)),
    none_then old a b quiet r.counts,
  )
  windows_ended (Err faults.Read) r =
      let rose = r.read refl in
      let among = read_among words run old a ins journal outs heads_a outputs rose.0 rose.1 in
      let le = λ (n : List ℕ). le_trans (inputs.touches.reads_rise n) (opens.touches.reads_rise n) in
      let unread = rose_since old.read_faults a.read_faults b.read_faults le k.ins (rose.0, among, rose.2) in (
        others r.touches,
        λ told. inr (inr (unread, interrupted_whole r.touches told (r.ends (told_a told)))),
        ((unread.0, inr unread.1, unread.2), λ m. r.counts.1 m ∙ quiet.1 m),
      )
  windows_ended (Err faults.Write) r =
      let rose = r.write refl in
      let among = written_among words run old a ins journal outs heads_a outputs rose.0 rose.1 in
      let le = λ (n : List ℕ). le_trans (inputs.touches.writes_rise n) (opens.touches.writes_rise n) in (
        others r.touches,
        λ told. inr (interrupted_front r.touches told (r.ends (told_a told))),
        rose_since old.write_faults a.write_faults b.write_faults le (k.journal ∷ k.outs) (rose.0, among, rose.2),
      )
  windows_ended (Err faults.Memory) r = (others r.touches, λ told. inr (interrupted_front r.touches told (r.ends (told_a told))), none_then old a b quiet r.counts)
