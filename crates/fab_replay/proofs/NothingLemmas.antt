-- A check from the state before anything happened is the check of a journal.
use Rattle.std.proofs.Common.{◌≡◌, ℕ, suc, ◌+◌, ◌-◌, ◌⊎◌, inl, inr, Bool, List, [], ◌∷◌, ◌++◌, length, take, slice_get, Option, Some, None, IfSome, Result, Ok, Err, refl, sym, ap, ◌∙◌, subst, arith}
use Rattle.std.specs.Prelude.{unwrap_or}
use Rattle.std.proofs.lemmas.List.{append-nil}
use Rattle.fab_base.specs.Seen.{Seen}
use Rattle.fab_config.specs.Settings.{Settings}
use Rattle.pcap_file.specs.Capture.{head_bytes}
use Rattle.pcap_file.specs.declared.Budget.{Budget}
use Rattle.pcap_file.specs.declared.Record.{Record}
use Rattle.pcap_file.specs.declared.fault.GatherFault.{GatherFault}
use Rattle.pcap_file.specs.declared.fault.GatherFault.TheVariants as gather_fault
use Rattle.fab_policy.specs.Journal.{Journal, clock, followed}
use Rattle.fab_policy.specs.Legal.{HoldsFrames, IsNextTickBy, numbered_from, of_port}
use Rattle.fab_policy.specs.Outputs.{State, state_of}
use Rattle.fab_policy.specs.Standing.{Contents, Stands}
use Rattle.fab_policy.specs.State.{addresses, overdue}
use Rattle.fab_policy.specs.Text.{egress, head_line, text, text1}
use Rattle.fab_policy.specs.Verdicts.{IsRight}
use Rattle.fab_policy.specs.declared.event.Event.{Event}
use Rattle.fab_policy.specs.declared.line.Format.{Format}
use Rattle.fab_policy.specs.declared.line.Format.TheVariants.{One, Two}
use Rattle.fab_policy.specs.declared.line.Line.{Line}
use Rattle.window_records.specs.First.{opened_in}
use Rattle.window_records.specs.Looks.{Stop, all_kept, all_records}
use Rattle.window_records.specs.declared.shelf.Input.{Input}
use Rattle.fab_states.specs.Runs.{HoldsFrom, first_of, none_of}
use Rattle.fab_states.specs.States.{sent_on, state_on}
use Rattle.fab_states.specs.Written.{piece_records, piece_text}
use Rattle.fab_states.proofs.NothingLemmas.{legal_nothing, none_at, run_nothing, state_nothing, timed_nothing}
use Rattle.fab_states.proofs.OnLemmas.{sent_goes_on}
use Rattle.fab_states.proofs.WrittenLemmas.{records-behind, text-behind}
use Rattle.fab_replay.specs.Check.{Checks, HasAll, HasKept, IsFirstOutput, IsFirstStop, IsLegal, Leaves, Matter, NamesRun, Says, Task, captures_in, matter_of, sent_on as journal_sent}
use Rattle.fab_replay.specs.CheckFrom.{ChecksFrom, HasAllFrom, HasKeptFrom, IsFirstOutputFrom, IsFirstStopFrom, IsLegalFrom, LeavesFrom, NamesRunFrom, SaysFrom, sent_from}
use Rattle.fab_replay.specs.Front.{AreRightLines, HoldsFronts, IsExpectedTick, IsFirstWrong, IsFront, IsNextFrame, IsWrong, IsWrongTick, expects_tick, expects_tick_at}
use Rattle.fab_replay.specs.FrontFrom.{AreRightLinesFrom, HoldsFrontsFrom, IsBegunFrom, IsExpectedTickFrom, IsFirstWrongFrom, IsFrontFrom, IsNextFrameFrom, IsWrongFrom, IsWrongTickFrom, Origin, RemainsFrom, StandsFrom, capture_from, clock_from, expects_tick_from, nothing_of, now_from, text_from}
use Rattle.fab_replay.specs.Lines.{format_of, text_in}
use Rattle.fab_replay.specs.Remains.{HasTick, IsBegun, Remains}
use Rattle.fab_replay.specs.Steps.{AreFirsts}
use Rattle.fab_replay.specs.declared.fault.CheckFault.{CheckFault}
use Rattle.fab_replay.specs.declared.fault.CheckFault.TheVariants as fault
use Rattle.fab_replay.specs.declared.fault.LineWhy.{LineWhy}
use Rattle.fab_replay.specs.declared.fault.LineWhy.TheVariants as why
use Rattle.fab_replay.proofs.OwedLemmas.{first_as}

-- ---- texts and captures

text_first : text [] ≡ head_line
unfolding text
text_first = refl

text_nothing : (f : Format) (t : ℕ) (K : Journal) → t ≡ 0 → text_from f t K ≡ text_in f K
text_nothing One t K zero_is = refl
text_nothing Two t K zero_is =
    ap (λ (n : ℕ). head_line ++ piece_text n K) zero_is
    ∙ ap (λ (l : List ℕ). l ++ piece_text 0 K) (sym text_first)
    ∙ sym (text-behind [] K) ∙ ap text (append-nil K)

capture_first : (c : Settings) (n p : ℕ) → egress c n p [] ≡ head_bytes
unfolding egress
capture_first c n p = refl

capture_nothing : (c : Settings) (n p : ℕ) (ins : List (List Record)) (K : Journal) → capture_from c n (nothing_of c ins) p K ≡ egress c n p K
capture_nothing c n p ins K =
    ap (λ (l : List ℕ). l ++ piece_records c n p (state_of c []) K) (sym (capture_first c n p))
    ∙ sym (records-behind c n p [] K) ∙ ap (egress c n p) (append-nil K)

-- ---- fabrics

stands_nothing : (c : Settings) (ins : List (List Record)) (F : Contents) (K : Journal) → F.settings ≡ c → StandsFrom (nothing_of c ins) F K → Stands F K
stands_nothing c ins F K same s =
    let first : state_of c [] ≡ state_of F.settings [] = ap (λ (d : Settings). state_of d []) (sym same) in
    record {
      state = s.state ∙ ap (λ (S : State). state_on F.settings S K) first ∙ state_nothing F.settings K;
      older = s.older;
      events = s.events;
      outs = s.outs
          ∙ ap (λ (S : State). sent_on F.settings F.count S (followed [] F.events)) (ap (λ (S : State). state_on F.settings S s.older) first ∙ state_nothing F.settings s.older)
          ∙ sym (sent_goes_on F.settings F.count s.older F.events);
    }

module _ (c : Settings) (ins : List (List Record)) where
  abbrev o : Origin
  o = nothing_of c ins

  first_nothing : (port : ℕ) → first_of o.firsts port ≡ 0
  first_nothing port = none_at (port - 1) ins

  clock_nothing : (K : Journal) → clock_from c o K ≡ clock K
  clock_nothing K = ap (λ (S : State). S.tables.clock) (state_nothing c K)

  -- ---- entries that are right

  fronts_nothing : (K : Journal) → HoldsFrontsFrom o.firsts K ins → HoldsFronts K ins
  fronts_nothing K h q records at = h q records at ∙ ap (λ (n : ℕ). numbered_from n (take (length (of_port (q + 1) K)) records)) (first_nothing (q + 1))

  front_nothing : (K : Journal) → IsFrontFrom c o ins K → IsFront c ins K
  front_nothing K h = record { ranged = h.ranged; ports = h.ports; frames = fronts_nothing K h.frames; legal = legal_nothing c K h.legal; timed = timed_nothing c ins K h.timed }

  begun_nothing : (K : Journal) → IsBegunFrom c o ins K → IsBegun c ins K
  begun_nothing K h = record { ports = h.ports; frames = fronts_nothing K h.frames; timed = timed_nothing c ins K h.timed }

  -- ---- what may come next

  expects_nothing : (K : Journal) → expects_tick_from c o ins K ≡ expects_tick c ins K
  expects_nothing K = ap (λ (x : Option ℕ). expects_tick_at x c ins K) (clock_nothing K)

  module _ (K : Journal) where
    tick_nothing : (m : ℕ) (ended : List ℕ) → IsExpectedTickFrom c o ins K m ended → IsExpectedTick c ins K m ended
    tick_nothing m ended t = record {
      window = t.window;
      least = t.least;
      next = subst (λ (S : State). IsNextTickBy c S t.window m) (state_nothing c K) t.next;
      ends = t.ends ∙ ap (λ (S : State). addresses (overdue c S.tables m)) (state_nothing c K);
    }

    told_on : (a b : Option ℕ) (told : Option ℕ) → a ≡ b → IfSome told (λ t. a ≡ Some t) → IfSome told (λ t. b ≡ Some t)
    told_on a b None e h = tt
    told_on a b (Some t) e h = sym e ∙ h

    next_nothing : (port index : ℕ) (told : Option ℕ) (r : Record) → IsNextFrameFrom c o ins K port index told r → IsNextFrame c ins K port index told r
    next_nothing port index told r n = record {
      place = n.place;
      is = n.is;
      records = n.records;
      later = n.later;
      are = n.are;
      next = n.next;
      number = (let i = n.number in let z = first_nothing port in omega (arith, i, z));
      time = sym (clock_nothing K) ∙ n.time;
      clock_ = told_on (clock_from c o K) (clock K) told (clock_nothing K) n.clock_;
    }

    next_back : (port index : ℕ) (told : Option ℕ) (r : Record) → IsNextFrame c ins K port index told r → IsNextFrameFrom c o ins K port index told r
    next_back port index told r n = record {
      place = n.place;
      is = n.is;
      records = n.records;
      later = n.later;
      are = n.are;
      next = n.next;
      number = (let i = n.number in let z = first_nothing port in omega (arith, i, z));
      time = clock_nothing K ∙ n.time;
      clock_ = told_on (clock K) (clock_from c o K) told (sym (clock_nothing K)) n.clock_;
    }

    -- ---- what is wrong

    wrong_tick_nothing : (l : Line) → IsWrongTickFrom c o ins K l → IsWrongTick c ins K l
    wrong_tick_nothing l (inl x) = inl (sym (expects_nothing K) ∙ x.0, x.1, x.2, tick_nothing x.1 x.2 x.3, x.4)
    wrong_tick_nothing l (inr x) = inr (sym (expects_nothing K) ∙ x.0, x.1)

    right_nothing : (port : ℕ) (r : Record) (v : _) → IsRight c (state_on c o.state K).tables port r.caught v → IsRight c (state_of c K).tables port r.caught v
    right_nothing port r v h = subst (λ (S : State). IsRight c S.tables port r.caught v) (state_nothing c K) h

    right_back : (port : ℕ) (r : Record) (v : _) → IsRight c (state_of c K).tables port r.caught v → IsRight c (state_on c o.state K).tables port r.caught v
    right_back port r v h = subst (λ (S : State). IsRight c S.tables port r.caught v) (sym (state_nothing c K)) h

    wrong_nothing : (f : Format) (rest : List ℕ) (y : LineWhy) → IsWrongFrom c o ins K f rest y → IsWrong c ins K f rest y
    wrong_nothing f rest why.Text w = w
    wrong_nothing f rest why.Tick w = (w.0, w.1, wrong_tick_nothing w.0 w.2)
    wrong_nothing f rest why.Frame w = (w.0, w.1, w.2, w.3, sym (expects_nothing K) ∙ w.4, λ r n. w.5 r (next_back w.0 w.1 w.2 r n))
    wrong_nothing f rest (why.Verdict found made) w =
        (w.0, w.1, w.2, w.3, w.4, sym (expects_nothing K) ∙ w.5, next_nothing w.0 w.1 w.2 w.3 w.6, λ right. w.7 (right_back w.0 w.3 found right), right_nothing w.0 w.3 made w.8)
    wrong_nothing f rest why.Rest w = w

  abbrev lines_nothing : (bytes : List ℕ) (K : Journal) → AreRightLinesFrom c o ins bytes K → AreRightLines c ins bytes K
  lines_nothing bytes K h = record { rest = h.rest; lines = h.lines ∙ ap (λ (l : List ℕ). l ++ h.rest) (text_nothing (format_of bytes) (now_from o) K refl); front = front_nothing K h.front }

  first_wrong_nothing : (stop : Option Stop) (bytes : List ℕ) (line : ℕ) (y : LineWhy) → IsFirstWrongFrom c o ins stop bytes line y → IsFirstWrong c ins stop bytes line y
  first_wrong_nothing stop bytes line y w = record {
    entry_list = w.entry_list;
    before = lines_nothing bytes w.entry_list w.before;
    gathered = w.gathered;
    number = w.number;
    wrong = wrong_nothing w.entry_list (format_of bytes) w.before.rest y w.wrong;
  }

  -- ---- what a fabric stands for

  tick_as : (K : Journal) (more : List Event) (r : Result ℕ CheckFault) → HasTick (expects_tick_from c o ins K) more r → HasTick (expects_tick c ins K) more r
  tick_as K more r h = subst (λ (b : Bool). HasTick b more r) (expects_nothing K) h

  abbrev remains_nothing : (told : Bool) (bytes : List ℕ) (F : Contents) (r : Result ℕ CheckFault) → F.settings ≡ c → RemainsFrom c o ins told bytes F r → Remains c ins told bytes F r
  remains_nothing told bytes F r same h = record {
    entry_list = h.entry_list;
    rest = h.rest;
    lines = h.lines ∙ ap (λ (l : List ℕ). l ++ h.rest) (text_nothing (format_of bytes) (now_from o) h.entry_list refl);
    ranged = h.ranged;
    more = h.more;
    taken = h.taken;
    legal = legal_nothing c (h.more ++ h.entry_list) h.legal;
    stands = stands_nothing c ins F (h.more ++ h.entry_list) same h.stands;
    begun = λ t. begun_nothing (h.more ++ h.entry_list) (h.begun t);
    tick = λ t. tick_as h.entry_list h.more r (h.tick t);
  }

-- ---- what is answered

held_zeros : (K : Journal) (p : ℕ) (firsts : List ℕ) (ins : List (List Record)) → ((q : ℕ) → unwrap_or (slice_get firsts q) 0 ≡ 0) → HoldsFrom K p firsts ins → HoldsFrames K p ins
held_zeros K p [] [] z h = tt
held_zeros K p [] (records ∷ ins) z h = absurd h
held_zeros K p (first ∷ firsts) [] z h = absurd h
held_zeros K p (first ∷ firsts) (records ∷ ins) z h = (h.0 ∙ ap (λ (n : ℕ). numbered_from n records) (z 0), held_zeros K (p + 1) firsts ins (λ q. z (suc q)) h.1)

module _ (c : Settings) (budget : Budget) (m : Matter) where
  abbrev from : Origin
  from = nothing_of c (all_records m.ins)

  by_format : (f : Format) (K : Journal) → m.journal ≡ text_in f K → (m.journal ≡ text K) ⊎ (m.journal ≡ text1 K)
  by_format One K e = inr e
  by_format Two K e = inl e

  names_nothing : (K : Journal) → NamesRunFrom c from budget m K → NamesRun c budget m K
  names_nothing K h =
      let run = run_nothing c (all_records m.ins) K h.run in
      record {
        named = record {
          ranged = h.ranged;
          ports = run.ports;
          lines = by_format (format_of m.journal) K (h.lines ∙ text_nothing (format_of m.journal) (now_from from) K refl);
          frames = run.frames;
        };
        run = run;
        none = h.none;
        whole = h.whole;
      }

  sent_nothing : (K : Journal) (q : ℕ) → sent_from c from m K q ≡ journal_sent c m K q
  sent_nothing K q = capture_nothing c (length m.ins) (q + 1) (all_records m.ins) K

  abbrev legal_is : (n : ℕ) → IsLegalFrom c from budget m n → IsLegal c budget m n
  legal_is n h = record { entry_list = h.entry_list; names = names_nothing h.entry_list h.names; outputs = λ q lt. h.outputs q lt ∙ sent_nothing h.entry_list q; count = h.count }

  output_is : (port at : ℕ) → IsFirstOutputFrom c from budget m port at → IsFirstOutput c budget m port at
  output_is port at h = record {
    entry_list = h.entry_list;
    names = names_nothing h.entry_list h.names;
    first = first_as (Some (port, at)) m.outputs m.found (sent_from c from m h.entry_list) (journal_sent c m h.entry_list) (λ q lt. sent_nothing h.entry_list q) h.first;
  }

  stop_is : (e : GatherFault) → IsFirstStopFrom c from budget m e → IsFirstStop c budget m e
  stop_is e h = record {
    at = h.at;
    is = h.is;
    says = h.says;
    entry_list = h.entry_list;
    before = lines_nothing c (all_records m.ins) m.journal h.entry_list h.before;
    all = held_zeros h.entry_list 1 from.firsts (all_kept c h.at (all_records m.ins)) (λ q. none_at q (all_records m.ins)) h.all;
  }

  says_is : (F : Contents) (r : Result ℕ CheckFault) → F.settings ≡ c → SaysFrom c from budget m F r → Says c budget m F r
  says_is F (Ok n) same h = record { legal = legal_is n h.legal; stands = stands_nothing c (all_records m.ins) F h.legal.entry_list same h.stands }
  says_is F (Err (fault.Line line y)) same h = first_wrong_nothing c (all_records m.ins) _ m.journal line y h
  says_is F (Err (fault.Output port at)) same h = output_is port at h
  says_is F (Err (fault.Capture port at w)) same h = stop_is (gather_fault.Capture port at w) h
  says_is F (Err (fault.Limit kind)) same h = stop_is (gather_fault.Limit kind) h
  says_is F (Err fault.Read) same h = tt
  says_is F (Err fault.Memory) same h = tt

  kept_is : (K : Journal) → HasKeptFrom c from budget m K → HasKept c budget m K
  kept_is K h = record { at = h.at; is = h.is; all = held_zeros K 1 from.firsts (all_kept c h.at (all_records m.ins)) (λ q. none_at q (all_records m.ins)) h.all }

  all_is : (K : Journal) (r : Result ℕ CheckFault) → HasAllFrom c from budget m K r → HasAll c budget m K r
  all_is K (Ok n) h = tt
  all_is K (Err (fault.Line line y)) h = tt
  all_is K (Err (fault.Output port at)) h = held_zeros K 1 from.firsts (all_records m.ins) (λ q. none_at q (all_records m.ins)) h
  all_is K (Err (fault.Capture port at w)) h = kept_is K h
  all_is K (Err (fault.Limit kind)) h = kept_is K h
  all_is K (Err fault.Read) h = tt
  all_is K (Err fault.Memory) h = tt

  pub leaves_nothing : (told : Bool) (F : Contents) (r : Result ℕ CheckFault) → F.settings ≡ c → LeavesFrom c from budget m told F r → Leaves c budget m told F r
  leaves_nothing told F r same h = record { remains = remains_nothing c (all_records m.ins) told m.journal F r same h.remains; all = λ t. all_is h.remains.entry_list r (h.all t) }

-- a task from nothing
pub checks_nothing : (k : Task) (d : Seen) (F : Contents) (r : Result ℕ CheckFault) → k.from ≡ nothing_of k.settings (all_records (captures_in k)) → F.settings ≡ k.settings → ChecksFrom k d F r → Checks k d F r
checks_nothing k d F r first same h = record {
  touches = h.touches;
  says = λ told. says_is k.settings k.start.left (matter_of k) F r same (subst (λ (o : Origin). SaysFrom k.settings o k.start.left (matter_of k) F r) first (h.says told));
  read = h.read;
}

-- no port has frames before the first
pub length-none : (d : Seen) (ins : List Input) → length (none_of (all_records (opened_in d ins))) ≡ length ins
length-none d [] = refl
length-none d (i ∷ ins) = ap suc (length-none d ins)

pub none_told : (ins : List (List Record)) → AreFirsts (none_of ins) []
none_told ins q = none_at q ins
