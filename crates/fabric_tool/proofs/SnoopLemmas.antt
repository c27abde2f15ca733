-- What follows from how `snoop` ended.
use Rattle.std.proofs.Common.{◌≡◌, ℕ, List, ◌++◌, [], ◌∷◌, length, ◌⊎◌, Ok, Err, IsTrue, refl, sym, ap, ◌∙◌, subst, arith, inl, inr}
use Rattle.std.specs.Prelude.{Result, String, map}
use Rattle.std.specs.declared.alloc.Global.{Global}
use Rattle.fab_base.specs.Ending.{End, end_by, NoFaults, Counts, RoseIn, Uses}
use Rattle.fab_base.specs.Seen.{Seen, SameFiles, Touches, Nothing, Only}
use Rattle.fab_base.specs.Sunk.{Sunk}
use Rattle.fab_base.proofs.SeenLemmas.{rose_later}
use Rattle.fab_config.specs.Settings.{Settings}
use Rattle.fab_config.specs.declared.ConfigFault.{ConfigFault}
use Rattle.pcap_file.specs.Captures.{captures_by}
use Rattle.pcap_file.specs.declared.fault.GatherFault.{GatherFault}
use Rattle.pcap_file.specs.declared.fault.GatherFault.TheVariants as gather
use Rattle.fip_snoop.specs.Bridge.{Arrival, arrivals, history, passed, dropped}
use Rattle.fip_snoop.specs.Laws.{DataGoesUp, DataGoesDown, ENodesAreApart}
use Rattle.fip_snoop.specs.Messages.{forwarder_of}
use Rattle.side_runs.specs.Bridged.{HasBridged, HasFronts, HasStop, Ends, Bridges}
use Rattle.side_runs.specs.Crossing.{crossing, captures, IsFirstUnread}
use Rattle.side_runs.specs.Laws.{AreCaptures}
use Rattle.side_runs.specs.Sides.{ins_of, outs_of}
use Rattle.side_runs.specs.declared.bridge_run.Crossed.{Crossed}
use Rattle.side_runs.proofs.RunLemmas.{fronts_since}
use Rattle.fabric_tool.specs.Command.{SnoopNames, Snoop}
use Rattle.run_files.specs.Faults.{fault_from, run_end}
use Rattle.run_files.specs.Names.{Among}
use Rattle.run_files.specs.declared.fault.RunFault.{RunFault}
use Rattle.run_files.specs.declared.fault.RunFault.TheVariants as faults
use Rattle.fabric_tool.specs.Ending.{CountsOf}
use Rattle.fabric_tool.specs.Ends.{TakesMemory, Holds, KeepsOthers}
use Rattle.fabric_tool.specs.Inputs.{HasConfig, HasFault, LIMITS}
use Rattle.fabric_tool.specs.Opening.{stopped_by, crossed_by}
use Rattle.fabric_tool.specs.Outcome.{status_of, line_of}
use Rattle.fabric_tool.specs.Reading.{ConfigRead}
use Rattle.fabric_tool.specs.Snooping.{HasSnooped, HasSnoopedFront, HasSnoopFront, IsCaptureUnread, IsSnoopStopped, snoop_ending, SnoopEnded, SnoopForms, SnoopSays, crossing_of, snoop_meaning}
use Rattle.fabric_tool.specs.declared.outcome.Outcome.{Outcome}
use Rattle.fabric_tool.specs.declared.outcome.Outcome.TheVariants as ends
use Rattle.fabric_tool.proofs.EndingLemmas.{Left, Said, IsAnswer, less}
use Rattle.fabric_tool.proofs.Laws.{Laws, PrintsAlike, alike}
use Rattle.fabric_tool.proofs.AmongLemmas.{none_among}
use Rattle.fab_base.proofs.EndingLemmas.{none_then, rose_only}
use Rattle.run_files.proofs.NameLemmas.{rose_since}
use Rattle.fabric_tool.proofs.ConfigLemmas.{one_value, one_fault, no_fault}
use Rattle.fabric_tool.proofs.PartLemmas.{all_fronts}
use Rattle.fabric_tool.proofs.ReadLemmas.{config_refused}
use Rattle.fabric_tool.proofs.UseLemmas.{used_touches, used_files, used_told, used_counts}

-- whole captures are fronts
whole_captures : (k : SnoopNames) (passes drops : ℕ) (old new : Seen) → HasSnooped k passes drops old new → HasSnoopedFront k old new
whole_captures k passes drops old new h =
    let b = h.bridged in
    record {
      settings = h.settings;
      config = h.config;
      fronts = record { came = arrivals b.records; crosses = b.crosses; outputs = all_fronts old new k.outs (captures h.settings (length k.outs) (arrivals b.records)) b.outputs };
    }

snoop_front : (k : SnoopNames) (old new : Seen) (o : Outcome) → Left (snoop_ending k old new o) → HasSnoopFront k old new
snoop_front k old new (ends.Bridged passes drops) h = inr (whole_captures k passes drops old new h)
snoop_front k old new ends.WriteFault h = inr h
snoop_front k old new ends.Memory h = h
snoop_front k old new o h = absurd h

snoop_answered : (k : SnoopNames) (old new : Seen) (o : Outcome) → Holds (Snoop k) old new o → TakesMemory o → IsAnswer (snoop_ending k old new o)
snoop_answered k old new (ends.Bridged passes drops) h takes = tt
snoop_answered k old new (ends.Config fault) h takes = tt
snoop_answered k old new (ends.Capture port at reason) h takes = tt
snoop_answered k old new (ends.Limit kind) h takes = tt
snoop_answered k old new o h takes = absurd (omega arith)

-- ---- where nothing fails

-- how a crossing ends, and how a refusal does
abbrev EndsBy : Settings → Result (List Arrival) GatherFault → Outcome → Type 0
EndsBy c (Ok came) o = let L = history (forwarder_of c) [] came in o ≡ ends.Bridged (passed L) (dropped L)
EndsBy c (Err fault) o = o ≡ stopped_by (fault_from fault)

-- the configuration has a value, and the captures name this outcome
record Crosses (k : SnoopNames) (d : Seen) (o : Outcome) : Type 0 where
  settings : Settings
  config : HasConfig d k.config settings
  result : Result (List Arrival) GatherFault
  crosses : crossing_of k d ≡ result
  ends_so : EndsBy settings result o

abbrev Finds : SnoopNames → Seen → Outcome → Type 0
Finds k d o = ((fault : ConfigFault) × HasFault d k.config fault × (o ≡ ends.Config fault)) ⊎ Crosses k d o

two_numbers : (a b x y : ℕ) → a ≡ x → b ≡ y → ends.Bridged a b ≡ ends.Bridged x y
two_numbers a b x y e f = ap (λ (n : ℕ). ends.Bridged n b) e ∙ ap (λ (n : ℕ). ends.Bridged x n) f

module _ (k : SnoopNames) (d : Seen) where
  ended_once : (c : Settings) (r s : Result (List Arrival) GatherFault) (o p : Outcome) → r ≡ s → EndsBy c r o → EndsBy c s p → o ≡ p
  ended_once c (Ok xs) (Ok ys) o p e one other =
      let same : xs ≡ ys = cc in
      one ∙ ap (λ (came : List Arrival). ends.Bridged (passed (history (forwarder_of c) [] came)) (dropped (history (forwarder_of c) [] came))) same ∙ sym other
  ended_once c (Ok xs) (Err f) o p e one other = absurd (cc)
  ended_once c (Err f) (Ok ys) o p e one other = absurd (cc)
  ended_once c (Err f) (Err g) o p e one other = let same : f ≡ g = cc in one ∙ ap (λ x. stopped_by (fault_from x)) same ∙ sym other

  found_once : (o p : Outcome) → Finds k d o → Finds k d p → o ≡ p
  found_once o p (inl one) (inl other) = one.2 ∙ ap (λ (f : ConfigFault). ends.Config f) (one_fault d k.config one.0 other.0 one.1 other.1) ∙ sym other.2
  found_once o p (inl one) (inr other) = absurd (no_fault d k.config other.settings one.0 other.config one.1)
  found_once o p (inr one) (inl other) = absurd (no_fault d k.config one.settings other.0 one.config other.1)
  found_once o p (inr one) (inr other) =
      let same = one_value d k.config one.settings other.settings one.config other.config in
      ended_once other.settings one.result other.result o p (sym one.crosses ∙ other.crosses) (subst (λ (c : Settings). EndsBy c one.result o) same one.ends_so) other.ends_so

  refusal : (fault : GatherFault) → IsSnoopStopped k d fault → Finds k d (stopped_by (fault_from fault))
  refusal fault s = inr (record { settings = s.settings; config = s.config; result = Err fault; crosses = s.stops; ends_so = refl })

  said : (p : Outcome) → SnoopSays k d p → Finds k d p
  said (ends.Bridged passes drops) says = inr (record {
    settings = says.settings;
    config = says.config;
    result = Ok says.came;
    crosses = says.crosses;
    ends_so = let L = history (forwarder_of says.settings) [] says.came in two_numbers passes drops (passed L) (dropped L) says.passed_ says.dropped_;
  })
  said (ends.Config fault) says = inl (fault, says, refl)
  said (ends.Capture port at why) says = refusal (gather.Capture port at why) says
  said (ends.Limit kind) says = refusal (gather.Limit kind) says
  said p says = absurd says

  crossed : (passes drops : ℕ) (new : Seen) → HasSnooped k passes drops d new → Finds k d (ends.Bridged passes drops)
  crossed passes drops new h =
      let b = h.bridged in
      inr (record {
        settings = h.settings;
        config = h.config;
        result = Ok (arrivals b.records);
        crosses = b.crosses;
        ends_so = let L = history (forwarder_of h.settings) [] (arrivals b.records) in two_numbers passes drops (passed L) (dropped L) b.passed_ b.dropped_;
      })

  module _ (new : Seen) (told : IsTrue d.told) where
    -- an outcome is what the inputs name, or want of memory
    ended : (o : Outcome) → Said d (snoop_ending k d new o) → Finds k d o ⊎ (o ≡ ends.Memory)
    ended (ends.Bridged passes drops) h = inl (crossed passes drops new (h told))
    ended (ends.Config fault) h = inl (inl (fault, h told, refl))
    ended (ends.Capture port at why) h = inl (refusal (gather.Capture port at why) (h told))
    ended (ends.Limit kind) h = inl (refusal (gather.Limit kind) (h told))
    ended ends.Memory h = inr refl
    ended o h = absurd h

    snoop_once : (o p : Outcome) → Said d (snoop_ending k d new o) → SnoopSays k d p → PrintsAlike o p ⊎ (o ≡ ends.Memory)
    snoop_once o p holds says = elim (ended o holds) [ inl finds ↦ inl (alike o p (found_once o p finds (said p says))) | inr memory ↦ inr memory ]

    -- inputs of the right form end with status 0
    snoop_formed : SnoopForms k d → (o : Outcome) → Said d (snoop_ending k d new o) → (status_of o ≡ 0) ⊎ (o ≡ ends.Memory)
    snoop_formed forms o holds =
        let L = history (forwarder_of forms.settings) [] forms.came in
        let p = ends.Bridged (passed L) (dropped L) in
        elim (ended o holds) [
          | inl finds ↦ inl (ap status_of (found_once o p finds (inr (record { settings = forms.settings; config = forms.config; result = Ok forms.came; crosses = forms.crosses; ends_so = refl }))))
          | inr memory ↦ inr memory
        ]

-- ---- the laws

done_snoop : (k : SnoopNames) (old new : Seen) (before after : Sunk) (o : Outcome) → status_of o ≡ 0 → Holds (Snoop k) old new o → (IsTrue before.told → after.written ≡ before.written ++ line_of o) → IsTrue old.told → SnoopEnded k old new before after
unfolding line_of
done_snoop k old new before after (ends.Bridged passes drops) is h printed = λ told. record { passes = passes; drops = drops; done = h.1 told; printed = printed }
done_snoop k old new before after o is h printed = absurd (omega arith)

pub snoop_laws : (k : SnoopNames) → Laws (snoop_meaning k)
snoop_laws k = record {
  same = λ old new files. inl files;
  whole = snoop_front k;
  spare = λ old new o h takes. less (snoop_meaning k) old new (HasSnoopFront k old new) (λ files. inl files) (snoop_ending k old new o) (snoop_answered k old new o h takes) (snoop_front k old new o) h;
  done = done_snoop k;
  once = λ old new o p told. snoop_once k old new told o p;
  formed = λ old new o forms. snoop_formed k old new forms.told forms o;
}

-- ---- the call

-- the configuration can't be taken
pub not_configured : (k : SnoopNames) (old new : Seen) (x : Outcome) → ConfigRead k.config old new (Err x) → Holds (Snoop k) old new x
not_configured k old new x read = config_refused read (Holds (Snoop k) old new)
    (λ f used says. (used_files used, says, counted used))
    (λ used. (used_files used, λ told. inl (rose_only k.config old.read_faults new.read_faults used.counts.0), counted used))
    (λ used. ((λ m other. used_files used m), λ told. inl (used_files used), counted used))
  where
    counted : {end : End} → Uses (Only k.config) Nothing end old new → CountsOf (k.config ∷ k.ins) k.outs end old new
    counted used = used_counts used (k.config ∷ k.ins) k.outs (λ m is. inl is)

-- the names of the ports, as words
pub bridges_as : {x y : List (String Global)} {c : Settings} {b z : Seen} {r : Result Crossed RunFault} → x ≡ y → Bridges (ins_of x) (outs_of x) LIMITS c b z r → Bridges (ins_of y) (outs_of y) LIMITS c b z r
bridges_as {x} {y} {c} {b} {z} {r} e h = subst (λ l. Bridges (ins_of l) (outs_of l) LIMITS c b z r) e h

-- files that are as they were before
files_since : (a b : Seen) → SameFiles a b → (names : List (List ℕ)) → map (λ n. b.file n) names ≡ map (λ n. a.file n) names
files_since a b same [] = refl
files_since a b same (n ∷ names) = let first = same n in let rest = files_since a b same names in cc

module _ (k : SnoopNames) (c : Settings) (a b z : Seen) (config : ConfigRead k.config a b (Ok c)) (law : DataGoesUp) (downs : DataGoesDown) (apart : ENodesAreApart) where
  same : SameFiles a b
  same = used_files config.uses

  told_b : IsTrue a.told → IsTrue b.told
  told_b = used_told config.uses

  counted : NoFaults a b
  counted = config.uses.counts

  touched : Touches Nothing (Only k.config) a b
  touched = used_touches config.uses

  bridged_since : (done : Crossed) → HasBridged k.ins k.outs LIMITS c b z done → IsTrue a.told → HasSnooped k done.passed done.dropped a z
  bridged_since done h told = record {
    settings = c;
    config = config.ok told;
    bridged = record {
      records = h.records;
      captures_ = subst (λ files. AreCaptures files h.records) (files_since a b same k.ins) h.captures_;
      taken = sym (ap (captures_by 1 LIMITS) (files_since a b same k.ins)) ∙ h.taken;
      crosses = sym (ap (crossing LIMITS) (files_since a b same k.ins)) ∙ h.crosses;
      outputs = h.outputs;
      passed_ = h.passed_;
      dropped_ = h.dropped_;
    };
    data_ = λ before later x f read is other reads. law (forwarder_of c) (history (forwarder_of c) [] before) x.port x.caught f read other reads;
    down = λ before later x f read q is own reads. downs (forwarder_of c) (history (forwarder_of c) [] before) x.port x.caught f read q own reads;
    apart = λ before later x q is. apart (forwarder_of c) (history (forwarder_of c) [] before) x.port x.caught q;
  }

  stopped_since : (fault : GatherFault) → HasStop k.ins LIMITS b fault → IsTrue a.told → IsSnoopStopped k a fault
  stopped_since fault h told = record { settings = c; config = config.ok told; stops = sym (ap (crossing LIMITS) (files_since a b same k.ins)) ∙ h }

  unread_since : IsFirstUnread k.ins LIMITS b z → IsTrue a.told → IsCaptureUnread k a z
  unread_since h told = record {
    settings = c;
    config = config.ok told;
    first = record {
      before = h.before;
      name = h.name;
      behind = h.behind;
      are = h.are;
      ins = h.ins;
      taken = sym (ap (captures_by 1 LIMITS) (files_since a b same h.before)) ∙ h.taken;
      rose = rose_later (a.read_faults h.name) (b.read_faults h.name) (z.read_faults h.name) (touched.reads_rise h.name) h.rose;
    };
  }

  front_since : HasFronts k.ins k.outs LIMITS c b z → IsTrue a.told → HasSnoopedFront k a z
  front_since h told = record {
    settings = c;
    config = config.ok told;
    fronts = record { came = h.came; crosses = sym (ap (crossing LIMITS) (files_since a b same k.ins)) ∙ h.crosses; outputs = fronts_since a b z same k.outs (captures c (length k.outs) h.came) h.outputs };
  }

  pub bridge_ended : (r : Result Crossed RunFault) → Bridges k.ins k.outs LIMITS c b z r → Holds (Snoop k) a z (crossed_by r)
  bridge_ended r h = go r h.ends h.uses.counts
    where
      others : KeepsOthers (Snoop k) a z
      others m none = h.uses.touches.files m (none_among k.outs m none) ∙ same m

      none : NoFaults b z → NoFaults a z
      none = none_then a b z counted

      go : (r : Result Crossed RunFault) → Ends k.ins k.outs LIMITS c b z r → Counts (RoseIn (Among k.ins) b.read_faults z.read_faults) (RoseIn (Among k.outs) b.write_faults z.write_faults) (end_by run_end r) b z → Holds (Snoop k) a z (crossed_by r)
      go (Ok done) e counts = (others, λ told. bridged_since done (e (told_b told)) told, none counts)
      go (Err (faults.Capture port at why)) e counts = ((λ m. e.0 m ∙ same m), λ told. stopped_since (gather.Capture port at why) (e.1 (told_b told)) told, none counts)
      go (Err (faults.Limit kind)) e counts = ((λ m. e.0 m ∙ same m), λ told. stopped_since (gather.Limit kind) (e.1 (told_b told)) told, none counts)
      go (Err faults.Read) e counts =
          let rose = rose_since a.read_faults b.read_faults z.read_faults touched.reads_rise k.ins counts.0 in (
            (λ m. e.0 m ∙ same m),
            λ told. inr (unread_since (e.1 (told_b told)) told),
            ((rose.0, inr rose.1, rose.2), λ m. counts.1 m ∙ counted.1 m),
          )
      go (Err faults.Write) e counts = (
        others,
        λ told. front_since (e (told_b told)) told,
        (rose_since a.write_faults b.write_faults z.write_faults touched.writes_rise k.outs counts.0, λ m. counts.1 m ∙ counted.0 m),
      )
      go (Err faults.Memory) e counts = (others, λ told. elim (e (told_b told)) [ inl still ↦ inl (λ m. still m ∙ same m) | inr front ↦ inr (front_since front told) ], none counts)
