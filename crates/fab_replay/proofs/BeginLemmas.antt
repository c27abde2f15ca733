-- How a check begins, before the first window.
use Rattle.std.proofs.Common.{◌≡◌, ℕ, zero, suc, ◌≤◌, List, [], ◌∷◌, ◌++◌, length, map, drop, slice_get, Option, Some, Ok, Err, refl, sym, ap, ◌∙◌, subst}
use Rattle.std.specs.Prelude.{unwrap_or, Vec}
use Rattle.std.specs.declared.alloc.Global.{Global}
use Rattle.fab_base.specs.Ending.{End, Uses}
use Rattle.fab_base.specs.Seen.{Touches, Nothing}
use Rattle.fab_base.proofs.SeenLemmas.{touches_wider}
use Rattle.fab_config.specs.Settings.{Settings}
use Rattle.window_records.specs.Looks.{all_records}
use Rattle.fab_policy.specs.Standing.{Contents}
use Rattle.fab_policy.specs.declared.line.Format.{Format}
use Rattle.pcap_file.specs.declared.Record.{Record}
use Rattle.window_records.specs.declared.shelf.Input.{Input}
use Rattle.window_records.specs.declared.shelf.Shelf.{Shelf}
use Rattle.pcap_file.specs.declared.fault.GatherFault.{GatherFault}
use Rattle.pcap_file.specs.Faults.{gather_end}
use Rattle.window_records.specs.First.{IsNextWindow, LooksFirst, Start}
use Rattle.fab_base.specs.Slots.{NameIn}
use Rattle.window_records.specs.Ports.{AreInputs, slots_of, walk_at}
use Rattle.window_records.specs.Walked.{Walked}
use Rattle.window_records.proofs.UsesLemmas.{uses_rose, uses_touches}
use Rattle.window_records.proofs.WalkedLemmas.{walked_first}
use Rattle.fab_replay.specs.FrontFrom.{IsBehindFrom, now_from, text_from}
use Rattle.fab_replay.specs.Lines.{IsInside}
use Rattle.fab_replay.specs.Owed.{AreNew}
use Rattle.fab_replay.specs.Steps.{IsAlong}
use Rattle.fab_replay.specs.Check.{Task, captures_in, slots_in}
use Rattle.fab_replay.specs.Windows.{Ended, Ends, Going, IsNotEarly, LeftBy, OfTask, check_fault, scene_of, stand_at}
use Rattle.fab_replay.specs.declared.lines.Place.{Place}
use Rattle.fab_replay.specs.declared.owed.Owed.{Owed}
use Rattle.fab_replay.specs.declared.windows.Course.{Course}
use Rattle.fab_replay.proofs.LeaveLemmas.{along_none, holds_nothing, left_stopped}
use Rattle.fab_replay.proofs.OwedLemmas.{owed_first}
use Rattle.fab_replay.proofs.SlotsLemmas.{in_front, left_back, rose_front}
use Rattle.fab_replay.proofs.GoLemmas.{ended_gather, length-scene}

abbrev no_records : List Record
no_records = []

abbrev pub course_at : ℕ → Place → Owed → Course
course_at first p o = record { first = first; place = p; owed = o }

module _ (k : Task) (looked : Start) (F : Contents) (p : Place)
    (inputs : AreInputs k.start.seen (slots_in k)) (ports : length k.start.ins ≤ 64) (firsts : length k.from.firsts ≡ length k.start.ins) where
  abbrev Ins : List ℕ → Type 0
  Ins = NameIn k.start.seen (slots_of k.start.ins)

  wider : {end : End} → Uses Ins Nothing end k.start.seen looked.seen → Touches Nothing (OfTask k) k.start.seen looked.seen
  wider u = touches_wider Nothing Ins Nothing (OfTask k) k.start.seen looked.seen (λ m h. h) (in_front (slots_of k.start.ins) k.outs k.start.seen) (uses_touches Ins k.start.seen looked.seen u)

  ended_looks : (e : GatherFault) → LooksFirst k.settings k.start looked (Err e) → IsBehindFrom (now_from k.from) k.bytes p [] → Ended k looked.seen (check_fault e)
  ended_looks e f behind =
      ended_gather k looked.seen (wider f.uses) e
      (λ told stopped.
      let s = f.stops told stopped in
      record {
        at = s.0;
        is = s.1;
        says = s.2;
        entry_list = [];
        before = record {
          rest = drop p.at k.bytes;
          lines = behind.lines ∙ ap (λ (g : Format). text_from g (now_from k.from) [] ++ drop p.at k.bytes) behind.format;
          front = record { ranged = tt; ports = tt; frames = λ q records at. refl; legal = tt; timed = tt };
        };
        all = holds_nothing k.settings s.0 1 k.from.firsts (all_records (captures_in k)) (firsts ∙ sym (length-scene k)) s.3;
      })
      (λ is.
      rose_front (slots_of k.start.ins) k.outs k.start.seen looked.seen (uses_rose Ins k.start.seen looked.seen f.uses (ap gather_end is)))

  left_looks : (e : GatherFault) → LooksFirst k.settings k.start looked (Err e) → IsAlong (scene_of k) k.start.seen.told [] F p → LeftBy k F (check_fault e)
  left_looks e f along = left_stopped k [] F p along e (λ told stopped. let s = f.stops told stopped in record { at = s.0; is = s.1; all = holds_nothing k.settings s.0 1 k.from.firsts (all_records (captures_in k)) (firsts ∙ sym (length-scene k)) s.3 })

  pub ends_looks : (e : GatherFault) → LooksFirst k.settings k.start looked (Err e) → IsBehindFrom (now_from k.from) k.bytes p [] → IsAlong (scene_of k) k.start.seen.told [] F p → Ends k looked.seen F (Err (check_fault e))
  ends_looks e f behind along = record { checks = ended_looks e f behind F; leaves = left_looks e f along }

  module _ (s : Vec Shelf Global) (f : LooksFirst k.settings k.start looked (Ok s)) where
    lines_none : (is : List Input) (q : ℕ) (records : List Record) → slice_get (map (λ (i : Input). no_records) is) q ≡ Some records → 0 ≡ length records
    lines_none [] q records at = absurd (cc)
    lines_none (i ∷ is) zero records at = let e : [] ≡ records = cc in ap length e
    lines_none (i ∷ is) (suc q) records at = lines_none is q records at

    -- from the first looks on, by the code's own configuration and its own list of shelves
    pub going_begin : (o : Owed) → AreNew (length k.outs) o → length k.outs ≤ length k.start.ins → (v : Option ℕ) (c : Settings) (l : List Shelf) (first : ℕ) →
        IsNextWindow c l v → c ≡ k.settings → l ≡ s.items → first ≡ unwrap_or v 0 → F.settings ≡ k.settings → F.count ≡ length k.start.ins →
        F.state ≡ k.from.state → F.events ≡ [] → F.outs ≡ [] → IsNotEarly k.settings s.items F → IsBehindFrom (now_from k.from) k.bytes p [] → IsInside k.bytes p → Going k 0 (stand_at F (course_at first p o) (walk_at looked.seen looked.ins s.items looked.left))
    going_begin o new outputs v c l first next same l_is first_is_ settings counted state events outs early behind inside =
        let along = along_none k F p settings state events outs behind in
        record {
          inputs = inputs;
          ports = ports;
          firsts = firsts;
          outputs = outputs;
          many = new.many;
          touches = wider f.uses;
          taken = map (λ i. []) k.start.ins;
          walked = subst (λ (n : ℕ). Walked k.settings k.start 0 n (map (λ i. []) k.start.ins) (walk_at looked.seen looked.ins s.items looked.left)) (sym first_is_)
              (walked_first k.settings k.start looked s f v (subst (λ c. IsNextWindow c s.items v) same (subst (λ t. IsNextWindow c t v) l_is next)));
          settings_ = settings;
          count_ = counted;
          clock = early;
          idle = record { events = events; outs = outs };
          inside = inside;
          stood = ([], along, λ told q records at. lines_none k.start.ins q records at);
          lines = λ told. (
            [],
            record {
              front = record { ranged = tt; ports = tt; frames = λ q records at. refl; legal = tt; timed = tt };
              behind = behind;
              stands = along.stands;
              settings = settings;
              count = counted ∙ sym (length-scene k);
            },
            λ q records at. lines_none k.start.ins q records at,
            owed_first k.settings (length (scene_of k).records) k.from k.start.seen looked.seen k.outs o new (left_back (slots_of k.start.ins) k.outs k.start.seen inputs looked.seen (uses_touches Ins k.start.seen looked.seen f.uses)),
          );
        }
