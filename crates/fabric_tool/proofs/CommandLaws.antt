-- The laws of each command.
use Rattle.std.proofs.Common.{◌≡◌, ℕ, ◌⊎◌, ◌++◌, inl, inr, IsTrue, [], refl, sym, ap, ◌∙◌, arith}
use Rattle.std.proofs.lemmas.List.{append-nil}
use Rattle.fab_base.specs.Seen.{Seen, SameFiles}
use Rattle.fab_base.specs.Sunk.{Sunk}
use Rattle.fab_vectors.specs.Making.{file_text}
use Rattle.run_files.specs.declared.fault.RunFault.TheVariants as faults
use Rattle.fabric_tool.specs.Checking.{ReplaySays, ShowSays, replay_ending, show_ending, ReplayEnded, ShowEnded, replay_meaning, show_meaning}
use Rattle.fabric_tool.specs.Command.{RunNames, MakeNames, Command, Run, Replay, Show, Convert, Migrate, Make, Snoop, Enode, Live, Help, Version}
use Rattle.fabric_tool.specs.Ends.{TakesMemory, meaning, Holds}
use Rattle.fabric_tool.specs.Help.{help_text, version_text}
use Rattle.fabric_tool.specs.Left.{HasFrontPart}
use Rattle.fabric_tool.specs.Load.{LOAD, HasLoad, HasLoadFront, MakeEnded, make_ending, make_meaning}
use Rattle.fabric_tool.specs.Outcome.{status_of, line_of, made_text}
use Rattle.fabric_tool.specs.Running.{run_ending, RunEnded, run_meaning}
use Rattle.fabric_tool.specs.Texts.{TextEnded, help_ending, version_ending, help_meaning, version_meaning}
use Rattle.fabric_tool.specs.declared.outcome.Outcome.{Outcome}
use Rattle.fabric_tool.specs.declared.outcome.Outcome.TheVariants as ends
use Rattle.fabric_tool.proofs.EndingLemmas.{Left, Said, IsAnswer, IsClosed, less, nothing}
use Rattle.fabric_tool.proofs.Laws.{Laws, alike}
use Rattle.fabric_tool.proofs.PartLemmas.{ran_part, stopped_part, part_front}
use Rattle.fabric_tool.proofs.FoundLemmas.{run_once, run_formed}
use Rattle.fabric_tool.proofs.LegalLemmas.{only_legal, only_shown}
use Rattle.fabric_tool.proofs.FaultLemmas.{replay_one, show_one}
use Rattle.fabric_tool.proofs.PairLaws.{convert_laws, migrate_laws}
use Rattle.fabric_tool.proofs.SnoopLemmas.{snoop_laws}
use Rattle.fabric_tool.proofs.EnodeLemmas.{enode_laws}
use Rattle.fabric_tool.proofs.LiveExactLemmas.{live_laws}

-- ---- `run`

run_front : (k : RunNames) (old new : Seen) (o : Outcome) → Left (run_ending k old new o) → SameFiles old new ⊎ HasFrontPart k old new
run_front k old new (ends.Ran frames entries) h = inr (ran_part k frames entries old new h)
run_front k old new (ends.Capture port at reason) h = elim h [ inl bad ↦ inl bad.0 | inr stopped ↦ inr (stopped_part k old new (faults.Capture port at reason) stopped) ]
run_front k old new (ends.Limit kind) h = inr (stopped_part k old new (faults.Limit kind) h)
run_front k old new ends.ReadFault h = elim h [ inl config ↦ inl config.0 | inr later ↦ elim later [ inl head ↦ inl head.0 | inr part ↦ inr (part_front k old new part.1) ] ]
run_front k old new ends.WriteFault h = h
run_front k old new ends.Memory h = h
run_front k old new o h = absurd h

run_answered : (k : RunNames) (old new : Seen) (o : Outcome) → Holds (Run k) old new o → TakesMemory o → IsAnswer (run_ending k old new o)
run_answered k old new (ends.Ran frames entries) h takes = tt
run_answered k old new (ends.Config fault) h takes = tt
run_answered k old new (ends.Capture port at reason) h takes = tt
run_answered k old new (ends.Limit kind) h takes = tt
run_answered k old new o h takes = absurd (omega arith)

done_run : (k : RunNames) (old new : Seen) (before after : Sunk) (o : Outcome) → status_of o ≡ 0 → Holds (Run k) old new o → (IsTrue before.told → after.written ≡ before.written ++ line_of o) → IsTrue old.told → RunEnded k old new before after
unfolding line_of
done_run k old new before after (ends.Ran frames entries) is h printed = λ told. record { frames = frames; entries = entries; run = h.1 told; printed = printed }
done_run k old new before after o is h printed = absurd (omega arith)

run_laws : (k : RunNames) → Laws (run_meaning k)
run_laws k = record {
  same = λ old new files. inl files;
  whole = run_front k;
  spare = λ old new o h takes. less (run_meaning k) old new (SameFiles old new ⊎ HasFrontPart k old new) (λ files. inl files) (run_ending k old new o) (run_answered k old new o h takes) (run_front k old new o) h;
  done = done_run k;
  once = λ old new o p told h says. elim (run_once k old new told o p h says) [ inl is ↦ inl (alike o p is) | inr memory ↦ inr memory ];
  formed = λ old new o forms. run_formed k old new forms.told forms o;
}

-- ---- `replay` and `show`

replay_whole : (k : RunNames) (old new : Seen) (o : Outcome) → Left (replay_ending k old new o) → SameFiles old new
replay_whole k old new ends.Memory h = absurd h
replay_whole k old new o h = absurd h

replay_closed : (k : RunNames) (old new : Seen) (o : Outcome) → Holds (Replay k) old new o → TakesMemory o → IsClosed (replay_ending k old new o)
replay_closed k old new (ends.Legal entries) h takes = tt
replay_closed k old new (ends.WrongLine line why) h takes = tt
replay_closed k old new (ends.WrongOutput port at) h takes = tt
replay_closed k old new (ends.Config fault) h takes = tt
replay_closed k old new (ends.Capture port at why) h takes = tt
replay_closed k old new (ends.Limit kind) h takes = tt
replay_closed k old new o h takes = absurd (omega arith)

replay_says : (k : RunNames) (old new : Seen) → IsTrue old.told → (o : Outcome) → Said old (replay_ending k old new o) → ReplaySays k old o ⊎ (o ≡ ends.Memory)
replay_says k old new told (ends.Legal entries) h = inl (h told)
replay_says k old new told (ends.WrongLine line why) h = inl (h told)
replay_says k old new told (ends.WrongOutput port at) h = inl (h told)
replay_says k old new told (ends.Config fault) h = inl (h told)
replay_says k old new told (ends.Capture port at why) h = inl (h told)
replay_says k old new told (ends.Limit kind) h = inl (h told)
replay_says k old new told ends.Memory h = inr refl
replay_says k old new told o h = absurd h

done_replay : (k : RunNames) (old new : Seen) (before after : Sunk) (o : Outcome) → status_of o ≡ 0 → Holds (Replay k) old new o → (IsTrue before.told → after.written ≡ before.written ++ line_of o) → IsTrue old.told → ReplayEnded k old new before after
unfolding line_of
done_replay k old new before after (ends.Legal entries) is h printed = λ told. record { entries = entries; files = h.0; legal = h.1 told; printed = printed }
done_replay k old new before after o is h printed = absurd (omega arith)

replay_laws : (k : RunNames) → Laws (replay_meaning k)
replay_laws k = record {
  same = λ old new files. files;
  whole = replay_whole k;
  spare = λ old new o h takes. nothing (replay_meaning k) old new (replay_ending k old new o) (replay_closed k old new o h takes) h;
  done = done_replay k;
  once = λ old new o p told h says. elim (replay_says k old new told o h) [ inl mine ↦ inl (replay_one k old o p mine says) | inr memory ↦ inr memory ];
  formed = λ old new o forms h. elim (replay_says k old new forms.0 o h) [ inl mine ↦ inl (ap status_of (only_legal k old forms.1 forms.2 o mine)) | inr memory ↦ inr memory ];
}

show_whole : (k : RunNames) (old new : Seen) (o : Outcome) → Left (show_ending k old new o) → SameFiles old new
show_whole k old new ends.Memory h = absurd h
show_whole k old new o h = absurd h

show_closed : (k : RunNames) (old new : Seen) (o : Outcome) → Holds (Show k) old new o → TakesMemory o → IsClosed (show_ending k old new o)
show_closed k old new (ends.WrongLine line why) h takes = tt
show_closed k old new (ends.WrongOutput port at) h takes = tt
show_closed k old new (ends.Config fault) h takes = tt
show_closed k old new (ends.Capture port at why) h takes = tt
show_closed k old new (ends.Limit kind) h takes = tt
show_closed k old new o h takes = absurd (omega arith)

show_says : (k : RunNames) (old new : Seen) → IsTrue old.told → (o : Outcome) → Said old (show_ending k old new o) → ShowSays k old o ⊎ (o ≡ ends.Memory)
show_says k old new told (ends.WrongOutput port at) h = absurd (h told)
show_says k old new told (ends.Shown text) h = inl (h told)
show_says k old new told (ends.WrongLine line why) h = inl (h told)
show_says k old new told (ends.Config fault) h = inl (h told)
show_says k old new told (ends.Capture port at why) h = inl (h told)
show_says k old new told (ends.Limit kind) h = inl (h told)
show_says k old new told ends.Memory h = inr refl
show_says k old new told o h = absurd h

done_show : (k : RunNames) (old new : Seen) (before after : Sunk) (o : Outcome) → status_of o ≡ 0 → Holds (Show k) old new o → (IsTrue before.told → after.written ≡ before.written ++ line_of o) → IsTrue old.told → ShowEnded k old new before after
unfolding line_of
done_show k old new before after (ends.Shown text) is h printed = λ told. record { text = text; files = h.0; shown = h.1 told; printed = printed }
done_show k old new before after o is h printed = absurd (omega arith)

show_laws : (k : RunNames) → Laws (show_meaning k)
show_laws k = record {
  same = λ old new files. files;
  whole = show_whole k;
  spare = λ old new o h takes. nothing (show_meaning k) old new (show_ending k old new o) (show_closed k old new o h takes) h;
  done = done_show k;
  once = λ old new o p told h says. elim (show_says k old new told o h) [ inl mine ↦ inl (show_one k old o p mine says) | inr memory ↦ inr memory ];
  formed = λ old new o forms h. elim (show_says k old new forms.0 o h) [ inl mine ↦ inl (ap status_of (only_shown k old forms.1 forms.2 o mine)) | inr memory ↦ inr memory ];
}

-- ---- `make`

-- the whole load is a front of it
whole_load : (k : MakeNames) (old new : Seen) → HasLoad k new → HasLoadFront k old new
whole_load k old new has q lt = inr (file_text k.number q, has q lt, ([], append-nil (file_text k.number q)))

make_front : (k : MakeNames) (old new : Seen) (o : Outcome) → Left (make_ending k old new o) → HasLoadFront k old new
make_front k old new (ends.Made frames) h = whole_load k old new h
make_front k old new ends.WriteFault h = h
make_front k old new ends.Memory h = h
make_front k old new o h = absurd h

make_answered : (k : MakeNames) (old new : Seen) (o : Outcome) → Holds (Make k) old new o → TakesMemory o → IsAnswer (make_ending k old new o)
make_answered k old new (ends.Made frames) h takes = tt
make_answered k old new o h takes = absurd (omega arith)

done_make : (k : MakeNames) (old new : Seen) (before after : Sunk) (o : Outcome) → status_of o ≡ 0 → Holds (Make k) old new o → (IsTrue before.told → after.written ≡ before.written ++ line_of o) → IsTrue old.told → MakeEnded k new before after
unfolding line_of
done_make k old new before after (ends.Made frames) is h printed = λ told. record { load = h.1.1 told; printed = λ sunk. printed sunk ∙ ap (λ (n : ℕ). before.written ++ made_text n) h.0 }
done_make k old new before after o is h printed = absurd (omega arith)

load_end : (k : MakeNames) (old new : Seen) (o : Outcome) → Said old (make_ending k old new o) → (o ≡ ends.Made LOAD) ⊎ (o ≡ ends.Memory)
load_end k old new (ends.Made frames) h = inl (ap (λ (n : ℕ). ends.Made n) h.0)
load_end k old new ends.Memory h = inr refl
load_end k old new o h = absurd h

make_laws : (k : MakeNames) → Laws (make_meaning k)
make_laws k = record {
  same = λ old new files q lt. inl (files _);
  whole = make_front k;
  spare = λ old new o h takes. less (make_meaning k) old new (HasLoadFront k old new) (λ files q lt. inl (files _)) (make_ending k old new o) (make_answered k old new o h takes) (make_front k old new o) h;
  done = done_make k;
  once = λ old new o p told h says. elim (load_end k old new o h) [ inl is ↦ inl (alike o p (is ∙ sym says)) | inr memory ↦ inr memory ];
  formed = λ old new o forms h. elim (load_end k old new o h) [ inl is ↦ inl (ap status_of is) | inr memory ↦ inr memory ];
}

-- ---- `--help` and `--version`

help_is : (old new : Seen) (o : Outcome) → Said old (help_ending old new o) → o ≡ ends.Help
help_is old new ends.Help h = refl
help_is old new o h = absurd h

help_whole : (old new : Seen) (o : Outcome) → Left (help_ending old new o) → SameFiles old new
help_whole old new ends.Help h = absurd h
help_whole old new o h = absurd h

help_spare : (old new : Seen) (o : Outcome) → Holds Help old new o → TakesMemory o → Holds Help old new ends.Memory
help_spare old new ends.Help h takes = absurd takes
help_spare old new o h takes = absurd h

done_help : (old new : Seen) (before after : Sunk) (o : Outcome) → status_of o ≡ 0 → Holds Help old new o → (IsTrue before.told → after.written ≡ before.written ++ line_of o) → TextEnded help_text old new before after
unfolding line_of
done_help old new before after ends.Help is h printed = record { untouched = h.0; printed = printed }
done_help old new before after o is h printed = absurd h

help_laws : Laws help_meaning
help_laws = record {
  same = λ old new files. files;
  whole = help_whole;
  spare = help_spare;
  done = done_help;
  once = λ old new o p told h says. inl (alike o p (help_is old new o h ∙ sym says));
  formed = λ old new o forms h. inl (ap status_of (help_is old new o h));
}

version_is : (old new : Seen) (o : Outcome) → Said old (version_ending old new o) → o ≡ ends.Version
version_is old new ends.Version h = refl
version_is old new o h = absurd h

version_whole : (old new : Seen) (o : Outcome) → Left (version_ending old new o) → SameFiles old new
version_whole old new ends.Version h = absurd h
version_whole old new o h = absurd h

version_spare : (old new : Seen) (o : Outcome) → Holds Version old new o → TakesMemory o → Holds Version old new ends.Memory
version_spare old new ends.Version h takes = absurd takes
version_spare old new o h takes = absurd h

done_version : (old new : Seen) (before after : Sunk) (o : Outcome) → status_of o ≡ 0 → Holds Version old new o → (IsTrue before.told → after.written ≡ before.written ++ line_of o) → TextEnded version_text old new before after
unfolding line_of
done_version old new before after ends.Version is h printed = record { untouched = h.0; printed = printed }
done_version old new before after o is h printed = absurd h

version_laws : Laws version_meaning
version_laws = record {
  same = λ old new files. files;
  whole = version_whole;
  spare = version_spare;
  done = done_version;
  once = λ old new o p told h says. inl (alike o p (version_is old new o h ∙ sym says));
  formed = λ old new o forms h. inl (ap status_of (version_is old new o h));
}

-- ---- each

pub laws : (k : Command) → Laws (meaning k)
laws (Run k) = run_laws k
laws (Replay k) = replay_laws k
laws (Show k) = show_laws k
laws (Convert k) = convert_laws k
laws (Migrate k) = migrate_laws k
laws (Make k) = make_laws k
laws (Snoop k) = snoop_laws k
laws (Enode k) = enode_laws k
laws (Live k) = live_laws k
laws Help = help_laws
laws Version = version_laws
