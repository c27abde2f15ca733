-- What follows of an outcome by the laws of its command.
use Rattle.std.proofs.Common.{◌≡◌, ℕ, zero, suc, ◌⊎◌, inl, inr, IsTrue, Option, Some, None, refl, sym, subst, String}
use Rattle.std.specs.Prelude.{List}
use Rattle.std.specs.declared.alloc.Global.{Global}
use Rattle.fab_base.specs.Seen.{Seen}
use Rattle.fab_base.specs.Sunk.{Sunk}
use Rattle.pcap_file.specs.declared.fault.LimitKind.{LimitKind}
use Rattle.fabric_tool.specs.Command.{Command, Help, command}
use Rattle.fabric_tool.specs.Ends.{Holds, HoldsFor, TakesMemory, Reports, Ends, meaning, KeepsOthers}
use Rattle.fabric_tool.specs.Outcome.{status_of}
use Rattle.fabric_tool.specs.Statuses.{HasFront, HasForms, IsQuiet, Says}
use Rattle.fabric_tool.specs.declared.outcome.Outcome.{Outcome}
use Rattle.fabric_tool.specs.declared.outcome.Outcome.TheVariants as ends
use Rattle.fabric_tool.proofs.CommandLaws.{laws}
use Rattle.fabric_tool.proofs.EndingLemmas.{Said, kept, left, said}
use Rattle.fabric_tool.proofs.Laws.{PrintsAlike}

-- ---- the outcomes of a status

-- which outcomes have a status, where they are of one kind
abbrev Alone : ℕ → Outcome → Type 0
Alone (suc (suc zero)) o = o ≡ ends.Words
Alone (suc (suc (suc zero))) o = o ≡ ends.ReadFault
Alone (suc (suc (suc (suc zero)))) o = o ≡ ends.WriteFault
Alone (suc (suc (suc (suc (suc zero))))) o = o ≡ ends.Memory
Alone (suc (suc (suc (suc (suc (suc zero)))))) o = (kind : LimitKind) × (o ≡ ends.Limit kind)
Alone n o = Unit {0}

alone : (o : Outcome) → Alone (status_of o) o
alone ends.Words = refl
alone ends.ReadFault = refl
alone ends.WriteFault = refl
alone ends.Memory = refl
alone (ends.Limit kind) = (kind, refl)
alone o = tt

pub is_words : (o : Outcome) → 2 ≡ status_of o → o ≡ ends.Words
is_words o is = subst (λ (n : ℕ). Alone n o) (sym is) (alone o)

pub is_read_fault : (o : Outcome) → 3 ≡ status_of o → o ≡ ends.ReadFault
is_read_fault o is = subst (λ (n : ℕ). Alone n o) (sym is) (alone o)

pub is_write_fault : (o : Outcome) → 4 ≡ status_of o → o ≡ ends.WriteFault
is_write_fault o is = subst (λ (n : ℕ). Alone n o) (sym is) (alone o)

pub is_memory : (o : Outcome) → 5 ≡ status_of o → o ≡ ends.Memory
is_memory o is = subst (λ (n : ℕ). Alone n o) (sym is) (alone o)

pub is_limit : (o : Outcome) → 6 ≡ status_of o → (kind : LimitKind) × (o ≡ ends.Limit kind)
is_limit o is = subst (λ (n : ℕ). Alone n o) (sym is) (alone o)

-- no command ends so
pub never_words : (k : Command) (old new : Seen) → Holds k old new ends.Words → ⊥
never_words Help old new h = h
never_words k old new h = h

-- ---- by the laws

module _ (k : Command) (old new : Seen) where
  -- no file but the outputs has changed, whatever the outcome
  pub others_kept : (o : Outcome) → Holds k old new o → KeepsOthers k old new
  others_kept o = kept (meaning k) old new ((meaning k).end old new o)

  pub front_of : IsTrue old.told → (o : Outcome) → Holds k old new o → HasFront k old new
  front_of told o holds = elim (left (meaning k) old new told ((meaning k).end old new o) holds) [
    | inl files ↦ (laws k).same old new files
    | inr written ↦ (laws k).whole old new o written
  ]

  module _ (before after : Sunk) (quiet : IsQuiet k old new before after) where
    answer : (o : Outcome) → Holds k old new o → Said old ((meaning k).end old new o)
    answer o = said (meaning k) old new quiet.reads quiet.writes ((meaning k).end old new o)

    -- a command ends as its inputs say, where nothing fails
    pub said_end : IsTrue old.told → (p : Outcome) → Says k old p → (o : Outcome) → Holds k old new o → PrintsAlike o p ⊎ (o ≡ ends.Memory)
    said_end told p says o holds = (laws k).once old new o p told (answer o holds) says

    -- inputs of the right forms are taken, where nothing fails
    pub done_or_memory : HasForms k old → (o : Outcome) → Holds k old new o → (status_of o ≡ 0) ⊎ (o ≡ ends.Memory)
    done_or_memory forms o holds = (laws k).formed old new o forms (answer o holds)

memory_holds_for : (c : Option Command) (old new : Seen) (o : Outcome) → HoldsFor c old new o → TakesMemory o → HoldsFor c old new ends.Memory
memory_holds_for None old new o holds takes = absurd (subst TakesMemory holds.0 takes)
memory_holds_for (Some k) old new o holds takes = (laws k).spare old new o holds takes

-- an outcome whose cause holds, and what was printed of it
pub ended_as : (words : List (String Global)) (old new : Seen) (before after : Sunk) (status : ℕ) (o : Outcome) → HoldsFor (command words) old new o → Reports o before after status → Ends words old new before after status
ended_as words old new before after status o holds (inl prints) = record { outcome = o; holds = holds; prints = prints }
ended_as words old new before after status o holds (inr (takes, prints)) = record { outcome = ends.Memory; holds = memory_holds_for (command words) old new o holds takes; prints = prints }
