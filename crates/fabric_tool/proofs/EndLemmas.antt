-- What each status says, of a call that ended.
use Rattle.std.proofs.Common.{◌≡◌, ℕ, ◌⊎◌, inl, inr, IsTrue, List, ◌++◌, length, Option, Some, None, refl, sym, ap, ◌∙◌, subst, arith, String}
use Rattle.std.proofs.lemmas.List.{take_all}
use Rattle.std.specs.declared.alloc.Global.{Global}
use Rattle.fab_base.specs.Seen.{Seen, Rose}
use Rattle.fab_base.specs.Sunk.{Sunk}
use Rattle.fabric_tool.specs.Command.{Command, command}
use Rattle.fabric_tool.specs.Ends.{Holds, HoldsFor, Prints, Puts, Ends, KeepsOthers}
use Rattle.fabric_tool.specs.Outcome.{status_of, line_of}
use Rattle.fabric_tool.specs.Texts.{IsUntouched}
use Rattle.fabric_tool.specs.Rechecking.{IsRechecked, IsReplayed}
use Rattle.fabric_tool.specs.Statuses.{Done, OfCommand, IsRefused, IsPastLimit, HasFront, IsComplete, IsNamed, Printed}
use Rattle.fabric_tool.specs.declared.outcome.Outcome.{Outcome}
use Rattle.fabric_tool.specs.declared.outcome.Outcome.TheVariants as ends
use Rattle.fabric_tool.proofs.RecheckLemmas.{recheck_complete, replay_complete}
use Rattle.fabric_tool.proofs.CauseLemmas.{is_words, is_read_fault, is_write_fault, is_memory, is_limit, never_words, others_kept, done_or_memory, front_of, said_end}
use Rattle.fabric_tool.proofs.CommandLaws.{laws}

-- a line that was printed whole, with its status
abbrev Whole : Outcome → Sunk → Sunk → ℕ → Type 0
Whole o before after status = (status ≡ status_of o) × (IsTrue before.told → after.written ≡ before.written ++ line_of o)

-- the status of an outcome, or 4 by a fault of the sink
status_is : (o : Outcome) (before after : Sunk) (status : ℕ) → Prints o before after status → (status ≡ status_of o) ⊎ ((status ≡ 4) × Rose before.faults after.faults)
status_is o before after status (inl p) = inl p.0
status_is o before after status (inr p) = inr (p.0, p.1)

module _ (words : List (String Global)) (old new : Seen) (before after : Sunk) (status : ℕ) (e : Ends words old new before after status) where
  -- what follows of words that are no command, of each command with its outcome, and of a fault of the sink
  by_command : (P : Type 0) → ((k : Command) → command words ≡ Some k → (o : Outcome) → Holds k old new o → Whole o before after status → P) → (status ≡ 2 → P) → (status ≡ 4 → Rose before.faults after.faults → P) → P
  by_command P f w g = go (command words) refl e.outcome e.holds e.prints
    where
      go : (c : Option Command) → command words ≡ c → (o : Outcome) → HoldsFor c old new o → Prints o before after status → P
      go c is o holds (inr p) = g p.0 p.1
      go None is o holds (inl p) = w (p.0 ∙ ap status_of holds.0)
      go (Some k) is o holds (inl p) = f k is o holds p

  pub done : status ≡ 0 → OfCommand words (λ k. Done k old new before after)
  done none = by_command (OfCommand words (λ k. Done k old new before after))
      (λ k is o holds w. record { k = k; is = is; holds = (laws k).done old new before after o (sym w.0 ∙ none) holds w.1 })
      (λ two. absurd (omega arith))
      (λ four rose. absurd (omega arith))

  pub refused : status ≡ 1 → OfCommand words (λ k. IsRefused k old new)
  refused one = by_command (OfCommand words (λ k. IsRefused k old new))
      (λ k is o holds w. record { k = k; is = is; holds = (o, sym w.0 ∙ one, holds) })
      (λ two. absurd (omega arith))
      (λ four rose. absurd (omega arith))

  pub no_words : status ≡ 2 → (command words ≡ None) × IsUntouched old new
  no_words two = go (command words) refl e.outcome e.holds e.prints
    where
      go : (c : Option Command) → command words ≡ c → (o : Outcome) → HoldsFor c old new o → Prints o before after status → (command words ≡ None) × IsUntouched old new
      go c is o holds (inr p) = let four = p.0 in absurd (omega arith)
      go None is o holds (inl p) = (is, holds.1)
      go (Some k) is o holds (inl p) = absurd (never_words k old new (subst (Holds k old new) (is_words o (sym two ∙ p.0)) holds))

  pub read_failed : status ≡ 3 → OfCommand words (λ k. Holds k old new ends.ReadFault)
  read_failed three = by_command (OfCommand words (λ k. Holds k old new ends.ReadFault))
      (λ k is o holds w. record { k = k; is = is; holds = subst (Holds k old new) (is_read_fault o (sym three ∙ w.0)) holds })
      (λ two. absurd (omega arith))
      (λ four rose. absurd (omega arith))

  pub write_failed : status ≡ 4 → Rose before.faults after.faults ⊎ OfCommand words (λ k. Holds k old new ends.WriteFault)
  write_failed four = by_command (Rose before.faults after.faults ⊎ OfCommand words (λ k. Holds k old new ends.WriteFault))
      (λ k is o holds w. inr (record { k = k; is = is; holds = subst (Holds k old new) (is_write_fault o (sym four ∙ w.0)) holds }))
      (λ two. absurd (omega arith))
      (λ four rose. inl rose)

  pub memory_refused : status ≡ 5 → OfCommand words (λ k. Holds k old new ends.Memory)
  memory_refused five = by_command (OfCommand words (λ k. Holds k old new ends.Memory))
      (λ k is o holds w. record { k = k; is = is; holds = subst (Holds k old new) (is_memory o (sym five ∙ w.0)) holds })
      (λ two. absurd (omega arith))
      (λ four rose. absurd (omega arith))

  pub past_limit : status ≡ 6 → OfCommand words (λ k. IsPastLimit k old new)
  past_limit six = by_command (OfCommand words (λ k. IsPastLimit k old new))
      (λ k is o holds w. let l = is_limit o (sym six ∙ w.0) in record { k = k; is = is; holds = (l.0, subst (Holds k old new) l.1 holds) })
      (λ two. absurd (omega arith))
      (λ four rose. absurd (omega arith))

  -- of words that are this command
  of_command : (k : Command) → command words ≡ Some k → Holds k old new e.outcome
  of_command k is = subst (λ c. HoldsFor c old new e.outcome) is e.holds

  pub completed : IsComplete words old new before after → (status ≡ 0) ⊎ (status ≡ 5)
  completed x = elim (status_is e.outcome before after status e.prints) [
    | inr sink ↦ absurd (x.quiet.sink sink.1)
    | inl is ↦ elim (done_or_memory x.k old new before after x.quiet x.forms e.outcome (of_command x.k x.is)) [
      | inl none ↦ inl (is ∙ none)
      | inr memory ↦ inr (is ∙ ap status_of memory)
    ]
  ]

  -- what a `run` wrote is taken
  pub rechecked : IsRechecked words old new before after → (status ≡ 0) ⊎ (status ≡ 5)
  rechecked x = completed (recheck_complete words old new before after x)

  -- what a `live` recorded is taken
  pub replayed : IsReplayed words old new before after → (status ≡ 0) ⊎ (status ≡ 5)
  replayed x = completed (replay_complete words old new before after x)

  -- words that are no command
  pub no_command : command words ≡ None → ¬ Rose before.faults after.faults → status ≡ 2
  no_command none quiet = elim (status_is e.outcome before after status e.prints) [
    | inl is ↦ is ∙ ap status_of (subst (λ c. HoldsFor c old new e.outcome) none e.holds).0
    | inr sink ↦ absurd (quiet sink.1)
  ]

  pub fronts : IsTrue old.told → (k : Command) → command words ≡ Some k → HasFront k old new
  fronts told k is = front_of k old new told e.outcome (of_command k is)

  pub others : (k : Command) → command words ≡ Some k → KeepsOthers k old new
  others k is = others_kept k old new e.outcome (of_command k is)

  pub exactly : (p : Outcome) → IsNamed words p old new before after → Prints p before after status ⊎ (status ≡ 5)
  exactly p x = elim (said_end x.k old new before after x.quiet x.told p x.says e.outcome (of_command x.k x.is)) [
    | inl is ↦ inl (subst (λ l. Puts l (status_of p) before after status) is.line (subst (λ (n : ℕ). Puts (line_of e.outcome) n before after status) is.status e.prints))
    | inr memory ↦ elim (status_is e.outcome before after status e.prints) [
      | inl five ↦ inr (five ∙ ap status_of memory)
      | inr sink ↦ absurd (x.quiet.sink sink.1)
    ]
  ]

  -- what was printed is the line of the outcome, or a front of it
  pub is_printed : IsTrue before.told → Printed words old new before after status
  is_printed told = go e.outcome e.holds e.prints
    where
      go : (o : Outcome) → HoldsFor (command words) old new o → Prints o before after status → Printed words old new before after status
      go o holds (inl p) = record {
        outcome = o;
        holds = holds;
        count = length (line_of o);
        front = p.1 told ∙ ap (λ l. before.written ++ l) (sym (take_all (length (line_of o)) (line_of o) (omega arith)));
        whole = λ quiet. (omega arith, p.0);
      }
      go o holds (inr p) = record { outcome = o; holds = holds; count = (p.2 told).0; front = (p.2 told).1; whole = λ quiet. absurd (quiet p.1) }
