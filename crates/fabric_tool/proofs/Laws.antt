-- What is proved of each command, and what follows of that.
use Rattle.std.proofs.Common.{◌≡◌, ◌⊎◌, ◌++◌, IsTrue, ap}
use Rattle.fab_base.specs.Seen.{Seen, SameFiles}
use Rattle.fab_base.specs.Sunk.{Sunk}
use Rattle.fabric_tool.specs.Ends.{TakesMemory}
use Rattle.fabric_tool.specs.Meaning.{Meaning, EndsAs}
use Rattle.fabric_tool.specs.Outcome.{status_of, line_of}
use Rattle.fabric_tool.specs.declared.outcome.Outcome.{Outcome}
use Rattle.fabric_tool.specs.declared.outcome.Outcome.TheVariants as ends
use Rattle.fabric_tool.proofs.EndingLemmas.{Left, Said}

-- outcomes that print the same
pub record PrintsAlike (o p : Outcome) : Type 0 where
  pub line : line_of o ≡ line_of p
  pub status : status_of o ≡ status_of p

pub alike : (o p : Outcome) → o ≡ p → PrintsAlike o p
alike o p is = record { line = ap line_of is; status = ap status_of is }

-- The laws of a command of this meaning.
pub record Laws (m : Meaning) : Type 0 where
  -- files as they were, and what is left of them, are a front
  pub same : (old new : Seen) → SameFiles old new → m.Front old new
  pub whole : (old new : Seen) (o : Outcome) → Left (m.end old new o) → m.Front old new
  -- want of memory for the line of an outcome says less than that outcome
  pub spare : (old new : Seen) (o : Outcome) → EndsAs m old new o → TakesMemory o → EndsAs m old new ends.Memory
  -- an outcome of status 0 is what its status says
  pub done : (old new : Seen) (before after : Sunk) (o : Outcome) → status_of o ≡ 0 → EndsAs m old new o → (IsTrue before.told → after.written ≡ before.written ++ line_of o) → m.Done old new before after
  -- an outcome is the one that the inputs name, or want of memory
  pub once : (old new : Seen) (o p : Outcome) → IsTrue old.told → Said old (m.end old new o) → m.Says old p → PrintsAlike o p ⊎ (o ≡ ends.Memory)
  -- inputs of the right forms are taken
  pub formed : (old new : Seen) (o : Outcome) → m.Forms old → Said old (m.end old new o) → (status_of o ≡ 0) ⊎ (o ≡ ends.Memory)
