-- Under which other configuration a session may go on: one with more activations, later than the clock, of zone sets that are there.
use Rattle.std.specs.Prelude.{◌≡◌, ℕ, ◌<◌, ◌≤◌, List, ◌++◌, length}
use Rattle.std.specs.List.{AllByRecursion}
use Rattle.fab_config.specs.Settings.{Settings}
use Rattle.fab_config.specs.declared.Activation.{Activation}
use Rattle.pcap_file.specs.declared.Record.{Record}
use Rattle.fab_policy.specs.Journal.{Journal}
use Rattle.fab_policy.specs.Legal.{has_activation}
use Rattle.fab_policy.specs.Rules.{joined}
use Rattle.fab_policy.specs.State.{Tables, now_of}
use Rattle.fab_states.specs.Runs.{RunFrom, counts_on}
use Rattle.fab_states.specs.States.{state_on}
use Rattle.fab_pieces.specs.Restored.{CanRestore}
use Rattle.fab_pieces.specs.Seam.{IsRangedSeam, Seam}
use Rattle.fab_state.specs.Fit.{IsFit}

-- an activation is later than a moment, and of one of so many sets
pub record IsLater (now sets : ℕ) (a : Activation) : Type 0 where
  pub moment : now < a.moment
  pub set : a.set < sets

-- A session that stands at a moment may go on under another configuration: it has more activations behind those that were there,
-- each later and of a set that is there, and all else is the same.
pub record GoesOnUnder (now : ℕ) (c d : Settings) : Type 0 where
  pub more : List Activation
  pub later : AllByRecursion (IsLater now (length c.sets)) more
  pub same : d ≡ record c { activations = c.activations ++ more }

-- ---- the laws

-- Up to that moment nobody sees a difference: the same names are joined, and the same activations were there.
abbrev pub EarlierIsSame : Type 0
EarlierIsSame =
    (now : ℕ) (c d : Settings) (T : Tables) (x y after at : ℕ) → GoesOnUnder now c d → now_of T ≤ now → at ≤ now
    → (joined d T x y ≡ joined c T x y) × (has_activation d.activations after at ≡ has_activation c.activations after at)

-- A seam that fits the one fits the other.
abbrev pub SeamsGoOn : Type 0
SeamsGoOn = (c d : Settings) (n : ℕ) (s : Seam) → GoesOnUnder (now_of s.state.tables) c d → IsFit c n s → IsFit d n s

-- What a run under the other configuration leaves, from a seam that fits the first, can be restored under the other.
abbrev pub RunsGoOn : Type 0
RunsGoOn =
    (c d : Settings) (n : ℕ) (s t : Seam) (ins : List (List Record)) (K : Journal) → GoesOnUnder (now_of s.state.tables) c d → IsFit c n s → IsRangedSeam s
    → length ins ≡ n → RunFrom d s.state s.nexts ins K → t.state ≡ state_on d s.state K → t.nexts ≡ counts_on s.nexts ins
    → now_of t.state.tables ≤ t.greatest → IsRangedSeam t → CanRestore d n t
