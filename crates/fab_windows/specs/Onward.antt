-- What the policy can always meet: no legal journal ends because nothing is right after it.
use Rattle.std.specs.Prelude.{◌≡◌, ℕ, ◌^◌, ◌<◌, ◌≤◌, ◌%◌, ◌+◌, nat_lt, IsTrue, IfSome, IsSome, List, [], ◌∷◌, length, Some}
use Rattle.std.specs.List.{AllPass}
use Rattle.fab_base.specs.declared.values.Caught.{Caught}
use Rattle.fab_config.specs.Settings.{Settings, is_in_range}
use Rattle.fab_policy.specs.Journal.{Journal, clock, followed}
use Rattle.fab_policy.specs.Legal.{HasPorts, IsNextTick, Legal, numbered_from, of_port}
use Rattle.fab_policy.specs.Ranged.{IsRanged, IsRangedVerdict}
use Rattle.fab_policy.specs.Standing.{AreFrames}
use Rattle.fab_policy.specs.State.{tables_of}
use Rattle.pcap_file.specs.declared.Record.{Record}
use Rattle.fab_policy.specs.Verdicts.{IsRight}
use Rattle.fab_policy.specs.declared.event.Event.{Event}
use Rattle.fab_policy.specs.declared.event.Event.TheVariants.{Frame, Tick}
use Rattle.fab_policy.specs.declared.verdict.Verdict.{Verdict}

-- After each journal in range some verdict of each frame is right, and in range.
abbrev pub VerdictsExist : Type 0
VerdictsExist = (c : Settings) (J : Journal) (port : ℕ) (caught : Caught) → IsTrue (is_in_range c) → IsRanged J
    → AllPass (λ b. nat_lt b 256) caught.bytes → (v : Verdict) × IsRight c (tables_of c J) port caught v × IsRangedVerdict v

-- On the way to each window that starts above the clock some tick is the next one.
abbrev pub NextTicksExist : Type 0
NextTicksExist = (c : Settings) (J : Journal) (w : ℕ) → IfSome (clock J) (λ t. t < w) → w % c.window ≡ 0 → (m : ℕ) × IsNextTick c J w m

-- ticks one after another, each the next one on the way to a window, the last of them at it
abbrev pub AreTicks : Settings → ℕ → Journal → List Event → Type 0
AreTicks c w J [] = clock J ≡ Some w
AreTicks c w J (Frame port index caught verdict ∷ more) = ⊥
AreTicks c w J (Tick m ended ∷ more) = IsNextTick c J w m × AreTicks c w (Tick m ended ∷ J) more

-- Each legal journal in range goes on by ticks to each window that isn't before its clock.
abbrev pub TicksExist : Type 0
TicksExist = (c : Settings) (J : Journal) (w : ℕ) → IsTrue (is_in_range c) → w % c.window ≡ 0 → w < 2 ^ 64 → IfSome (clock J) (λ t. t ≤ w) → Legal c J → IsRanged J
    → (ticks : List Event) × AreTicks c w J ticks × Legal c (followed J ticks) × IsRanged (followed J ticks)

-- records of a port, numbered from one on: their frames have bytes, and their numbers 64 bits
abbrev pub CanCome : ℕ → List Record → Type 0
CanCome first [] = Unit {0}
CanCome first (r ∷ records) = (first < 2 ^ 64) × AllPass (λ b. nat_lt b 256) r.caught.bytes × CanCome (first + 1) records

-- the same of all ports, with the number of the first record of each
abbrev pub CanComeAll : List ℕ → List (List Record) → Type 0
CanComeAll firsts [] = Unit {0}
CanComeAll [] (batch ∷ batches) = ⊥
CanComeAll (first ∷ firsts) (batch ∷ batches) = CanCome first batch × CanComeAll firsts batches

-- the frames of each port from p on are these records with their numbers
abbrev pub AreHeld : List Event → ℕ → List ℕ → List (List Record) → Type 0
AreHeld frames p firsts [] = Unit {0}
AreHeld frames p [] (batch ∷ batches) = ⊥
AreHeld frames p (first ∷ firsts) (batch ∷ batches) = (of_port p (followed [] frames) ≡ numbered_from first batch) × AreHeld frames (p + 1) firsts batches

-- Frames go on behind a journal: they are the records of these ports, once and in order, each with a right verdict.
pub record IsOnward (c : Settings) (J : Journal) (firsts : List ℕ) (batches : List (List Record)) (later : List Event) : Type 0 where
  pub frames : AreFrames later
  pub ports : HasPorts (length batches) (followed [] later)
  pub held : AreHeld later 1 firsts batches
  pub legal : Legal c (followed J later)
  pub ranged : IsRanged (followed J later)

-- Each legal journal in range that has a tick goes on by whichever records of up to 64 ports.
abbrev pub FramesExist : Type 0
FramesExist = (c : Settings) (J : Journal) (firsts : List ℕ) (batches : List (List Record)) → IsTrue (is_in_range c) → length batches ≤ 64 → CanComeAll firsts batches
    → IsSome (clock J) → Legal c J → IsRanged J → (later : List Event) × IsOnward c J firsts batches later
