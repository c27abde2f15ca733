-- A window of which a part was handled, and the run that it goes on to.
use Rattle.std.specs.Prelude.{◌≡◌, ℕ, ◌+◌, ◌<◌, ◌≤◌, ◌^◌, ◌%◌, ◌⊎◌, IsTrue, IfSome, List, [], ◌∷◌, ◌++◌, length, map, take, Some}
use Rattle.fab_config.specs.Settings.{Settings, is_in_range}
use Rattle.fab_policy.specs.Growing.{with_more, AllBelow}
use Rattle.fab_policy.specs.Journal.{Journal, clock, followed}
use Rattle.fab_policy.specs.Legal.{HasPorts, IsNextTick, Legal, numbered_from, of_port}
use Rattle.fab_policy.specs.Ranged.{IsRanged}
use Rattle.fab_policy.specs.Standing.{AreFrames}
use Rattle.fab_policy.specs.declared.event.Event.{Event}
use Rattle.fab_policy.specs.declared.event.Event.TheVariants.{Tick, Frame}
use Rattle.pcap_file.specs.declared.Record.{Record}
use Rattle.window_records.specs.Laws.{AllIn, HasSome}
use Rattle.fab_windows.specs.Onward.{CanComeAll}
use Rattle.fab_windows.specs.Files.{GoesOn}
use Rattle.fab_windows.specs.Run.{IsRunOver}

-- ticks one after another, each the next one on the way to a window
abbrev pub AreTicksOn : Settings → ℕ → Journal → List Event → Type 0
AreTicksOn c w J [] = Unit {0}
AreTicksOn c w J (Frame port index caught verdict ∷ more) = ⊥
AreTicksOn c w J (Tick m ended ∷ more) = IsNextTick c J w m × AreTicksOn c w (Tick m ended ∷ J) more

-- the frames of each port from p on are the first of these records, with their numbers
abbrev pub HoldFirsts : List Event → ℕ → List ℕ → List (List Record) → Type 0
HoldFirsts frames p firsts [] = Unit {0}
HoldFirsts frames p [] (batch ∷ batches) = ⊥
HoldFirsts frames p (first ∷ firsts) (batch ∷ batches) =
    (of_port p (followed [] frames) ≡ numbered_from first (take (length (of_port p (followed [] frames))) batch)) × HoldFirsts frames (p + 1) firsts batches

-- A part of a window was handled behind a journal: ticks on the way to it, or all of them and then frames of it, of each port the
-- first ones.
pub record IsPart (c : Settings) (w : ℕ) (firsts : List ℕ) (batches : List (List Record)) (J : Journal) (part : List Event) : Type 0 where
  pub ticks : List Event
  pub frames : List Event
  pub both : part ≡ ticks ++ frames
  pub are_ticks : AreTicksOn c w J ticks
  pub within : IfSome (clock (followed J ticks)) (λ t. t ≤ w)
  pub order : (frames ≡ []) ⊎ (clock (followed J ticks) ≡ Some w)
  pub are_frames : AreFrames frames
  pub ports : HasPorts (length batches) (followed [] frames)
  pub held : HoldFirsts frames 1 firsts batches
  pub legal : Legal c (followed J part)
  pub ranged : IsRanged (followed J part)

-- What a window is to be that comes behind a run over earlier records.
pub record IsNext (c : Settings) (v w : ℕ) (taken batches : List (List Record)) : Type 0 where
  pub width : length batches ≡ length taken
  pub few : length taken ≤ 64
  pub below : AllBelow c v taken
  pub soon : v ≤ w + 1
  pub own : AllIn c w batches
  pub some : HasSome batches
  pub start : w % c.window ≡ 0
  pub range : w < 2 ^ 64
  pub can : CanComeAll (map (λ records. length records) taken) batches

-- A run over the records of all earlier windows and a part of the next window go on to a run over all records of that window too.
abbrev pub PartsGoOn : Type 0
PartsGoOn =
    (c : Settings) (v w : ℕ) (taken batches : List (List Record)) (J : Journal) (part : List Event) → IsTrue (is_in_range c) → IsRunOver c taken J → IsNext c v w taken batches
    → IsPart c w (map (λ records. length records) taken) batches J part → (K : Journal) × GoesOn (followed J part) K × IsRunOver c (with_more taken batches) K
