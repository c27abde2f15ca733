-- One window: the ticks up to it. What it is to handle its frames stands in fab_shared.
use Rattle.std.specs.Prelude.{◌≡◌, ℕ, List, [], ◌∷◌, ◌++◌, Some}
use Rattle.fab_config.specs.Settings.{Settings}
use Rattle.fab_policy.specs.Journal.{Journal, followed, clock}
use Rattle.fab_policy.specs.Legal.{IsNextTick, IsNextTickBy}
use Rattle.fab_policy.specs.Outputs.{State}
use Rattle.fab_policy.specs.Standing.{Contents, state_after}
use Rattle.fab_policy.specs.declared.event.Event.{Event}
use Rattle.fab_policy.specs.declared.event.Event.TheVariants.{Tick, Frame}
use Rattle.fab_states.specs.States.{LegalFrom, sent_on, state_on}
pub use Rattle.fab_shared.specs.Handled.{firsts_of, HandledPort, HoldBatches, Handled}

-- ---- ticks

-- ticks one after another, each the next one on the way to a window, the last of them at it
abbrev pub AreTicksTo : Settings → ℕ → Journal → List Event → Type 0
AreTicksTo c w J [] = clock J ≡ Some w
AreTicksTo c w J (Frame port index caught verdict ∷ more) = ⊥
AreTicksTo c w J (Tick m ended ∷ more) = IsNextTick c J w m × AreTicksTo c w (Tick m ended ∷ J) more

-- the same by what a fabric keeps
abbrev pub AreTicksBy : Settings → ℕ → State → List Event → Type 0
AreTicksBy c w S [] = S.tables.clock ≡ Some w
AreTicksBy c w S (Frame port index caught verdict ∷ more) = ⊥
AreTicksBy c w S (Tick m ended ∷ more) = IsNextTickBy c S w m × AreTicksBy c w (state_after c S (Tick m ended)) more

-- A fabric made the ticks up to a window, each of them right by its own tables.
pub record Ticked (w : ℕ) (F G : Contents) : Type 0 where
  pub settings : G.settings ≡ F.settings
  pub count : G.count ≡ F.count
  pub at_clock : G.state.tables.clock ≡ Some w
  pub ticks : List Event
  pub events : G.events ≡ F.events ++ ticks
  pub are : AreTicksBy F.settings w F.state ticks
  pub legal : LegalFrom F.settings F.state (followed [] ticks)
  pub state : G.state ≡ state_on F.settings F.state (followed [] ticks)
  pub outs : G.outs ≡ F.outs ++ sent_on F.settings F.count F.state (followed [] ticks)

-- Memory was refused on the way: the ticks that were made before are right by its own tables.
pub record TickedPart (F G : Contents) : Type 0 where
  pub settings : G.settings ≡ F.settings
  pub count : G.count ≡ F.count
  pub ticks : List Event
  pub events : G.events ≡ F.events ++ ticks
  pub legal : LegalFrom F.settings F.state (followed [] ticks)
  pub state : G.state ≡ state_on F.settings F.state (followed [] ticks)
  pub outs : G.outs ≡ F.outs ++ sent_on F.settings F.count F.state (followed [] ticks)
