-- What entries make of a fabric, said by what it kept before them and not by a journal.
use Rattle.std.specs.Prelude.{◌≡◌, List, [], ◌++◌, refl}
use Rattle.std.proofs.Common.{sym}
use Rattle.std.proofs.lemmas.List.{append-nil}
use Rattle.fab_policy.specs.Journal.{followed}
use Rattle.fab_policy.specs.Standing.{AreFrames, Contents}
use Rattle.fab_policy.specs.declared.event.Event.{Event}
use Rattle.fab_states.specs.States.{LegalFrom, sent_on, state_on}

-- A fabric took entries, the oldest first, each of them right by its own tables.
pub record Went (F : Contents) (es : List Event) (G : Contents) : Type 0 where
  pub settings : G.settings ≡ F.settings
  pub count : G.count ≡ F.count
  pub events : G.events ≡ F.events ++ es
  pub legal : LegalFrom F.settings F.state (followed [] es)
  pub state : G.state ≡ state_on F.settings F.state (followed [] es)
  pub outs : G.outs ≡ F.outs ++ sent_on F.settings F.count F.state (followed [] es)

-- A fabric grew out of another by frames alone.
pub record Grown (first F : Contents) : Type 0 where
  pub settings : F.settings ≡ first.settings
  pub count : F.count ≡ first.count
  pub clock : F.state.tables.clock ≡ first.state.tables.clock
  pub later : List Event
  pub frames : AreFrames later
  pub events : F.events ≡ first.events ++ later
  pub legal : LegalFrom first.settings first.state (followed [] later)
  pub state : F.state ≡ state_on first.settings first.state (followed [] later)
  pub outs : F.outs ≡ first.outs ++ sent_on first.settings first.count first.state (followed [] later)

-- A fabric grew out of itself.
pub grown_of_itself : (F : Contents) → Grown F F
grown_of_itself F = record {
  settings = refl;
  count = refl;
  clock = refl;
  later = [];
  frames = tt;
  events = sym (append-nil F.events);
  legal = tt;
  state = refl;
  outs = sym (append-nil F.outs);
}
