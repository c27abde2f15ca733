-- What an entry sends follows from the tables before it.
use Rattle.std.specs.Prelude.{◌≡◌, ℕ, List, map, Some}
use Rattle.fab_base.specs.declared.values.Caught.{Caught}
use Rattle.fab_config.specs.Settings.{Settings}
use Rattle.fab_policy.specs.Outputs.{State, notices, outputs_by}
use Rattle.fab_policy.specs.State.{Tables, addresses, now_of, overdue}
use Rattle.fab_policy.specs.Steps.{InPool, after}
use Rattle.fab_policy.specs.declared.event.Event.{Event}
use Rattle.fab_policy.specs.declared.event.Event.TheVariants.{Tick, Frame}
use Rattle.fab_policy.specs.declared.verdict.Verdict.{Verdict}
use Rattle.fab_sending.specs.Message.{frame_at, sent_of}
use Rattle.fab_sending.specs.Messages.{at_moment, frame_messages, tick_messages}
use Rattle.fab_sending.specs.Notices.{notices_of_frame, notices_of_tick}
use Rattle.fab_sending.specs.Sends.{CanFollow}

-- The state changes of a tick that ends the overdue follow from the tables before it.
abbrev pub TicksTell : Type 0
TicksTell = (c : Settings) (T : Tables) (m : ℕ) → InPool c T.ports →
    (let e = Tick m (addresses (overdue c T m)) in notices c T (after c T e) e ≡ notices_of_tick c T m)

-- Those of a frame do too.
abbrev pub FramesTell : Type 0
FramesTell = (c : Settings) (T : Tables) (port index : ℕ) (caught : Caught) (v : Verdict) → InPool c T.ports →
    CanFollow c T port index caught v → (let e = Frame port index caught v in notices c T (after c T e) e ≡ notices_of_frame c T port caught v)

-- The messages of such a tick are what it sends.
abbrev pub TicksSend : Type 0
TicksSend = (c : Settings) (n : ℕ) (S : State) (m : ℕ) (events : List Event) → InPool c S.tables.ports →
    (let e = Tick m (addresses (overdue c S.tables m)) in map (sent_of c events) (at_moment m (tick_messages c n S m)) ≡ outputs_by c n S (after c S.tables e) e)

-- So are those of a frame, which stands in one of the entries.
abbrev pub FramesSend : Type 0
FramesSend = (c : Settings) (n : ℕ) (S : State) (port index entry : ℕ) (caught : Caught) (v : Verdict) (events : List Event) → InPool c S.tables.ports →
    CanFollow c S.tables port index caught v → frame_at entry events ≡ Some caught →
    (let e = Frame port index caught v in
    map (sent_of c events) (at_moment (now_of S.tables) (frame_messages c S port entry caught v)) ≡ outputs_by c n S (after c S.tables e) e)
