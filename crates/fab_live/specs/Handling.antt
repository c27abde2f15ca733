-- What handling one frame makes.
use Rattle.std.specs.Prelude.{◌≡◌, ℕ, ◌+◌, List, [], ◌∷◌, map}
use Rattle.pcap_file.specs.declared.Record.{Record}
use Rattle.fab_policy.specs.Journal.{frame_count}
use Rattle.fab_policy.specs.Standing.{Contents, drained}
use Rattle.fab_policy.specs.declared.event.Event.{Event}
use Rattle.fab_sending.specs.Message.{sent_of}
use Rattle.fab_sending.specs.declared.message.Out.{Out}
use Rattle.forward_core.specs.Fabric.{AreRanged}
use Rattle.fab_shared.specs.Handled.{HandledPort}
use Rattle.fab_windows.specs.Window.{Ticked}

-- A fabric made the ticks up to a window, handled one record of a port, which has this index, and handed out what both made.
pub record HandlesOne (w port index : ℕ) (r : Record) (F E : Contents) (events : List Event) (outs : List Out) : Type 0 where
  pub ticked : Contents
  pub handled : Contents
  pub ticks : Ticked w F ticked
  pub frame : HandledPort port index (r ∷ []) ticked handled
  pub one : frame_count handled.events ≡ frame_count ticked.events + 1
  pub after : E ≡ drained handled
  pub events_ : events ≡ handled.events
  pub outs_ : map (sent_of handled.settings handled.events) outs ≡ handled.outs
  pub ranged : AreRanged handled.events
