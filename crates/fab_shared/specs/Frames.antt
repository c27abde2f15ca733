-- What the lock knows of a fabric: its entries of frames, and whose they are.
use Rattle.std.specs.Prelude.{ℕ, List, [], ◌∷◌}
use Rattle.fab_policy.specs.declared.event.Event.{Event}
use Rattle.fab_policy.specs.declared.event.Event.TheVariants.{Tick, Frame}

-- the entries of frames, in order
abbrev pub frames_of : List Event → List Event
frames_of [] = []
frames_of (Tick m ended ∷ more) = frames_of more
frames_of (Frame port index caught verdict ∷ more) = Frame port index caught verdict ∷ frames_of more

-- the port of an entry; a tick has none
abbrev pub port_of_event : Event → ℕ
port_of_event (Tick m ended) = 0
port_of_event (Frame port index caught verdict) = port
