-- A sink in memory, as contracts see it.
use Rattle.std.specs.Prelude.{ℕ, true}
use Rattle.fab_base.specs.declared.mem_sink.MemSink.{MemSink}
use Rattle.fab_base.specs.Sunk.{Sunk}

abbrev pub mem_sunk : MemSink → Sunk
mem_sunk s = record { told = true; written = s.items.items; faults = s.faults }

-- how many bytes a sink takes in all
abbrev pub room_of : MemSink → ℕ
room_of s = s.room
