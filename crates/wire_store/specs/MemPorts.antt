-- Devices in memory.
use Rattle.std.specs.Prelude.{ℕ, ◌==◌, if◌then◌else◌, List, [], ◌∷◌, take}
use Rattle.wire_store.specs.declared.mem_ports.MemPorts.{MemPorts}
use Rattle.wire_store.specs.declared.mem_ports.Sent.{Sent}
use Rattle.wire_store.specs.Ports.{Acts}

-- the frames that a port was given
abbrev pub frames_to : ℕ → List Sent → List (List ℕ)
frames_to q [] = []
frames_to q (s ∷ ss) = if s.port == q then s.frame ∷ frames_to q ss else frames_to q ss

abbrev pub acts_of : MemPorts → Acts
acts_of m = record { told = m.told; ports = m.ports; heard = take m.at m.script.items; sent = λ q. frames_to q m.sent.items }
