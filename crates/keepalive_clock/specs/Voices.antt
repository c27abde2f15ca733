-- When two voices are the same.
use Rattle.std.specs.Prelude.{Bool, false, ◌==◌}
use Rattle.fab_base.specs.Fabric.{same_enode}
use Rattle.keepalive_clock.specs.declared.voice.Voice.{Voice}
use Rattle.keepalive_clock.specs.declared.voice.Voice.TheVariants.{Node, Port}

abbrev pub same_voice : Voice → Voice → Bool
same_voice (Node x) (Node y) = same_enode x y
same_voice (Port a) (Port b) = a == b
same_voice (Node x) (Port b) = false
same_voice (Port a) (Node y) = false
