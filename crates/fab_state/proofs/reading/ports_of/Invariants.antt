use Rattle.std.proofs.Common.{◌≡◌, ◌++◌, ℕ, List, map, length}
use Rattle.std.specs.Prelude.{flat_map}
use Rattle.fab_policy.specs.State.{LivePort}
use Rattle.fab_pieces.specs.Seam.{login_row, row_text}
use Rattle.fab_state.specs.Readable.{AreReadPorts, NoLogin}
use Rattle.fab_state.proofs.LeftLemmas.{IsLeft}
use Rattle.fab_state.proofs.reading.ports_of.Given as goal

abbrev pub invariant-logins : goal.invariant-logins
invariant-logins l =
    (ports : List LivePort) (more : List ℕ) → AreReadPorts ports → NoLogin more → l.fn.text ≡ flat_map row_text (map login_row ports) ++ more → IsLeft l.ports.items l.rest ports more

abbrev pub decreases-logins : goal.decreases-logins
decreases-logins l = length l.rest
