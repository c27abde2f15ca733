-- What is written of a piece: of the entries that come after a state, as a journal has those that come after nothing.
use Rattle.std.specs.Prelude.{ℕ, List, [], ◌∷◌, ◌++◌}
use Rattle.fab_config.specs.Settings.{Settings}
use Rattle.fab_policy.specs.Growing.{clock_after, records_to}
use Rattle.fab_policy.specs.Journal.{Journal}
use Rattle.fab_policy.specs.Outputs.{State, outputs_by}
use Rattle.fab_policy.specs.Steps.{after}
use Rattle.fab_policy.specs.Text.{line}
use Rattle.fab_states.specs.States.{state_on}

-- the clock after a piece, from the clock before it
abbrev pub clock_on : ℕ → Journal → ℕ
clock_on t [] = t
clock_on t (e ∷ K) = clock_after (clock_on t K) e

-- the lines of a piece, which begin at a clock; the line of the format stands before the first piece alone
unfoldable pub piece_text : ℕ → Journal → List ℕ
piece_text t [] = []
piece_text t (e ∷ K) = piece_text t K ++ line (clock_on t (e ∷ K)) e

-- the records of what a piece sends on a port of a forwarder of n ports; a capture of a piece has a head before them
unfoldable pub piece_records : Settings → ℕ → ℕ → State → Journal → List ℕ
piece_records c n p S [] = []
piece_records c n p S (e ∷ K) =
    let B = state_on c S K in
    piece_records c n p S K ++ records_to p (outputs_by c n B (after c B.tables e) e)
