-- What comes after a state of a fabric, whatever led to it. The newest entry is the first, as in a journal: `K ++ J` is J
-- followed by K.
use Rattle.std.specs.Prelude.{ℕ, List, [], ◌∷◌, ◌++◌}
use Rattle.fab_config.specs.Settings.{Settings}
use Rattle.fab_policy.specs.Journal.{Journal}
use Rattle.fab_policy.specs.Legal.{IsRightEntry}
use Rattle.fab_policy.specs.Outputs.{State, Sent, outputs_by}
use Rattle.fab_policy.specs.Standing.{state_after}
use Rattle.fab_policy.specs.Steps.{after}

-- what a fabric keeps after entries, from what it kept before them
abbrev pub state_on : Settings → State → Journal → State
state_on c S [] = S
state_on c S (e ∷ K) = state_after c (state_on c S K) e

-- each entry is right after those before it
abbrev pub LegalFrom : Settings → State → Journal → Type 0
LegalFrom c S [] = Unit {0}
LegalFrom c S (e ∷ K) = LegalFrom c S K × IsRightEntry c (state_on c S K).tables e

-- the frames that entries send one after another, at a forwarder of n ports
abbrev pub sent_on : Settings → ℕ → State → Journal → List Sent
sent_on c n S [] = []
sent_on c n S (e ∷ K) =
    let B = state_on c S K in
    sent_on c n S K ++ outputs_by c n B (after c B.tables e) e
