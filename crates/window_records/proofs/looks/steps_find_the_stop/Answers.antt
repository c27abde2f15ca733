use Rattle.window_records.proofs.LooksLemmas.{steps_find_stop, late_is_stop}
use Rattle.window_records.proofs.looks.steps_find_the_stop.Goals as goal

pub returns : goal.returns
returns c = record { steps = steps_find_stop; late = late_is_stop }
