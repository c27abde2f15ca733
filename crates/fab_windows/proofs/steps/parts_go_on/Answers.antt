use Rattle.fab_windows.proofs.PartLemmas.{part_goes_on}
use Rattle.fab_windows.proofs.steps.parts_go_on.Goals as goal

pub returns : goal.returns
returns c = λ d v w taken batches J part range run next p.
    part_goes_on c.entries_come_in_parts.ensures.followed c.records_come_later.ensures.timed c.journals_go_on.ensures.frames c.journals_go_on.ensures.ticks d v w taken batches J range run next part p
