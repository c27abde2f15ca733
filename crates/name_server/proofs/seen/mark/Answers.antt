use Rattle.std.proofs.Common.{◌∙◌, ◌||◌, ap, sym}
use Rattle.sorted_lists.specs.Row.{has}
use Rattle.name_server.proofs.MarkLemmas.{seen_here, seen_nowhere}
use Rattle.name_server.proofs.seen.mark.Goals as goal

pub returns-in-Some-clause-bits : goal.returns-in-Some-clause-bits
returns-in-Some-clause-bits c = λ i. c.put_bit.ensures.bits i
    ∙ ap (λ b. b || has c.args.row.now.items i) (seen_here c.args.seen.now c.requires.ascending c.args.address c.place_at.result c.place_at.ensures c.in-Some.index c.in-Some.is i)

pub returns-in_default-clause-bits : goal.returns-in_default-clause-bits
returns-in_default-clause-bits c = λ i.
    sym (ap (λ b. b || has c.args.row.now.items i) (seen_nowhere c.args.seen.now c.requires.ascending c.args.address c.place_at.result c.place_at.ensures c.in_default.is i))
