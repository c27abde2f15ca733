use Rattle.std.proofs.Common.{sym, subst}
use Rattle.fab_replay.specs.Lines.{IsOfLine}
use Rattle.fab_replay.specs.Steps.{IsFound, Left}
use Rattle.fab_replay.proofs.EndLemmas.{end_of_line, fault_behind}
use Rattle.fab_replay.proofs.RemainLemmas.{stays_at_end}
use Rattle.fab_replay.proofs.check.check_end.Goals as goal

pub returns-clause-checks : goal.returns-clause-checks
returns-clause-checks c = λ x J F same none h left unexpected.
    subst (IsFound x) (sym c.fault_behind.ensures)
    (fault_behind x J F c.args.place.now h none left unexpected c.next_line-next.new.place c.next_line-next.result same c.if-is_end.ensures c.next_line-next.ensures.line c.next_line-next.ensures.unread)

pub returns-clause-left : goal.returns-clause-left
returns-clause-left c = λ x told J F same h unexpected.
    subst (Left x told F) (sym c.fault_behind.ensures) (stays_at_end x told J F c.args.place.now h c.next_line-next.new.place c.next_line-next.result same unexpected c.next_line-next.ensures.unread)

pub returns-clause-only : goal.returns-clause-only
returns-clause-only c = subst IsOfLine (sym c.fault_behind.ensures) (end_of_line c.args.place.now c.next_line-next.result c.next_line-next.ensures.only)
