use Rattle.fab_replay.proofs.ShowLemmas.{shown_in, shown_on}
use Rattle.fab_replay.proofs.showing.write_shown.Goals as goal

pub returns-clause-ok : goal.returns-clause-ok
returns-clause-ok c = shown_on c.args.fabric.now c.args.entries c.lines_of.result c.append_made.result c.args.out.now.items c.append_made.new.out.items c.legal_journals.ensures.ascend c.append_made.ensures.ok c.append_made.ensures.refused c.lines_of.ensures

pub returns-clause-state : goal.returns-clause-state
returns-clause-state c = shown_in c.args.fabric.now.state.tables c.args.entries c.lines_of.result c.append_made.result c.args.out.now.items c.append_made.new.out.items c.append_made.ensures.ok c.append_made.ensures.refused c.lines_of.ensures
