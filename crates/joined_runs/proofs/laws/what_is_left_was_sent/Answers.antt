use Rattle.joined_runs.proofs.SentLemmas.{run_sends, snoop_sends, enode_sends}
use Rattle.joined_runs.proofs.laws.what_is_left_was_sent.Goals as goal

pub returns-clause-run : goal.returns-clause-run
returns-clause-run c = run_sends

pub returns-clause-snoop : goal.returns-clause-snoop
returns-clause-snoop c = snoop_sends c.enodes_are_apart.ensures

pub returns-clause-enode : goal.returns-clause-enode
returns-clause-enode c = enode_sends
