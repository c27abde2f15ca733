use Rattle.fabric_tool.proofs.EndLemmas.{done, refused, no_words, no_command, read_failed, write_failed, memory_refused, past_limit, others, completed, rechecked, replayed, fronts, exactly, is_printed}
use Rattle.fabric_tool.proofs.tool.fabric_tool.Goals as goal

pub returns-clause-done : goal.returns-clause-done
returns-clause-done g c = done c.args.words.now _ _ _ _ c.run_and_report-status.result c.run_and_report-status.ensures.ends

pub returns-clause-refused : goal.returns-clause-refused
returns-clause-refused g c = refused c.args.words.now _ _ _ _ c.run_and_report-status.result c.run_and_report-status.ensures.ends

pub returns-clause-words : goal.returns-clause-words
returns-clause-words g c = no_words c.args.words.now _ _ _ _ c.run_and_report-status.result c.run_and_report-status.ensures.ends

pub returns-clause-no_command : goal.returns-clause-no_command
returns-clause-no_command g c = no_command c.args.words.now _ _ _ _ c.run_and_report-status.result c.run_and_report-status.ensures.ends

pub returns-clause-read : goal.returns-clause-read
returns-clause-read g c = read_failed c.args.words.now _ _ _ _ c.run_and_report-status.result c.run_and_report-status.ensures.ends

pub returns-clause-write : goal.returns-clause-write
returns-clause-write g c = write_failed c.args.words.now _ _ _ _ c.run_and_report-status.result c.run_and_report-status.ensures.ends

pub returns-clause-memory : goal.returns-clause-memory
returns-clause-memory g c = memory_refused c.args.words.now _ _ _ _ c.run_and_report-status.result c.run_and_report-status.ensures.ends

pub returns-clause-limit : goal.returns-clause-limit
returns-clause-limit g c = past_limit c.args.words.now _ _ _ _ c.run_and_report-status.result c.run_and_report-status.ensures.ends

pub returns-clause-others : goal.returns-clause-others
returns-clause-others g c = others c.args.words.now _ _ _ _ c.run_and_report-status.result c.run_and_report-status.ensures.ends

pub returns-clause-front : goal.returns-clause-front
returns-clause-front g c = fronts c.args.words.now _ _ _ _ c.run_and_report-status.result c.run_and_report-status.ensures.ends

pub returns-clause-complete : goal.returns-clause-complete
returns-clause-complete g c = completed c.args.words.now _ _ _ _ c.run_and_report-status.result c.run_and_report-status.ensures.ends

pub returns-clause-rechecked : goal.returns-clause-rechecked
returns-clause-rechecked g c = rechecked c.args.words.now _ _ _ _ c.run_and_report-status.result c.run_and_report-status.ensures.ends

pub returns-clause-replayed : goal.returns-clause-replayed
returns-clause-replayed g c = replayed c.args.words.now _ _ _ _ c.run_and_report-status.result c.run_and_report-status.ensures.ends

pub returns-clause-exact : goal.returns-clause-exact
returns-clause-exact g c = exactly c.args.words.now _ _ _ _ c.run_and_report-status.result c.run_and_report-status.ensures.ends

pub returns-clause-printed : goal.returns-clause-printed
returns-clause-printed g c = is_printed c.args.words.now _ _ _ _ c.run_and_report-status.result c.run_and_report-status.ensures.ends
