use Rattle.std.proofs.Common.{◌∙◌, ap, sym}
use Rattle.std.proofs.lemmas.Result.{on_ok_weaker}
use Rattle.run_files.specs.Pages.{has_full, items_in}
use Rattle.run_files.proofs.PageLemmas.{short_pages, short_nothings}
use Rattle.side_runs.proofs.crossing.write_full.Goals as goal

pub returns-then-not-has_full-clause-short : goal.returns-then-not-has_full-clause-short
returns-then-not-has_full-clause-short g c = short_pages c.args.bridge.now.pages.items (ap has_full (sym c.deref.ensures.value) ∙ sym c.has_full.ensures ∙ c.if-not-has_full.true)

pub returns-clause-short : goal.returns-clause-short
returns-clause-short g c = on_ok_weaker c.write.result (short_nothings (items_in c.write.new.bridge.pages.items)) c.write.ensures.nothing
