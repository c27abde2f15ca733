-- The laws are lemmas.
use Rattle.fab_policy.proofs.NamedLemmas.{text_names_journal, lines_spell_entries}
use Rattle.fab_policy.proofs.SpellingLemmas.{lines_are_unique}
use Rattle.fab_policy.proofs.named.journal_is_named.Goals as goal

pub returns-clause-lines : goal.returns-clause-lines
returns-clause-lines c = lines_are_unique

pub returns-clause-journal : goal.returns-clause-journal
returns-clause-journal c = text_names_journal

pub returns-clause-written : goal.returns-clause-written
returns-clause-written c = lines_spell_entries
