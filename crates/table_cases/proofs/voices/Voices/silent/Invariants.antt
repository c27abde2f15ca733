use Rattle.table_cases.proofs.voices.Voices.silent.Given as goal

-- the call counts on the ledger of its blank
abbrev pub ghosts-popped : goal.ghosts-popped
ghosts-popped a = record { name = a.blank.name; parts = a.blank.parts }
