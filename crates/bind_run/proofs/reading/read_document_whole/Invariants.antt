use Rattle.bind_run.proofs.reading.read_document_whole.Given as goal

-- The reading's ledger is the blank one.
abbrev pub ghosts-read_whole_counted : goal.ghosts-read_whole_counted
ghosts-read_whole_counted a = record { name = a.ledger.name; parts = a.ledger.parts }
