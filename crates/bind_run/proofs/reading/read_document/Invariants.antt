use Rattle.bind_run.proofs.reading.read_document.Given as goal

-- The reading's ledger is the blank one.
abbrev pub ghosts-read_counted : goal.ghosts-read_counted
ghosts-read_counted a = record { name = a.ledger.name; parts = a.ledger.parts }
