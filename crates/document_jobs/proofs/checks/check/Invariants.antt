use Rattle.document_jobs.proofs.checks.check.Given as goal

-- The ledger is the blank one.
abbrev pub ghosts-check_by : goal.ghosts-check_by
ghosts-check_by g a = record { name = a.ledger.name; parts = a.ledger.parts }
