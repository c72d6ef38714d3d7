use Rattle.document_jobs.proofs.queries.write_answer.Given as goal

-- The ledger is the blank one.
abbrev pub ghosts-write_by : goal.ghosts-write_by
ghosts-write_by g a = record { name = a.ledger.name; parts = a.ledger.parts }
