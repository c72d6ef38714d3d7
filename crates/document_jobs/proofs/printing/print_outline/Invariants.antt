use Rattle.document_jobs.proofs.printing.print_outline.Given as goal

-- The walk's ledger is the blank one.
abbrev pub ghosts-print_walk : goal.ghosts-print_walk
ghosts-print_walk g a = record { name = a.ledger.name; parts = a.ledger.parts }
