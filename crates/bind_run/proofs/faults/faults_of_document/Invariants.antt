use Rattle.bind_run.proofs.faults.faults_of_document.Given as goal

-- The reading's ledger is the blank one.
abbrev pub ghosts-faults_of_table : goal.ghosts-faults_of_table
ghosts-faults_of_table a = record { name = a.ledger.name; parts = a.ledger.parts }
