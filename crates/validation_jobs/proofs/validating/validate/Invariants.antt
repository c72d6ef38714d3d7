use Rattle.validation_jobs.proofs.validating.validate.Given as goal

-- The ledger is the blank one.
abbrev pub ghosts-validate_by : goal.ghosts-validate_by
ghosts-validate_by g a = record { name = a.ledger.name; parts = a.ledger.parts }
