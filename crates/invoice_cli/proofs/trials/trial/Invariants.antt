use Rattle.invoice_cli.proofs.trials.trial.Given as goal

-- The ledger is the blank one.
abbrev pub ghosts-trial_by : goal.ghosts-trial_by
ghosts-trial_by g a = record { name = a.ledger.name; parts = a.ledger.parts }
