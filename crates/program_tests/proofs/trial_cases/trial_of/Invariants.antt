use Rattle.program_tests.proofs.trial_cases.trial_of.Given as goal

-- The ledger is the blank one.
abbrev pub ghosts-counted : goal.ghosts-counted
ghosts-counted a = record { name = a.ledger.name; parts = a.ledger.parts }
