use Rattle.rule_tests.proofs.validation_cases.expect_on.Given as goal

-- The ledger is the blank one.
abbrev pub ghosts-expect_by_steps : goal.ghosts-expect_by_steps
ghosts-expect_by_steps a = record { name = a.ledger.name; parts = a.ledger.parts }
