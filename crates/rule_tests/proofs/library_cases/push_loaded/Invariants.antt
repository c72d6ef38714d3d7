use Rattle.rule_tests.proofs.library_cases.push_loaded.Given as goal

-- The ledger is the blank one.
abbrev pub ghosts-push_nodes : goal.ghosts-push_nodes
ghosts-push_nodes a = record { name = a.ledger.name; parts = a.ledger.parts }
