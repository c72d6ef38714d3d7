use Rattle.document_tests.proofs.node_cases.text_of.Given as goal

abbrev pub ghosts-child_of_root : goal.ghosts-child_of_root
ghosts-child_of_root a = record { name = a.ledger.name; parts = a.ledger.parts }
