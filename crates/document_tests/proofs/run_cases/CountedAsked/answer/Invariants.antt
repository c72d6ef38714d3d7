use Rattle.document_tests.proofs.run_cases.CountedAsked.answer.Given as goal

abbrev pub ghosts-both_counts : goal.ghosts-both_counts
ghosts-both_counts a = record { name = a.ledger.name; parts = a.ledger.parts }
