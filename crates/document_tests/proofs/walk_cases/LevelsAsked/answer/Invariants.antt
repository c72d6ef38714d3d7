use Rattle.document_tests.proofs.walk_cases.LevelsAsked.answer.Given as goal

abbrev pub ghosts-levels_of : goal.ghosts-levels_of
ghosts-levels_of a = record { name = a.ledger.name; parts = a.ledger.parts }
