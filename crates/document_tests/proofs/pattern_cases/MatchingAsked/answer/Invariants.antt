use Rattle.document_tests.proofs.pattern_cases.MatchingAsked.answer.Given as goal

abbrev pub ghosts-marked : goal.ghosts-marked
ghosts-marked a = record { name = a.ledger.name; parts = a.ledger.parts }
