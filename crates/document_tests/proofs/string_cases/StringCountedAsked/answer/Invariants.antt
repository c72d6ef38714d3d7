use Rattle.document_tests.proofs.string_cases.StringCountedAsked.answer.Given as goal

abbrev pub ghosts-steps_of_string : goal.ghosts-steps_of_string
ghosts-steps_of_string a = record { name = a.ledger.name; parts = a.ledger.parts }
