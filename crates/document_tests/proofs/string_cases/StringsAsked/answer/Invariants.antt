use Rattle.document_tests.proofs.string_cases.StringsAsked.answer.Given as goal

abbrev pub ghosts-strings_of : goal.ghosts-strings_of
ghosts-strings_of a = record { name = a.ledger.name; parts = a.ledger.parts }
