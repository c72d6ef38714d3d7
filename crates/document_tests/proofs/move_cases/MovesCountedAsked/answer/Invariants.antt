use Rattle.document_tests.proofs.move_cases.MovesCountedAsked.answer.Given as goal

abbrev pub ghosts-two_steps : goal.ghosts-two_steps
ghosts-two_steps a = record { name = a.ledger.name; parts = a.ledger.parts }
