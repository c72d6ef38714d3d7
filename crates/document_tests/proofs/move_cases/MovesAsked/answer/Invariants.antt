use Rattle.document_tests.proofs.move_cases.MovesAsked.answer.Given as goal

abbrev pub ghosts-moves_of : goal.ghosts-moves_of
ghosts-moves_of a = record { name = a.ledger.name; parts = a.ledger.parts }
