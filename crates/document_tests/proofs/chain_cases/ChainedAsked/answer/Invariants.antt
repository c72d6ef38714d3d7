use Rattle.document_tests.proofs.chain_cases.ChainedAsked.answer.Given as goal

abbrev pub ghosts-chains_of : goal.ghosts-chains_of
ghosts-chains_of a = record { name = a.ledger.name; parts = a.ledger.parts }
