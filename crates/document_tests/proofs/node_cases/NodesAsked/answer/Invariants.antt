use Rattle.document_tests.proofs.node_cases.NodesAsked.answer.Given as goal

abbrev pub ghosts-nodes_of : goal.ghosts-nodes_of
ghosts-nodes_of a = record { name = a.ledger.name; parts = a.ledger.parts }
