use Rattle.rule_library.proofs.moves.next_of.Given as goal

-- The steps' ledger is the blank one.
abbrev pub ghosts-next_by : goal.ghosts-next_by
ghosts-next_by a = record { name = a.ledger.name; parts = a.ledger.parts }
