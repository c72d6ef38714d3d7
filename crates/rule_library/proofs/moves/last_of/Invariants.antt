use Rattle.rule_library.proofs.moves.last_of.Given as goal

-- The steps' ledger is the blank one.
abbrev pub ghosts-last_by : goal.ghosts-last_by
ghosts-last_by a = record { name = a.ledger.name; parts = a.ledger.parts }
