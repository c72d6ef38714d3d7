use Rattle.rule_library.proofs.moves.level_of.Given as goal

-- The steps' ledger is the blank one.
abbrev pub ghosts-level_by : goal.ghosts-level_by
ghosts-level_by a = record { name = a.ledger.name; parts = a.ledger.parts }
