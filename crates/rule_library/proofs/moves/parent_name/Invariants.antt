use Rattle.rule_library.proofs.moves.parent_name.Given as goal

-- The steps' ledger is the blank one.
abbrev pub ghosts-parent_by : goal.ghosts-parent_by
ghosts-parent_by a = record { name = a.ledger.name; parts = a.ledger.parts }
