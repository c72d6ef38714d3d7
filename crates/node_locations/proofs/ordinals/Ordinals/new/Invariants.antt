use Rattle.node_locations.proofs.ordinals.Ordinals.new.Given as goal

-- The steps' ledger is the blank one.
abbrev pub ghosts-ordinals_by : goal.ghosts-ordinals_by
ghosts-ordinals_by a = record { name = a.ledger.name; parts = a.ledger.parts }
