use Rattle.node_locations.proofs.locations.push_location.Given as goal

-- The steps' ledger is the blank one.
abbrev pub ghosts-push_path_by : goal.ghosts-push_path_by
ghosts-push_path_by a = record { name = a.ledger.name; parts = a.ledger.parts }
