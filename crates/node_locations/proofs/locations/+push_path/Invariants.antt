use Rattle.node_locations.proofs.locations.+push_path.Given as goal

abbrev pub decreases-push_path : goal.decreases-push_path
decreases-push_path g l = l.n
