-- One mark for each node, in document order, and nodes that are marked. No public clause cites it.
use Rattle.std.specs.Prelude.{ℕ, ◌+◌, Bool, ◌||◌, List, [], ◌∷◌}
use Rattle.inv_base.specs.Tree.{is_among}

-- the marks of the nodes from one number on, these marked too
abbrev pub mark_from : ℕ → List Bool → List ℕ → List Bool
mark_from k [] ns = []
mark_from k (mark ∷ marks) ns = (mark || is_among k ns) ∷ mark_from (k + 1) marks ns

abbrev pub mark_all : List Bool → List ℕ → List Bool
mark_all marks ns = mark_from 0 marks ns
