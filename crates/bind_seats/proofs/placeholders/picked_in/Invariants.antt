use Rattle.std.proofs.Common.{◌≡◌, ◌++◌, drop}
use Rattle.node_arena.specs.Moves.{tree_nodes}
use Rattle.bind_seats.specs.Placeholders.{marks_of}
use Rattle.bind_seats.proofs.placeholders.picked_in.Given as goal

abbrev pub invariant-picks : goal.invariant-picks
invariant-picks g l =
    l.marks.items ++ marks_of (tree_nodes l.input.doc.now) l.input.rows.now l.terms (drop l.pick-index l.picks)
    ≡ marks_of (tree_nodes l.input.doc.now) l.input.rows.now l.terms l.picks
