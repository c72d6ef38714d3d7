use Rattle.std.proofs.Common.{◌≡◌, drop}
use Rattle.std.specs.List.{flat_map}
use Rattle.bind_walk.specs.Finds.{put_all}
use Rattle.bind_walk.specs.Walks.{found_in_row}
use Rattle.bind_walk.proofs.walk.pick_here.Given as goal

abbrev pub invariant-rows : goal.invariant-rows
invariant-rows g l =
    put_all l.finds (flat_map (found_in_row l.input.doc.now l.position.around.now l.position.node) (drop l.row-index l.rows))
    ≡ put_all l.initial.finds (flat_map (found_in_row l.input.doc.now l.position.around.now l.position.node) l.rows)
