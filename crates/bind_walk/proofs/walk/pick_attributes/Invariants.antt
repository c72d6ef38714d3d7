use Rattle.std.proofs.Common.{◌≡◌}
use Rattle.std.specs.List.{flat_map}
use Rattle.node_arena.specs.Moves.{is_attribute_of}
use Rattle.bind_walk.specs.Chains.{numbers_from, IsAt, still}
use Rattle.bind_walk.specs.Finds.{put_all}
use Rattle.bind_walk.specs.Walks.{found_attribute, found_attributes}
use Rattle.bind_walk.proofs.walk.pick_attributes.Given as goal

abbrev pub invariant-attributes : goal.invariant-attributes
invariant-attributes g l = record {
  here : IsAt (is_attribute_of l.position.node) l.input.doc.now l.at;
  left : put_all l.finds (flat_map (found_attribute l.input.doc.now l.position.around.now l.row)
      (numbers_from (is_attribute_of l.position.node) l.input.doc.now l.at))
      ≡ put_all l.initial.finds (found_attributes l.input.doc.now l.position.around.now l.position.node l.row);
}

abbrev pub decreases-attributes : goal.decreases-attributes
decreases-attributes g l = still l.input.doc.now l.at
