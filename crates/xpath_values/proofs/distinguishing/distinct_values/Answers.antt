use Rattle.node_arena.specs.Moves.{tree_nodes}
use Rattle.xpath_values.proofs.DistinctLemmas.{atomic_along}
use Rattle.xpath_values.proofs.distinguishing.distinct_values.Goals as goal

pub distinct-requires : goal.distinct-requires
distinct-requires c = atomic_along (tree_nodes c.args.doc.now) c.args.x.now c.in_ok-items.items.items c.deref.result.now c.deref.ensures.value
    c.in_ok-items.ensures.atoms
