use Rattle.std.proofs.Common.{◌∙◌, sym, ◌<◌, subst}
use Rattle.node_arena.specs.Moves.{tree_nodes, tree_node}
use Rattle.xpath_walks.proofs.WalkLemmas.{apart}
use Rattle.xpath_walks.proofs.walk.is_apart.Goals as goal

pub returns-then-is_no_attribute : goal.returns-then-is_no_attribute
returns-then-is_no_attribute g c =
    let nodes = tree_nodes c.args.doc.now in
    let doc = c.documents_are_walkable.ensures in
    apart (tree_node nodes c.args.n) (tree_node nodes c.args.inner) c.args.n c.is_around.result
    (doc.walkable.counted c.args.n (subst (λ k. c.args.n < k) (sym doc.long) c.requires.within))
    (sym c.is_no_attribute.ensures ∙ c.if-is_no_attribute.true) c.is_around.ensures
