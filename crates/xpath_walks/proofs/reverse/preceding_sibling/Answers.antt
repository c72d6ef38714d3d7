use Rattle.std.proofs.Common.{◌<◌, ◌∙◌, length, subst, sym}
use Rattle.std.specs.declared.alloc.AllocError.{AllocError}
use Rattle.std.proofs.lemmas.Bool.{not-false}
use Rattle.node_arena.specs.Moves.{tree_nodes, tree_node, is_attribute}
use Rattle.xpath_grammar.specs.declared.step.Axis.TheVariants as a
use Rattle.xpath_walks.specs.Walks.{found_on}
use Rattle.xpath_walks.proofs.ForwardLemmas.{adds_none}
use Rattle.xpath_walks.proofs.ReverseLemmas.{outermost_alone, attribute_alone}
use Rattle.xpath_walks.proofs.reverse.preceding_sibling.Goals as goal

pub returns-in-None : goal.returns-in-None
returns-in-None g c =
    let nodes = tree_nodes c.args.doc.now in
    let doc = c.documents_are_walkable.ensures in
    let n = c.args.from in
    let h : n < length nodes = subst (λ k. n < k) (sym doc.long) c.requires in
    let axis = c.args.step.now.axis in
    adds_none {X = Unit {0}} AllocError c.args.doc.now c.args.step.now tt c.args.out.now.items (found_on a.PrecedingSibling axis nodes n)
    (λ test. outermost_alone nodes doc.walkable n h axis test (sym c.in-None.ensures.node))

pub returns-else-is_no_attribute : goal.returns-else-is_no_attribute
returns-else-is_no_attribute g c =
    let nodes = tree_nodes c.args.doc.now in
    let doc = c.documents_are_walkable.ensures in
    let n = c.args.from in
    let h : n < length nodes = subst (λ k. n < k) (sym doc.long) c.requires in
    let axis = c.args.step.now.axis in
    adds_none {X = Unit {0}} AllocError c.args.doc.now c.args.step.now tt c.args.out.now.items (found_on a.PrecedingSibling axis nodes n)
    (λ test. attribute_alone nodes doc.walkable n h axis test
    (not-false (is_attribute (tree_node nodes n)) (sym c.is_no_attribute.ensures ∙ c.if-is_no_attribute.false)))
