use Rattle.std.proofs.Common.{◌<◌, length, subst, sym}
use Rattle.node_arena.specs.Moves.{tree_nodes, tree_node}
use Rattle.xpath_grammar.specs.declared.step.Axis.TheVariants as a
use Rattle.xpath_walks.specs.Tests.{is_passed}
use Rattle.xpath_walks.specs.Walks.{if_so, found_on}
use Rattle.xpath_walks.proofs.ForwardLemmas.{adds_both, descendant_or_self_is}
use Rattle.xpath_walks.proofs.forward.descendant_or_self.Goals as goal

pub returns : goal.returns
returns g c =
    let nodes = tree_nodes c.args.doc.now in
    let doc = c.documents_are_walkable.ensures in
    let n = c.args.from in
    let h : n < length nodes = subst (λ k. n < k) (sym doc.long) c.requires in
    let axis = c.args.step.now.axis in
    adds_both c.args.doc.now c.args.step.now c.in_ok-take_passing.field-0 c.descendant.result c.args.out.now.items c.take_passing.new.out.items
    c.descendant.new.out.items
    (λ test. if_so (is_passed axis test (tree_node nodes n)) n) (found_on a.Descendant axis nodes n) (found_on a.DescendantOrSelf axis nodes n)
    (λ test. descendant_or_self_is nodes doc.walkable n h axis test) c.in_ok-take_passing.ensures c.descendant.ensures
