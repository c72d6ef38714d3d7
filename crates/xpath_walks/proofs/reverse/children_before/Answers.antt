use Rattle.std.proofs.Common.{rules, ap, ◌-◌, ◌<◌, length, subst, sym, arith}
use Rattle.std.specs.declared.alloc.AllocError.{AllocError}
use Rattle.node_arena.specs.Moves.{tree_nodes}
use Rattle.xpath_grammar.specs.declared.step.Axis.TheVariants as a
use Rattle.xpath_walks.specs.declared.walk.Way.TheVariants as w
use Rattle.xpath_walks.specs.Walks.{walked, found_on}
use Rattle.xpath_walks.proofs.ReverseLemmas.{preceding_sibling_is, adds_back}
use Rattle.xpath_walks.proofs.WalkLemmas.{first_is_on}
use Rattle.xpath_walks.proofs.reverse.children_before.Goals as goal

pub walk-requires-clause-on : goal.walk-requires-clause-on
walk-requires-clause-on g c =
    first_is_on (w.Children c.args.around) (tree_nodes c.args.doc.now) 0 c.first_child-begin.result c.documents_are_walkable.ensures.walkable.counted
    c.first_child-begin.ensures.node

pub returns : goal.returns
returns g c =
    let nodes = tree_nodes c.args.doc.now in
    let doc = c.documents_are_walkable.ensures in
    let n = c.args.from in
    let h : n < length nodes = subst (λ k. n < k) (sym doc.long) c.requires.within in
    let axis = c.args.step.now.axis in
    adds_back {X = Unit {0}} {Y = Unit {0}} AllocError c.args.doc.now c.args.step.now c.in_ok-walk.field-0 tt c.args.out.now.items c.walk.new.out.items
    c.turn_round.new.nodes.items c.len-at.result
    (walked (w.Children c.args.around) nodes c.first_child-begin.result (c.number-last.result - 1) axis) (found_on a.PrecedingSibling axis nodes n)
    (search rules) c.turn_round.ensures
    (λ test. preceding_sibling_is nodes doc.walkable n h axis test c.first_child-begin.result c.args.around
    (c.number-last.result - 1) c.requires.plain c.requires.around (ap (λ m. m - 1) c.number-last.ensures) (omega (arith, c.requires.before))
    c.first_child-begin.ensures.node) c.in_ok-walk.ensures
