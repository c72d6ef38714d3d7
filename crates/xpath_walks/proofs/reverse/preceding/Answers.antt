use Rattle.std.proofs.Common.{rules, ap, Some, ◌-◌, ◌<◌, length, subst, sym, arith}
use Rattle.std.specs.declared.alloc.AllocError.{AllocError}
use Rattle.node_arena.specs.Moves.{tree_nodes}
use Rattle.xpath_grammar.specs.declared.step.Axis.TheVariants as a
use Rattle.xpath_walks.specs.declared.walk.Way.TheVariants as w
use Rattle.xpath_walks.specs.Walks.{walked, found_on}
use Rattle.xpath_walks.proofs.ForwardLemmas.{adds_none}
use Rattle.xpath_walks.proofs.ReverseLemmas.{preceding_is, none_preceding, first_all, adds_back}
use Rattle.xpath_walks.proofs.reverse.preceding.Goals as goal

pub returns-then-number-eq0 : goal.returns-then-number-eq0
returns-then-number-eq0 g c =
    let nodes = tree_nodes c.args.doc.now in
    let doc = c.documents_are_walkable.ensures in
    let n = c.args.from in
    let h : n < length nodes = subst (λ k. n < k) (sym doc.long) c.requires in
    let axis = c.args.step.now.axis in
    adds_none {X = Unit {0}} AllocError c.args.doc.now c.args.step.now tt c.args.out.now.items (found_on a.Preceding axis nodes n)
    (λ test. none_preceding nodes doc.walkable n h axis test (omega arith))

pub returns : goal.returns
returns g c =
    let nodes = tree_nodes c.args.doc.now in
    let doc = c.documents_are_walkable.ensures in
    let n = c.args.from in
    let h : n < length nodes = subst (λ k. n < k) (sym doc.long) c.requires in
    let axis = c.args.step.now.axis in
    let last = c.number-last.result - 1 in
    adds_back {X = Unit {0}} {Y = Unit {0}} AllocError c.args.doc.now c.args.step.now c.in_ok-walk.field-0 tt c.args.out.now.items c.walk.new.out.items
    c.turn_round.new.nodes.items
    c.len-at.result (walked (w.Before n) nodes (Some c.document.result) last axis) (found_on a.Preceding axis nodes n) (search rules) c.turn_round.ensures
    (λ test. preceding_is nodes doc.walkable n h axis test (Some c.document.result) last (ap (λ m. m - 1) c.number-last.ensures) (omega arith)
    (first_all nodes c.document.result doc.walkable.counted (omega (arith, h)) c.document.ensures.number)) c.in_ok-walk.ensures
