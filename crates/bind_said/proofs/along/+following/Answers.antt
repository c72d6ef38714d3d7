use Rattle.std.proofs.Common.{chars, ap, sym, ◌∙◌}
use Rattle.node_arena.specs.Moves.{is_child, tree_nodes, first_child, next_sibling}
use Rattle.bind_said.specs.Marks.{mark_all}
use Rattle.bind_said.specs.Saying.{is_of, saying_below, saying_in}
use Rattle.bind_said.proofs.LoopLemmas.{marking-step, marking-end}
use Rattle.bind_said.proofs.MarkLemmas.{unmarked-by}
use Rattle.bind_said.proofs.along.+following.Goals as goal

pub mark_below-children-preserved : goal.mark_below-children-preserved
mark_below-children-preserved g t c =
    let d = c.args.input.now.doc.now in
    marking-step (is_child c.args.n) d (saying_in d (chars c.args.text.now) c.args.leaf c.in-Some.step.now c.in-Some.deeper.now) c.args.marks.now.items
    (first_child (tree_nodes d) c.args.n) (next_sibling (tree_nodes d)) (c.chains_lead_on.ensures.children c.args.n)
    c.children.at c.in-Some-at.m c.next_sibling-at.result c.children.marks.items c.mark_in.new.marks.items
    c.in-Some-at.is c.children.invariant c.in_ok-mark_in.ensures c.next_sibling-at.ensures.node

pub mark_below-returns : goal.mark_below-returns
mark_below-returns g t c =
    let d = c.args.input.now.doc.now in
    marking-end (is_child c.args.n) d (saying_in d (chars c.args.text.now) c.args.leaf c.in-Some.step.now c.in-Some.deeper.now) c.args.marks.now.items
    c.children.at c.children.marks.items c.in_default-at.is c.children.invariant
    ∙ ap (λ path. mark_all c.args.marks.now.items (saying_below d (chars c.args.text.now) c.args.leaf path c.args.n)) (sym c.in-Some.ensures.cases.0)

pub mark_in-returns-then-not-branch : goal.mark_in-returns-then-not-branch
mark_in-returns-then-not-branch g t c =
    let d = c.args.input.now.doc.now in
    unmarked-by c.args.marks.now.items (is_of d c.args.step.now c.args.n) c.in_ok-passes.field-0
    (saying_below d (chars c.args.text.now) c.args.leaf c.args.path.now c.args.n) c.in_ok-passes.ensures c.if-not-branch.true
