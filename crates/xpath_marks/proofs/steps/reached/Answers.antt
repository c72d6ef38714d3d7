use Rattle.std.proofs.Common.{◌∙◌, refl, sym, subst}
use Rattle.inv_base.specs.Tree.{is_among}
use Rattle.xpath_meaning.specs.Patterns.{found_at}
use Rattle.xpath_plan.specs.Plans.{seen}
use Rattle.xpath_steps.proofs.NodeLemmas.{are_numbers}
use Rattle.xpath_marks.specs.Marking.{AreNodes, nodes_of}
use Rattle.xpath_marks.proofs.FoundLemmas.{all_of_turns}
use Rattle.xpath_marks.proofs.TurnLemmas.{item_within, flat_done, ordered_within}
use Rattle.xpath_marks.proofs.steps.reached.Goals as goal

pub turn-requires-clause-within : goal.turn-requires-clause-within
turn-requires-clause-within g c = item_within c.args.dynamic.now c.args.from.now c.from.n-index c.n-item.result c.n-item.is refl c.requires.from
    c.from-test.true

pub returns-clause-reached : goal.returns-clause-reached
returns-clause-reached g c = λ s.
    let base = c.args.dynamic.now in
    let step = seen base.names.now c.args.work.now in
    let walked = c.documents_are_walkable.ensures in
    c.in_order.ensures.numbers (nodes_of base) (are_numbers base.doc.now c.from.out.items walked c.from.invariant.within)
    ∙ all_of_turns (nodes_of base) walked.walkable base.env.now step c.args.from.now c.from.out.items
    (flat_done (found_at (nodes_of base) base.env.now step) c.args.from.now c.from.n-index c.from.out.items c.from-test.false (c.from.invariant.goes s))

pub returns-clause-within : goal.returns-clause-within
returns-clause-within g c =
    let base = c.args.dynamic.now in
    let walked = c.documents_are_walkable.ensures in
    subst (AreNodes base) (sym (c.in_order.ensures.numbers (nodes_of base) (are_numbers base.doc.now c.from.out.items walked c.from.invariant.within)))
    (ordered_within base walked (λ node. is_among node.number c.from.out.items))
