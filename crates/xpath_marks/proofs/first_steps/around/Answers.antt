use Rattle.std.proofs.Common.{◌∙◌, refl, sym, subst}
use Rattle.inv_base.specs.Tree.{is_among}
use Rattle.xpath_steps.proofs.NodeLemmas.{are_numbers}
use Rattle.xpath_marks.specs.FirstSteps.{around_at}
use Rattle.xpath_marks.specs.Marking.{AreNodes, nodes_of}
use Rattle.xpath_marks.proofs.FirstStepLemmas.{all_of_flat, around_more}
use Rattle.xpath_marks.proofs.TurnLemmas.{item_within, flat_done, ordered_within}
use Rattle.xpath_marks.proofs.first_steps.around.Goals as goal

pub put_around-requires-clause-within : goal.put_around-requires-clause-within
put_around-requires-clause-within g c = item_within c.args.dynamic.now c.args.from.now c.from.n-index c.n-item.result c.n-item.is refl c.requires
    c.from-test.true

pub from-preserved : goal.from-preserved
from-preserved g c = record {
  within = c.in_ok-put_around.ensures.within;
  left = around_more (around_at (nodes_of c.args.dynamic.now)) c.args.from.now c.from.n-index c.n-item.result c.from.out.items c.put_around.new.out.items
      c.n-item.is c.from-test.true c.in_ok-put_around.ensures.put c.from.invariant.left;
}

pub returns-clause-around : goal.returns-clause-around
returns-clause-around g c =
    let base = c.args.dynamic.now in
    c.in_order.ensures.numbers (nodes_of base) (are_numbers base.doc.now c.from.out.items c.documents_are_walkable.ensures c.from.invariant.within)
    ∙ all_of_flat (nodes_of base) (around_at (nodes_of base)) c.args.from.now c.from.out.items
    (flat_done (around_at (nodes_of base)) c.args.from.now c.from.n-index c.from.out.items c.from-test.false c.from.invariant.left)

pub returns-clause-within : goal.returns-clause-within
returns-clause-within g c =
    let base = c.args.dynamic.now in
    let walked = c.documents_are_walkable.ensures in
    subst (AreNodes base) (sym (c.in_order.ensures.numbers (nodes_of base) (are_numbers base.doc.now c.from.out.items walked c.from.invariant.within)))
    (ordered_within base walked (λ node. is_among node.number c.from.out.items))
