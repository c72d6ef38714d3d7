use Rattle.std.proofs.Common.{◌∙◌, ap, sym, subst, refl}
use Rattle.inv_base.specs.Tree.{is_among}
use Rattle.xpath_steps.proofs.NodeLemmas.{are_numbers}
use Rattle.xpath_marks.specs.Marking.{AreNodes, nodes_of}
use Rattle.xpath_marks.proofs.TurnLemmas.{item_within, ordered_within}
use Rattle.xpath_marks.proofs.InsideLemmas.{goes_on, reached_all, around_within}
use Rattle.xpath_marks.proofs.inside.all_inside.Goals as goal

pub from-init : goal.from-init
from-init g c = λ w. record {
  within = subst (AreNodes c.args.dynamic.now) (sym c.new-out.ensures.items) tt;
  around = tt;
  reaches = λ k. ap (is_among k) c.new-out.ensures.items;
}

pub go_in-requires-clause-around : goal.go_in-requires-clause-around
go_in-requires-clause-around g c = around_within c.args.dynamic.now c.documents_are_walkable.ensures c.from.around c.from.out.items
    (c.from.invariant c.documents_are_walkable.ensures).around

pub go_in-requires-clause-within : goal.go_in-requires-clause-within
go_in-requires-clause-within g c = item_within c.args.dynamic.now c.args.from.now c.from.n-index c.n-item.result c.n-item.is refl c.requires.from
    c.from-test.true

pub from-preserved : goal.from-preserved
from-preserved g c = λ w. goes_on c.args.dynamic.now w c.args.from.now c.from.n-index c.n-item.result c.from.around c.in_ok-go_in.field-0 c.from.out.items
    c.go_in.new.out.items c.n-item.is c.from-test.true
    (item_within c.args.dynamic.now c.args.from.now c.from.n-index c.n-item.result c.n-item.is refl c.requires.from c.from-test.true) c.in_ok-go_in.ensures
    (c.from.invariant w)

pub returns-clause-reached : goal.returns-clause-reached
returns-clause-reached g c =
    let base = c.args.dynamic.now in
    let walked = c.documents_are_walkable.ensures in
    let gone = c.from.invariant walked in
    c.in_order.ensures.numbers (nodes_of base) (are_numbers base.doc.now c.from.out.items walked gone.within)
    ∙ reached_all base walked c.args.from.now c.from.n-index c.from.out.items c.from-test.false gone.reaches

pub returns-clause-within : goal.returns-clause-within
returns-clause-within g c =
    let base = c.args.dynamic.now in
    let walked = c.documents_are_walkable.ensures in
    subst (AreNodes base) (sym (c.in_order.ensures.numbers (nodes_of base) (are_numbers base.doc.now c.from.out.items walked (c.from.invariant walked).within)))
    (ordered_within base walked (λ node. is_among node.number c.from.out.items))
