use Rattle.std.proofs.Common.{◌∙◌, ap, subst, sym}
use Rattle.inv_base.specs.Tree.{Node, is_among}
use Rattle.std.specs.Prelude.{filter}
use Rattle.xpath_walks.specs.Walks.{node_numbers}
use Rattle.xpath_steps.proofs.NodeLemmas.{are_numbers}
use Rattle.xpath_marks.specs.Marking.{AreNodes, nodes_of}
use Rattle.xpath_marks.proofs.TurnLemmas.{nodes_append, ordered_within}
use Rattle.xpath_marks.proofs.marking.united.Goals as goal

pub returns-clause-marked : goal.returns-clause-marked
returns-clause-marked c =
    let base = c.args.dynamic.now in
    let all : AreNodes base c.append.new.self.items =
    subst (AreNodes base) (sym c.in_ok-append.ensures.items) (nodes_append base c.args.before.items c.args.other.items c.requires.before c.requires.other) in
    c.in_order.ensures.numbers (nodes_of base) (are_numbers base.doc.now c.append.new.self.items c.documents_are_walkable.ensures all)
    ∙ ap (λ ns. node_numbers (filter (λ (node : Node). is_among node.number ns) (nodes_of base))) c.in_ok-append.ensures.items

pub returns-clause-within : goal.returns-clause-within
returns-clause-within c =
    let base = c.args.dynamic.now in
    let all : AreNodes base c.append.new.self.items =
    subst (AreNodes base) (sym c.in_ok-append.ensures.items) (nodes_append base c.args.before.items c.args.other.items c.requires.before c.requires.other) in
    subst (AreNodes base) (sym (c.in_order.ensures.numbers (nodes_of base)
    (are_numbers base.doc.now c.append.new.self.items c.documents_are_walkable.ensures all)))
    (ordered_within base c.documents_are_walkable.ensures (λ node. is_among node.number c.append.new.self.items))
