use Rattle.std.proofs.Common.{◌∙◌, subst}
use Rattle.std.proofs.lemmas.Str.{chars-nil}
use Rattle.validation_report.proofs.OwnTextLemmas.{GoesOver, begins, goes-on, ends}
use Rattle.validation_report.proofs.values.inner_texts.Goals as goal

pub children-init : goal.children-init
children-init g c =
    begins c.args.doc.now c.is_of_a_tree.ensures.tree c.args.n c.lent-text.result c.first_child-next.result (c.lent-text.ensures ∙ chars-nil)
    c.first_child-next.ensures.node

pub children-preserved : goal.children-preserved
children-preserved g c =
    let d = c.args.doc.now in
    goes-on d c.is_of_a_tree.ensures.tree c.args.n c.in-Some.m c.children.text _ c.next_sibling-next.result
    (subst (GoesOver d c.args.n c.children.text) c.in-Some.is c.children.invariant)
    c.in_ok-text.ensures c.next_sibling-next.ensures.node

pub returns : goal.returns
returns g c = ends c.args.doc.now c.is_of_a_tree.ensures.tree c.args.n c.children.text c.children.next c.in_default.is c.children.invariant
