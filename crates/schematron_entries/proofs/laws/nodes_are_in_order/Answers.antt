use Rattle.schematron_entries.proofs.DocumentLemmas.{in_order}
use Rattle.schematron_entries.proofs.laws.nodes_are_in_order.Goals as goal

pub returns : goal.returns
returns c =
    let of = c.is_of_a_tree.ensures in
    in_order c.args.doc.now of.tree.tree of.tree.has_nodes of.numbers
    (λ n h. c.moves_lead_on.ensures c.args.doc.now of.tree.tree of.tree.has_nodes n h)
    (λ n k h l. c.insides_are_intervals.ensures c.args.doc.now of.tree.tree of.tree.has_nodes n k h l)
