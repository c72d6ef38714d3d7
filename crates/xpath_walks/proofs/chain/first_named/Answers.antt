use Rattle.std.proofs.Common.{◌∙◌, ◌<◌, ap, sym, subst, get_or, None}
use Rattle.std.proofs.lemmas.List.{length-map}
use Rattle.node_arena.specs.Moves.{tree_nodes, node_of}
use Rattle.xpath_walks.proofs.ChainLemmas.{none_of_name, first_of_name}
use Rattle.xpath_walks.proofs.chain.first_named.Goals as goal

pub returns-in-Some-clause-node : goal.returns-in-Some-clause-node
returns-in-Some-clause-node g c = λ names is.
    first_of_name (tree_nodes c.args.doc.now) c.args.doc.now.names names c.args.k c.in-Some.name c.first_numbered.result
    (sym c.in-Some.is ∙ (c.number_at.ensures ∙ ap (λ ns. get_or ns c.args.k None) is)) c.first_numbered.ensures.node

pub returns-in-None-clause-node : goal.returns-in-None-clause-node
returns-in-None-clause-node g c = λ names is.
    let d = c.args.doc.now in
    let of = c.is_of_a_tree.ensures in
    none_of_name d names c.args.k
    (λ name n h. c.names_are_found_by_number.ensures d name n of.distinct of.named (subst (λ k. n < k) (length-map d.nodes (node_of d.names)) h))
    (sym c.in-None.is ∙ (c.number_at.ensures ∙ ap (λ ns. get_or ns c.args.k None) is))
