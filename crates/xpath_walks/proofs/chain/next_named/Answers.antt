use Rattle.std.proofs.Common.{◌∙◌}
use Rattle.xpath_walks.proofs.ChainLemmas.{next_of_name}
use Rattle.xpath_walks.proofs.chain.next_named.Goals as goal

pub returns-clause-next : goal.returns-clause-next
returns-clause-next g c =
    let of = c.is_of_a_tree.ensures in
    next_of_name c.args.doc.now c.args.n c.next_named.result of.named c.requires
    (λ j e within. c.next_named.ensures.node ∙ c.chains_are_of_expanded_names.ensures.next c.args.doc.now c.args.n j of.distinct of.named e within)
