use Rattle.std.proofs.Common.{◌∙◌, ap, get_or, None}
use Rattle.node_arena.specs.Moves.{tree_node, tree_nodes}
use Rattle.xpath_walks.proofs.BehindLemmas.{wanted_has}
use Rattle.xpath_walks.proofs.behind.is_of_name.Goals as goal

pub returns : goal.returns
returns c = λ names is.
    wanted_has names c.args.doc.now.names c.args.k (tree_node (tree_nodes c.args.doc.now) c.args.n) c.has_number.result c.number_at.result
    (c.number_at.ensures ∙ ap (λ ns. get_or ns c.args.k None) is) c.has_number.ensures.found c.has_number.ensures.none
