use Rattle.std.proofs.Common.{◌≡◌, ◌∙◌, ap, sym, Ok, true, length, ℕ, rules}
use Rattle.std.specs.List.{list_all}
use Rattle.inv_base.specs.Tree.{is_among}
use Rattle.node_arena.specs.Moves.{tree_nodes}
use Rattle.xpath_meaning.specs.Steps.{is_node}
use Rattle.xpath_steps.specs.Numbers.{numbers_among}
use Rattle.xpath_steps.specs.Sets.{is_in_both}
use Rattle.xpath_walks.specs.Order.{node_items}
use Rattle.xpath_steps.proofs.NodeLemmas.{among_within, order_within}
use Rattle.xpath_steps.proofs.SetLemmas.{of_sets, set_is, set_within}
use Rattle.xpath_steps.proofs.sets.set_of.Goals as goal

pub returns-clause-value : goal.returns-clause-value
returns-clause-value c =
    let nodes = tree_nodes c.args.doc.now in
    let count = length c.args.doc.now.nodes in
    let xs = c.args.xs.now in
    let ys = c.args.ys.now in
    let left : list_all is_node xs ≡ true = search rules in
    let right : list_all is_node ys ≡ true = search rules in
    let within = set_within count c.args.operator c.in_ok-left.left.items c.in_ok-right.right.items c.in_ok-nodes.nodes.items c.in_ok-nodes.ensures
    (among_within count xs c.in_ok-left.left.items c.in_ok-left.ensures c.requires.xs)
    (among_within count ys c.in_ok-right.right.items c.in_ok-right.ensures c.requires.ys) in
    let members : (n : ℕ) → is_among n c.in_ok-nodes.nodes.items ≡ is_in_both c.args.operator (is_among n (numbers_among xs)) (is_among n (numbers_among ys)) =
    λ n.
    c.in_ok-nodes.ensures n ∙ (ap (λ ns. is_in_both c.args.operator (is_among n ns) (is_among n c.in_ok-right.right.items)) c.in_ok-left.ensures
    ∙ ap (λ ns. is_in_both c.args.operator (is_among n (numbers_among xs)) (is_among n ns)) c.in_ok-right.ensures) in
    of_sets nodes c.args.operator xs ys left right ∙ ap Ok (sym (set_is nodes c.args.operator xs ys c.in_ok-nodes.nodes.items members) ∙
    sym (c.in_ok-ordered.ensures within))

pub returns-clause-within : goal.returns-clause-within
returns-clause-within c =
    let count = length c.args.doc.now.nodes in
    let within = set_within count c.args.operator c.in_ok-left.left.items c.in_ok-right.right.items c.in_ok-nodes.nodes.items c.in_ok-nodes.ensures
    (among_within count c.args.xs.now c.in_ok-left.left.items c.in_ok-left.ensures c.requires.xs)
    (among_within count c.args.ys.now c.in_ok-right.right.items c.in_ok-right.ensures c.requires.ys) in
    order_within c.args.doc.now (node_items c.in_ok-nodes.nodes.items) c.in_ok-ordered.field-0 c.documents_are_walkable.ensures (c.in_ok-ordered.ensures within)
