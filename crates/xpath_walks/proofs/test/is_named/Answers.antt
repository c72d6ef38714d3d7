use Rattle.std.proofs.Common.{◌∙◌, ap, sym, get_or, None}
use Rattle.node_arena.specs.Moves.{tree_node, tree_nodes}
use Rattle.xpath_meaning.specs.Axes.{is_principal}
use Rattle.xpath_walks.proofs.TestLemmas.{named-passes, named-not, kind-at}
use Rattle.xpath_walks.proofs.test.is_named.Goals as goal

pub returns-then-is_principal : goal.returns-then-is_principal
returns-then-is_principal c = λ names is.
    named-passes names c.args.doc.now.names c.args.k c.args.axis (tree_node (tree_nodes c.args.doc.now) c.args.n) c.has_number.result c.number_at.result
    (c.number_at.ensures ∙ ap (λ ns. get_or ns c.args.k None) is) c.has_number.ensures.found c.has_number.ensures.none
    (ap (is_principal c.args.axis) (sym (kind-at c.args.doc.now c.args.n c.kind.result c.requires c.kind.ensures)) ∙
    (sym c.is_principal.ensures ∙ c.if-is_principal.true))

pub returns-else-is_principal : goal.returns-else-is_principal
returns-else-is_principal c = λ names is. c.if-is_principal.false ∙
    named-not names c.args.k c.args.axis (tree_node (tree_nodes c.args.doc.now) c.args.n)
    (ap (is_principal c.args.axis) (sym (kind-at c.args.doc.now c.args.n c.kind.result c.requires c.kind.ensures)) ∙
    (sym c.is_principal.ensures ∙ c.if-is_principal.false))
