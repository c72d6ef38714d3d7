use Rattle.std.proofs.Common.{◌&&◌, ◌∙◌, ap, refl, sym, get_or, None, Some}
use Rattle.node_arena.specs.Moves.{tree_node, tree_nodes}
use Rattle.xpath_meaning.specs.Axes.{is_principal}
use Rattle.xpath_walks.proofs.TestLemmas.{numbered-passes, kind-at}
use Rattle.xpath_walks.proofs.test.is_numbered.Goals as goal

pub returns-then-has_number : goal.returns-then-has_number
returns-then-has_number c = λ names is.
    let node = tree_node (tree_nodes c.args.doc.now) c.args.n in
    ap (λ b. b && c.is_principal.result) (sym c.if-has_number.true)
    ∙ numbered-passes names c.args.doc.now.names c.args.k c.args.axis node c.has_number.result c.is_principal.result (Some c.args.number)
    (c.requires.number ∙ ap (λ ns. get_or ns c.args.k None) is) c.has_number.ensures.found c.has_number.ensures.none
    (ap (is_principal c.args.axis) (sym (kind-at c.args.doc.now c.args.n c.kind.result c.requires.within c.kind.ensures)) ∙ sym c.is_principal.ensures)

pub returns-else-has_number : goal.returns-else-has_number
returns-else-has_number c = λ names is.
    let node = tree_node (tree_nodes c.args.doc.now) c.args.n in
    let h = c.if-has_number.false in
    (h ∙ ap (λ b. b && is_principal c.args.axis node.kind) (sym h))
    ∙ numbered-passes names c.args.doc.now.names c.args.k c.args.axis node c.has_number.result (is_principal c.args.axis node.kind) (Some c.args.number)
    (c.requires.number ∙ ap (λ ns. get_or ns c.args.k None) is) c.has_number.ensures.found c.has_number.ensures.none refl
