use Rattle.std.proofs.Common.{◌≡◌, ◌<◌, ℕ, Bool, length, sym, ap, ◌∙◌, arith}
use Rattle.inv_base.specs.Tree.{Forest}
use Rattle.inv_base.specs.declared.tree.Kind.{Kind}
use Rattle.node_arena.specs.Document.{Document, node_at}
use Rattle.node_arena.specs.Moves.{tree_nodes, tree_node, last_inside, IsOfATree, HasNodesOf, is_inside, is_between}
use Rattle.bind_meaning.specs.Elements.{is_element_kind, is_element}
use Rattle.bind_terms.proofs.NodeLists.{IsInterval, at-document, long, none-begin, none-more, some-inside, none-inside}
use Rattle.bind_terms.proofs.insides.has_element_inside.Goals as goal

Law : Type 0
Law = (document : Document) (tree : Forest) → HasNodesOf document tree → (n k : ℕ) → n < length document.nodes → k < length document.nodes
    → is_inside n (tree_node (tree_nodes document) k) ≡ is_between n (last_inside (tree_nodes document) n) k

interval : (document : Document) (n last : ℕ) → Law → IsOfATree document → n < length document.nodes → last ≡ last_inside (tree_nodes document) n
    → IsInterval (tree_nodes document) n last
unfolding Law
interval document n last law tree below e k within =
    law document tree.tree tree.has_nodes n k below (omega (arith, within, long document)) ∙ ap (λ x. is_between n x k) (sym e)

element : (document : Document) (k : ℕ) (kind : Kind) (is b : Bool) → k < length document.nodes → kind ≡ (node_at document.nodes k).kind
    → is ≡ is_element_kind kind → is ≡ b
    → is_element (tree_node (tree_nodes document) k) ≡ b
element document k kind is b below e h same = ap is_element (at-document document k below) ∙ (ap is_element_kind (sym e) ∙ (sym h ∙ same))

pub inside-init : goal.inside-init
inside-init g c = none-begin _ _ _ c.last_inside-last.ensures.within.0

pub returns-then-is_element : goal.returns-then-is_element
unfolding Law
returns-then-is_element g c =
    let doc = c.args.doc.now in
    let count = long doc in
    some-inside (tree_nodes doc) c.args.n c.last_inside-last.result c.inside.at c.in-Some.next
    (interval doc c.args.n c.last_inside-last.result c.insides_are_intervals.ensures c.is_of_a_tree.ensures.tree c.requires c.last_inside-last.ensures.node)
    c.inside.invariant c.in-Some.ensures.node.1
    (omega arith) (omega arith) (element doc c.in-Some.next _ _ _ (omega arith) c.kind.ensures c.is_element.ensures c.if-is_element.true)

pub inside-preserved : goal.inside-preserved
inside-preserved g c =
    let doc = c.args.doc.now in
    none-more (tree_nodes doc) c.args.n c.last_inside-last.result c.inside.at c.in-Some.next c.inside.invariant c.in-Some.ensures.node.1 (omega arith)
    (element doc c.in-Some.next _ _ _ (omega arith) c.kind.ensures c.is_element.ensures c.if-is_element.false)

pub returns : goal.returns
unfolding Law
returns g c =
    let doc = c.args.doc.now in
    none-inside (tree_nodes doc) c.args.n c.last_inside-last.result c.inside.at
    (interval doc c.args.n c.last_inside-last.result c.insides_are_intervals.ensures c.is_of_a_tree.ensures.tree c.requires c.last_inside-last.ensures.node)
    c.inside.invariant (omega arith)
