-- Where an expression ends among the tokens, part by part.
use Rattle.std.proofs.Common.{◌≡◌, ℕ, ◌+◌, ◌<◌, List, ◌++◌, length, get_or, drop, sym, ap, ◌∙◌, arith, length-append, refl}
use Rattle.std.proofs.lemmas.List.{drop_more}
use Rattle.xpath_grammar.specs.Grammar as g
use Rattle.xpath_grammar.specs.Grammar.{Tree, Parts}
use Rattle.xpath_grammar.specs.View.{view, viewed}
use Rattle.xpath_grammar.specs.declared.expr.Expr.{Expr}
use Rattle.xpath_grammar.specs.declared.expr.Expr.TheVariants as e
use Rattle.xpath_grammar.specs.declared.expr.Form.{Form}
use Rattle.xpath_grammar.specs.declared.expr.Label.{Label}
use Rattle.xpath_grammar.specs.declared.expr.Leaf.{Leaf}
use Rattle.xpath_grammar.proofs.ViewLaws.{view-leaf, view-node}

pub leaf-written : (x : Expr) (leaf : Leaf) → x ≡ e.Leaf leaf → length (g.written (view x)) ≡ length (g.leaf_tokens leaf)
unfolding g.written
leaf-written x leaf is = ap (λ (x : Expr). length (g.written (view x))) is ∙ ap (λ (x : Tree). length (g.written x)) (view-leaf leaf)

pub node-written : (x : Expr) (form : Form) (parts : List (Label × Expr)) → x ≡ e.Node form parts →
    length (g.written (view x)) ≡ length (g.parts_written (viewed parts)) + length (g.closing form)
unfolding g.written
node-written x form parts is = ap (λ (x : Expr). length (g.written (view x))) is
    ∙ (ap (λ (x : Tree). length (g.written x)) (view-node form parts) ∙ length-append (g.parts_written (viewed parts)) (g.closing form))

more-written : (label : Label) (x : Tree) (parts : Parts) → length (g.parts_written (g.more label x parts)) ≡ length (g.label_tokens label) +
    (length (g.written x) + length (g.parts_written parts))
unfolding g.parts_written
more-written label x parts = omega (
  arith,
  length-append (g.label_tokens label) (g.written x ++ g.parts_written parts),
  length-append (g.written x) (g.parts_written parts),
)

pub none-written : length (g.parts_written g.none) ≡ 0
unfolding g.parts_written
none-written = refl

-- behind one part more
pub part-behind : (items : List (Label × Expr)) (i : ℕ) (item : Label × Expr) → item ≡ get_or items i item → i < length items → (before start after whole : ℕ)
    → start ≡ before + length (g.label_tokens item.0) → after ≡ start + length (g.written (view item.1)) →
    before + length (g.parts_written (viewed (drop i items))) ≡ whole
    → after + length (g.parts_written (viewed (drop (i + 1) items))) ≡ whole
part-behind items i item at h before start after whole starts ends goes =
    let here : viewed (drop i items) ≡ g.more item.0 (view item.1) (viewed (drop (i + 1) items)) =
    ap viewed (drop_more items i item h) ∙ ap (λ (it : Label × Expr). g.more it.0 (view it.1) (viewed (drop (i + 1) items))) (sym at) in
    let more = ap (λ (parts : Parts). length (g.parts_written parts)) here ∙ more-written item.0 (view item.1) (viewed (drop (i + 1) items)) in
    omega (arith, more, starts, ends, goes)
