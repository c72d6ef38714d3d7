use Rattle.std.proofs.Common.{◌≡◌, ◌+◌, sym, ap, ◌∙◌, length, arith, List}
use Rattle.std.proofs.lemmas.Result.{IfOk-weaker}
use Rattle.xpath_types.proofs.WalkLemmas.{nothing_left}
use Rattle.xpath_grammar.specs.Grammar as g
use Rattle.xpath_grammar.specs.Grammar.{Parts}
use Rattle.xpath_grammar.specs.View.{view, viewed}
use Rattle.xpath_types.proofs.PlaceLemmas.{leaf-written, node-written, none-written, part-behind}
use Rattle.xpath_types.proofs.places.+behind.Goals as goal

pub parts-preserved : goal.parts-preserved
parts-preserved t c = part-behind c.as_slice-parts.result.now c.parts.part-index c.part-item.result c.part-item.is
    (omega arith) c.parts.end c.in_ok-start-in-Node.start c.in_ok-end-in-Node.end _
    (c.in_ok-start-in-Node.ensures ∙ ap (λ n. c.parts.end + n) c.label_length.ensures) c.in_ok-end-in-Node.ensures c.parts.invariant

pub returns-in-Leaf : goal.returns-in-Leaf
returns-in-Leaf t c = IfOk-weaker c.further.result _ _ (λ n is. is ∙
    ap (λ n. c.args.token + n) (c.leaf_length.ensures ∙ sym (leaf-written c.args.x.now c.in-Leaf.leaf c.in-Leaf.is))) c.further.ensures

pub returns-after-parts : goal.returns-after-parts
returns-after-parts t c =
    let none = ap (λ (parts : Parts). length (g.parts_written parts)) (nothing_left c.as_slice-parts.result.now c.parts.part-index (omega arith)) ∙
    none-written in
    let items = ap (λ items. length (g.parts_written (viewed items))) c.as_slice-parts.ensures in
    let whole = node-written c.args.x.now c.in-Node.form c.in-Node.parts c.in-Node.is in
    IfOk-weaker c.further-in-Node.result _ _ (λ n is. omega (arith, is, c.closing_length.ensures, none, items, whole, c.parts.invariant))
    c.further-in-Node.ensures
