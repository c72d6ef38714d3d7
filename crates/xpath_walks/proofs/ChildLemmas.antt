-- Numbers that become items as they are found.
use Rattle.std.proofs.Common.{◌≡◌, ℕ, List, [], ◌∷◌, ◌++◌, refl, ap, sym, ◌∙◌, append_assoc}
use Rattle.xpath_items.specs.declared.item.Item.{Item}
use Rattle.xpath_items.specs.declared.item.Item.TheVariants as i
use Rattle.xpath_walks.specs.Order.{node_items}

items_append : (xs ys : List ℕ) → node_items (xs ++ ys) ≡ node_items xs ++ node_items ys
items_append [] ys = refl
items_append (x ∷ xs) ys = ap (λ zs. i.Node x ∷ zs) (items_append xs ys)

-- what is out before a step and what is to come of it
pub put_items_on : (whole before after : List Item) (taken rest old : List ℕ) → after ≡ before ++ node_items taken → rest ≡ taken ++ old
    → before ++ node_items rest ≡ whole → after ++ node_items old ≡ whole
put_items_on whole before after taken rest old a r w =
    ap (λ xs. xs ++ node_items old) a
    ∙ (append_assoc before (node_items taken) (node_items old) ∙ (ap (λ xs. before ++ xs) (sym (ap node_items r ∙ items_append taken old)) ∙ w))
