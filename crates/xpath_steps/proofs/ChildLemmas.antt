-- Children that become items as they are found.
use Rattle.std.proofs.Common.{◌≡◌, ℕ, suc, ◌+◌, ◌<◌, ◌≤◌, List, ◌∷◌, ◌++◌, length, get_or, drop, ap, sym, ◌∙◌, append_assoc, add-one}
use Rattle.std.specs.List.{flat_map}
use Rattle.std.proofs.Math.Seq.{drop-cons}
use Rattle.std.proofs.lemmas.List.{append-nil, drop_all}
use Rattle.xpath_items.specs.declared.item.Item.{Item}
use Rattle.xpath_items.specs.declared.item.Item.TheVariants as i
use Rattle.xpath_steps.specs.Numbers.{at_number}
use Rattle.xpath_walks.specs.Order.{node_items}
use Rattle.xpath_steps.proofs.PathLemmas.{map_append}

from_here : (items : List Item) (k : ℕ) (item : Item) → k < length items → item ≡ get_or items k item → drop k items ≡ item ∷ drop (k + 1) items
from_here items k item l e =
    drop-cons items k item l ∙ (ap (λ y. y ∷ drop (suc k) items) (sym e) ∙ ap (λ n. item ∷ drop n items) (sym (add-one k)))

-- one item more
pub over_more : (f : ℕ → List ℕ) (items : List Item) (k : ℕ) (item : Item) (old new whole : List Item) → k < length items → item ≡ get_or items k item
    → new ≡ old ++ node_items (at_number f item) → old ++ node_items (flat_map (at_number f) (drop k items)) ≡ whole
    → new ++ node_items (flat_map (at_number f) (drop (k + 1) items)) ≡ whole
over_more f items k item old new whole l e n w =
    let rest = flat_map (at_number f) (drop (k + 1) items) in
    ap (λ xs. xs ++ node_items rest) n
    ∙ (append_assoc old (node_items (at_number f item)) (node_items rest)
    ∙ (ap (λ xs. old ++ xs) (sym (ap (λ xs. node_items (flat_map (at_number f) xs)) (from_here items k item l e) ∙
    map_append (λ m. i.Node m) (at_number f item) rest)) ∙ w))

-- the end
pub over_done : (f : ℕ → List ℕ) (items : List Item) (k : ℕ) (found whole : List Item) → length items ≤ k
    → found ++ node_items (flat_map (at_number f) (drop k items)) ≡ whole → found ≡ whole
over_done f items k found whole le w =
    sym (append-nil found) ∙ (ap (λ xs. found ++ node_items (flat_map (at_number f) xs)) (sym (drop_all k items le)) ∙ w)
