-- Items that are equal to one that was kept.
use Rattle.std.specs.Prelude.{◌≡◌, Bool, true, false, not, List, [], ◌∷◌, ◌++◌, filter}
use Rattle.std.specs.List.{list_any}
use Rattle.xpath_items.specs.declared.item.Item.{Item}
use Rattle.xpath_items.specs.declared.item.Item.TheVariants as i
use Rattle.xpath_meaning.specs.Collections.{are_equal}
use Rattle.xpath_operators.specs.Ranks.{has_alike}

abbrev pub is_known : List Item → Item → Bool
is_known kept item = list_any (λ known. are_equal known item) kept

-- the items that are equal to none that was kept
abbrev pub unknown : List Item → List Item → List Item
unknown kept items = filter (λ item. not (is_known kept item)) items

-- what was kept, with an item that is new
abbrev pub with_item : List Item → Item → List Item
with_item kept item = elim (is_known kept item) [ true ↦ kept | false ↦ kept ++ item ∷ [] ]

abbrev pub is_atomic : Item → Bool
is_atomic (i.Node n) = false
is_atomic _ = true

-- An atomic item is as one of those that are known exactly where it is equal to one that was kept.
abbrev pub AreKnown : List Item → List Item → Type 0
AreKnown known kept = (x : Item) → is_atomic x ≡ true → has_alike known x ≡ is_known kept x
