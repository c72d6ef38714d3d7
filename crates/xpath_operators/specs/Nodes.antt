-- Nodes of a document among items, by the number of its nodes.
use Rattle.std.specs.Prelude.{ℕ, ◌<◌, List, [], ◌∷◌}
use Rattle.xpath_items.specs.declared.item.Item.{Item}
use Rattle.xpath_items.specs.declared.item.Item.TheVariants as i

-- An item that is a node is one of so many.
abbrev pub IsWithin : ℕ → Item → Type 0
IsWithin count (i.Node n) = n < count
IsWithin count _ = Unit {0}

abbrev pub AreWithin : ℕ → List Item → Type 0
AreWithin count [] = Unit {0}
AreWithin count (item ∷ items) = IsWithin count item × AreWithin count items

-- the same of each of several values
abbrev pub AllWithin : ℕ → List (List Item) → Type 0
AllWithin count [] = Unit {0}
AllWithin count (items ∷ values) = AreWithin count items × AllWithin count values
