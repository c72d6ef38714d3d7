-- The numbers of the nodes among items, and a number alone.
use Rattle.std.specs.Prelude.{ℕ, Bool, true, false, nat_lt, if◌then◌else◌, List, [], ◌∷◌, Option, Some, None, ℤ}
use Rattle.std.specs.List.{flat_map}
use Rattle.xpath_items.specs.declared.item.Item.{Item}
use Rattle.xpath_items.specs.declared.item.Item.TheVariants as i

-- what a node's number leads to; of other items nothing
abbrev pub at_number : {X : Type 0} → (ℕ → List X) → Item → List X
at_number f (i.Node n) = f n
at_number f _ = []

abbrev pub number_alone : ℕ → List ℕ
number_alone n = n ∷ []

abbrev pub numbers_among : List Item → List ℕ
numbers_among items = flat_map (at_number number_alone) items

abbrev pub number_in : Item → Option ℤ
number_in (i.Number z) = Some z
number_in _ = None

-- the number that the items are, where they are one number
abbrev pub one_number : List Item → Option ℤ
one_number (item ∷ []) = number_in item
one_number _ = None

-- the number of an item that is a node behind the one with this number
abbrev pub node_behind : ℕ → Item → Option ℕ
node_behind n (i.Node m) = if nat_lt n m then Some m else None
node_behind n _ = None

-- The items are nodes behind the first, each before the next in document order.
abbrev pub rise_behind : ℕ → List Item → Bool
rise_behind n [] = true
rise_behind n (item ∷ items) = elim (node_behind n item) [ Some m ↦ rise_behind m items | None ↦ false ]

-- the number of an item that is a node
abbrev pub number_of : Item → Option ℕ
number_of (i.Node n) = Some n
number_of _ = None

-- The items are nodes, each before the next in document order.
abbrev pub rise : List Item → Bool
rise [] = true
rise (item ∷ items) = elim (number_of item) [ Some n ↦ rise_behind n items | None ↦ false ]
