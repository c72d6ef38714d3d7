-- A text's values, which stand in one list, each before those inside it: the values beside one another, each with those inside it.
use Rattle.std.specs.Prelude.{ℕ, zero, suc, List, [], ◌∷◌, take}
use Rattle.json_reading.specs.declared.item.Item.{Item}

-- a value, and the values inside it
pub record Part : Type 0 where
  pub item : Item
  pub inside : List Item

-- the same, where so many of the first stand inside another value
abbrev pub parts_behind : ℕ → List Item → List Part
parts_behind n [] = []
parts_behind zero (i ∷ items) = record { item = i; inside = take i.inside items } ∷ parts_behind i.inside items
parts_behind (suc n) (i ∷ items) = parts_behind n items

-- the values that stand beside one another: the items of an array, or the members of an object
unfoldable pub parts : List Item → List Part
parts items = parts_behind 0 items

abbrev pub part : Item → List Item → Part
part item inside = record { item = item; inside = inside }
