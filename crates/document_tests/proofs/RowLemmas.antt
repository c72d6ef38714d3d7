-- One item or value more is of the document too.
use Rattle.std.proofs.Common.{◌≡◌, ℕ, List, [], ◌∷◌, ◌++◌, sym, subst}
use Rattle.xpath_items.specs.declared.item.Item.{Item}
use Rattle.xpath_operators.specs.Nodes.{IsWithin, AreWithin, AllWithin}

with_item : (count : ℕ) (items : List Item) (x : Item) → AreWithin count items → IsWithin count x → AreWithin count (items ++ x ∷ [])
with_item count [] x h k = (k, tt)
with_item count (y ∷ items) x h k = (h.0, with_item count items x h.1 k)

pub item_within : (count : ℕ) (items grown : List Item) (x : Item) → grown ≡ items ++ x ∷ [] → AreWithin count items → IsWithin count x → AreWithin count grown
item_within count items grown x e h k = subst (AreWithin count) (sym e) (with_item count items x h k)

with_value : (count : ℕ) (values : List (List Item)) (x : List Item) → AllWithin count values → AreWithin count x → AllWithin count (values ++ x ∷ [])
with_value count [] x h k = (k, tt)
with_value count (y ∷ values) x h k = (h.0, with_value count values x h.1 k)

pub value_within : (count : ℕ) (values grown : List (List Item)) (x : List Item) → grown ≡ values ++ x ∷ [] → AllWithin count values → AreWithin count x →
    AllWithin count grown
value_within count values grown x e h k = subst (AllWithin count) (sym e) (with_value count values x h k)
