-- Nodes of a document among items.
use Rattle.std.proofs.Common.{◌≡◌, ℕ, suc, zero, ◌<◌, List, [], ◌∷◌, length, get_or, sym, subst, arith}
use Rattle.xpath_items.specs.declared.item.Item.{Item}
use Rattle.xpath_items.specs.declared.item.Item.TheVariants as i
use Rattle.inv_base.specs.Tree.{Node}
use Rattle.xpath_meaning.specs.Items.{atom, atomised}
use Rattle.xpath_operators.specs.Nodes.{IsWithin, AreWithin}

pub item_within : (count : ℕ) (items : List Item) (k : ℕ) (x : Item) → AreWithin count items → k < length items → x ≡ get_or items k x → IsWithin count x
item_within count [] k x h l e = absurd (omega arith)
item_within count (y ∷ items) zero x h l e = subst (IsWithin count) (sym e) h.0
item_within count (y ∷ items) (suc k) x h l e = item_within count items k x h.1 (omega arith) e

-- atoms are no nodes
atom_within : (count : ℕ) (nodes : List Node) (x : Item) → IsWithin count (atom nodes x)
atom_within count nodes (i.Node n) = tt
atom_within count nodes (i.Boolean b) = tt
atom_within count nodes (i.Number z) = tt
atom_within count nodes (i.String s) = tt
atom_within count nodes (i.Untyped s) = tt
atom_within count nodes (i.Date day) = tt

pub atoms_within : (count : ℕ) (nodes : List Node) (items : List Item) → AreWithin count (atomised nodes items)
atoms_within count nodes [] = tt
atoms_within count nodes (x ∷ items) = (atom_within count nodes x, atoms_within count nodes items)

pub within_along : (count : ℕ) (nodes : List Node) (xs items : List Item) → xs ≡ atomised nodes items → AreWithin count xs
within_along count nodes xs items e = subst (AreWithin count) (sym e) (atoms_within count nodes items)
