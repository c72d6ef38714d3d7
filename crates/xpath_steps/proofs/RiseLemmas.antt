-- Items that are in document order already, and items without nodes.
use Rattle.std.proofs.Common.{◌≡◌, ℕ, Bool, true, false, ◌&&◌, List, [], ◌∷◌, length, Some, None, refl, ap, sym, subst, ◌∙◌}
use Rattle.std.specs.Prelude.{nat_lt, if◌then◌else◌}
use Rattle.std.specs.List.{list_any}
use Rattle.std.proofs.lemmas.Bool.{false≢true}
use Rattle.inv_base.specs.Tree.{Node}
use Rattle.node_arena.specs.Document.{Document}
use Rattle.node_arena.specs.Moves.{tree_nodes}
use Rattle.xpath_items.specs.declared.item.Item.{Item}
use Rattle.xpath_items.specs.declared.item.Item.TheVariants as i
use Rattle.xpath_meaning.specs.Items.{atomised}
use Rattle.xpath_meaning.specs.Steps.{is_node, in_document_order}
use Rattle.xpath_operators.specs.Nodes.{AreWithin}
use Rattle.xpath_steps.specs.Numbers.{numbers_among, rise, rise_behind}
use Rattle.xpath_walks.specs.Order.{AreNumbers, node_items, rises}
use Rattle.xpath_walks.specs.Walks.{IsWalked}
use Rattle.xpath_steps.proofs.NodeLemmas.{are_numbers}

-- ---- nodes that rise

parts : (n m : ℕ) (items : List Item) → rise_behind n (i.Node m ∷ items) ≡ true → (nat_lt n m ≡ true) × (rise_behind m items ≡ true)
parts n m items h = go (nat_lt n m) refl h
  where
    go : (b : Bool) → nat_lt n m ≡ b → (elim (if b then Some m else None) as (λ _. Bool) [ Some k ↦ rise_behind k items | None ↦ false ]) ≡ true
        → (nat_lt n m ≡ true) × (rise_behind m items ≡ true)
    go true e h = (e, h)
    go false e h = absurd (false≢true h)

behind_only : (n : ℕ) (items : List Item) → rise_behind n items ≡ true → items ≡ node_items (numbers_among items)
behind_only n [] h = refl
behind_only n (i.Node m ∷ items) h = ap (λ xs. i.Node m ∷ xs) (behind_only m items (parts n m items h).1)
behind_only n (i.Boolean b ∷ items) h = absurd (false≢true h)
behind_only n (i.Number z ∷ items) h = absurd (false≢true h)
behind_only n (i.String s ∷ items) h = absurd (false≢true h)
behind_only n (i.Untyped s ∷ items) h = absurd (false≢true h)
behind_only n (i.Date day ∷ items) h = absurd (false≢true h)

behind_rises : (n : ℕ) (items : List Item) → rise_behind n items ≡ true → rises (n ∷ numbers_among items) ≡ true
behind_rises n [] h = refl
behind_rises n (i.Node m ∷ items) h =
    let both = parts n m items h in
    ap (λ b. b && rises (m ∷ numbers_among items)) both.0 ∙ behind_rises m items both.1
behind_rises n (i.Boolean b ∷ items) h = absurd (false≢true h)
behind_rises n (i.Number z ∷ items) h = absurd (false≢true h)
behind_rises n (i.String s ∷ items) h = absurd (false≢true h)
behind_rises n (i.Untyped s ∷ items) h = absurd (false≢true h)
behind_rises n (i.Date day ∷ items) h = absurd (false≢true h)

rise_only : (items : List Item) → rise items ≡ true → items ≡ node_items (numbers_among items)
rise_only [] h = refl
rise_only (i.Node n ∷ items) h = ap (λ xs. i.Node n ∷ xs) (behind_only n items h)
rise_only (i.Boolean b ∷ items) h = absurd (false≢true h)
rise_only (i.Number z ∷ items) h = absurd (false≢true h)
rise_only (i.String s ∷ items) h = absurd (false≢true h)
rise_only (i.Untyped s ∷ items) h = absurd (false≢true h)
rise_only (i.Date day ∷ items) h = absurd (false≢true h)

rise_rises : (items : List Item) → rise items ≡ true → rises (numbers_among items) ≡ true
rise_rises [] h = refl
rise_rises (i.Node n ∷ items) h = behind_rises n items h
rise_rises (i.Boolean b ∷ items) h = absurd (false≢true h)
rise_rises (i.Number z ∷ items) h = absurd (false≢true h)
rise_rises (i.String s ∷ items) h = absurd (false≢true h)
rise_rises (i.Untyped s ∷ items) h = absurd (false≢true h)
rise_rises (i.Date day ∷ items) h = absurd (false≢true h)

-- Items that rise are in document order, by the law on rising numbers.
pub rise_ordered : (document : Document) (items : List Item) → IsWalked document
    → ((all : List Node) (ns : List ℕ) → AreNumbers all ns → rises ns ≡ true → node_items ns ≡ in_document_order all (node_items ns))
    → rise items ≡ true → AreWithin (length document.nodes) items → items ≡ in_document_order (tree_nodes document) items
rise_ordered document items w law h within =
    let ns = numbers_among items in
    let same = rise_only items h in
    let numbers = are_numbers document ns w (subst (AreWithin (length document.nodes)) same within) in
    same ∙ (law (tree_nodes document) ns numbers (rise_rises items h) ∙ ap (in_document_order (tree_nodes document)) (sym same))

-- ---- items without nodes

-- They are their own atoms.
pub plain_atoms : (nodes : List Node) (items : List Item) → list_any is_node items ≡ false → atomised nodes items ≡ items
plain_atoms nodes [] h = refl
plain_atoms nodes (i.Node n ∷ items) h = absurd (false≢true (sym h))
plain_atoms nodes (i.Boolean b ∷ items) h = ap (λ xs. i.Boolean b ∷ xs) (plain_atoms nodes items h)
plain_atoms nodes (i.Number z ∷ items) h = ap (λ xs. i.Number z ∷ xs) (plain_atoms nodes items h)
plain_atoms nodes (i.String s ∷ items) h = ap (λ xs. i.String s ∷ xs) (plain_atoms nodes items h)
plain_atoms nodes (i.Untyped s ∷ items) h = ap (λ xs. i.Untyped s ∷ xs) (plain_atoms nodes items h)
plain_atoms nodes (i.Date day ∷ items) h = ap (λ xs. i.Date day ∷ xs) (plain_atoms nodes items h)
