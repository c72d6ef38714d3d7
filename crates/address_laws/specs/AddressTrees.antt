-- The tree of a list of leaves. A leaf has an address: for each element on the way to it the number of the element in the table, and which of the
-- element's occurrences it is. Leaves whose addresses begin alike stand in one element, and elements beside one another stand in the order of
-- these pairs.
use Rattle.std.specs.Prelude.{ℕ, zero, suc, ◌==◌, nat_lt, Bool, true, false, ◌&&◌, ◌||◌, List, [], ◌∷◌, ◌++◌, length, flat_map, max}
use Rattle.inv_base.specs.Tree.{Forest, no_more, an_element, Attribute}
use Rattle.bind_rows.specs.declared.rows.Step.{Step}
use Rattle.bind_meaning.specs.Trees.{name_of, with_text}

-- an element of a table, and which of its occurrences, from 1
pub record Place : Type 0 where
  pub step : Step
  pub occurrence : ℕ

-- What stands at the end of an address: a text of the last element, an attribute of it, its currency, or nothing but the element itself, which is
-- always written where the element around it is.
pub data Said : Type 0 where
  a_string : List ℕ → Said
  an_attribute : Attribute → Said
  a_currency : Attribute → Said
  a_mark : Said

pub record Leaf : Type 0 where
  pub address : List Place
  pub said : Said

-- ---- places in their order

abbrev pub same_place : Place → Place → Bool
same_place p q = (p.step.number == q.step.number) && (p.occurrence == q.occurrence)

abbrev pub comes_before : Place → Place → Bool
comes_before p q = nat_lt p.step.number q.step.number || ((p.step.number == q.step.number) && nat_lt p.occurrence q.occurrence)

-- the places in rising order with one more, if it isn't among them
abbrev pub put : Place → List Place → List Place
put p [] = p ∷ []
put p (q ∷ qs) = elim (same_place p q) [ true ↦ q ∷ qs | false ↦ elim (comes_before p q) [ true ↦ p ∷ (q ∷ qs) | false ↦ q ∷ put p qs ] ]

-- the places in rising order, each once
abbrev pub in_order : List Place → List Place
in_order [] = []
in_order (p ∷ ps) = put p (in_order ps)

-- ---- the leaves in an element

-- Elements stand where something is in them; one that is always written stands by itself, but calls for no element around it.
abbrev pub calls_for : Said → List Place → Bool
calls_for (a_string text) rest = true
calls_for (an_attribute attribute) rest = true
calls_for (a_currency attribute) rest = true
calls_for a_mark [] = true
calls_for a_mark (p ∷ rest) = false

abbrev pub where_so : {A : Type 0} → Bool → A → List A
where_so true x = x ∷ []
where_so false x = []

abbrev pub first_at : List Place → Said → List Place
first_at [] said = []
first_at (p ∷ rest) said = where_so (calls_for said rest) p

abbrev pub first_of : Leaf → List Place
first_of leaf = first_at leaf.address leaf.said

-- the places with which the leaves' addresses begin
abbrev pub firsts : List Leaf → List Place
firsts leaves = flat_map first_of leaves

abbrev pub behind_at : Place → List Place → Said → List Leaf
behind_at p [] said = []
behind_at p (q ∷ rest) said = where_so (same_place p q) (record { address = rest; said = said })

abbrev pub behind : Place → Leaf → List Leaf
behind p leaf = behind_at p leaf.address leaf.said

-- the leaves in the element at a place, with the rest of their addresses
abbrev pub inside : Place → List Leaf → List Leaf
inside p leaves = flat_map (behind p) leaves

-- ---- what stands at the element itself

abbrev pub text_in : Said → List ℕ
text_in (a_string text) = text
text_in (an_attribute attribute) = []
text_in (a_currency attribute) = []
text_in a_mark = []

abbrev pub attribute_in : Said → List Attribute
attribute_in (a_string text) = []
attribute_in (an_attribute attribute) = attribute ∷ []
attribute_in (a_currency attribute) = []
attribute_in a_mark = []

abbrev pub currency_in : Said → List Attribute
currency_in (a_string text) = []
currency_in (an_attribute attribute) = []
currency_in (a_currency attribute) = attribute ∷ []
currency_in a_mark = []

-- what leaves that end here say
abbrev pub said_at_end : {A : Type 0} → (Said → List A) → List Place → Said → List A
said_at_end of [] said = of said
said_at_end of (p ∷ rest) said = []

abbrev pub said_here : {A : Type 0} → (Said → List A) → List Leaf → List A
said_here of leaves = flat_map (λ (leaf : Leaf). said_at_end of leaf.address leaf.said) leaves

-- ---- the tree

abbrev pub siblings : (Place → Forest → Forest) → List Place → Forest
siblings make [] = no_more
siblings make (p ∷ ps) = make p (siblings make ps)

-- the element at a place, by the leaves in it
abbrev pub element_of : (List Leaf → Forest) → Place → List Leaf → Forest → Forest
element_of deeper p leaves rest =
    an_element (name_of p.step.name) (said_here currency_in leaves ++ said_here attribute_in leaves) (with_text (said_here text_in leaves) (deeper leaves)) rest

-- as many elements deep as the number says
abbrev pub tree : ℕ → List Leaf → Forest
tree zero leaves = no_more
tree (suc n) leaves = siblings (λ p rest. element_of (tree n) p (inside p leaves) rest) (in_order (firsts leaves))

abbrev pub depth : List Leaf → ℕ
depth [] = 0
depth (leaf ∷ leaves) = max (length leaf.address) (depth leaves)

abbrev pub tree_of : List Leaf → Forest
tree_of leaves = tree (depth leaves) leaves
