-- What a reader tells of a document, in order, and what a receiver has taken of it.
use Rattle.std.specs.Prelude.{ℕ, zero, suc, List, [], ◌∷◌, ◌++◌, Result, MatchResult}
use Rattle.inv_base.specs.Tree.{Name, Attribute, Forest, no_more, a_text, an_element}

-- An element begins, by the number of its name and the place of its tag; it has an attribute, by the number of its name
-- and its value; a text begins at a place; the innermost element ends. Values and texts are characters.
pub data Event : Type 0 where
  starts : ℕ → ℕ → Event
  has_attribute : ℕ → List ℕ → Event
  has_text : List ℕ → ℕ → Event
  ends : Event

-- An event behind another: a text goes on behind a text.
abbrev pub joined : Event → Event → List Event
joined (has_text a p) (has_text b q) = has_text (a ++ b) p ∷ []
joined d e = d ∷ e ∷ []

-- the events and one more
abbrev pub with_event : List Event → Event → List Event
with_event [] e = e ∷ []
with_event (d ∷ []) e = joined d e
with_event (d ∷ (c ∷ events)) e = d ∷ with_event (c ∷ events) e

-- the events and more, one after another
abbrev pub with_events : List Event → List Event → List Event
with_events events [] = events
with_events events (e ∷ more) = with_events (with_event events e) more

-- A receiver that had taken any events has taken one more behind them, and behind a refusal the same.
abbrev pub Takes : {T E : Type 0} → Result T E → Event → (List Event → Type 0) → (List Event → Type 0) → Type 0
Takes result e before after = MatchResult result
    (λ _. (events : List Event) → before events → after (with_event events e))
    (λ _. (events : List Event) → before events → after events)

-- A receiver that had taken any events has taken these behind them.
abbrev pub TakesAll : List Event → (List Event → Type 0) → (List Event → Type 0) → Type 0
TakesAll more before after = (events : List Event) → before events → after (with_events events more)

-- The trees that events leave, read from the last event back: what stands side by side in each element that is still
-- open towards the end, from the innermost. An attribute belongs to the element that started last before it.
pub record Trees : Type 0 where
  pub attributes : List Attribute
  pub inside : Forest
  pub around : List Forest

abbrev pub name_at : List Name → ℕ → Name
name_at [] n = record { uri = []; local = [] }
name_at (name ∷ names) n = elim n [ zero ↦ name | suc k ↦ name_at names k ]

abbrev pub started : Name → Trees → Trees
started name trees = elim trees.around [
  | [] ↦ record { attributes = []; inside = an_element name trees.attributes trees.inside no_more; around = [] }
  | (rest ∷ forests) ↦ record { attributes = []; inside = an_element name trees.attributes trees.inside rest; around = forests }
]

abbrev pub trees_of : List Name → List Event → Trees
trees_of names [] = record { attributes = []; inside = no_more; around = [] }
trees_of names (starts n place ∷ events) = started (name_at names n) (trees_of names events)
trees_of names (has_attribute n value ∷ events) = let trees = trees_of names events in
    record { attributes = record { name = name_at names n; value = value } ∷ trees.attributes; inside = trees.inside; around = trees.around }
trees_of names (has_text characters place ∷ events) = let trees = trees_of names events in
    record { attributes = trees.attributes; inside = a_text characters trees.inside; around = trees.around }
trees_of names (ends ∷ events) = let trees = trees_of names events in
    record { attributes = []; inside = no_more; around = trees.inside ∷ trees.around }

-- the tree of the events of a whole document
unfoldable pub tree_of_events : List Name → List Event → Forest
tree_of_events names events = (trees_of names events).inside
