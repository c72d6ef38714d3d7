-- Which events tell which tree, wherever its parts stand and however its names are numbered.
use Rattle.std.specs.Prelude.{◌≡◌, ℕ, ◌<◌, List, [], ◌∷◌, ◌++◌, length}
use Rattle.inv_base.specs.Tree.{Name, Attribute, Forest, no_more, a_text, an_element}
use Rattle.xml_events.specs.Events.{Event, starts, has_attribute, has_text, ends, name_at}

-- The number is that of the name.
pub record IsNumberOf (names : List Name) (name : Name) (number : ℕ) : Type 0 where
  pub within : number < length names
  pub is : name_at names number ≡ name

abbrev pub TellsAttributes : List Name → List Attribute → List Event → Type 0
TellsAttributes names [] events = events ≡ []
TellsAttributes names (attribute ∷ attributes) events =
    (number : ℕ) × (more : List Event) × IsNumberOf names attribute.name number
    × (events ≡ has_attribute number attribute.value ∷ more) × TellsAttributes names attributes more

abbrev pub Tells : List Name → Forest → List Event → Type 0
Tells names no_more events = events ≡ []
Tells names (a_text characters rest) events =
    (place : ℕ) × (more : List Event) × (events ≡ has_text characters place ∷ more) × Tells names rest more
Tells names (an_element name attributes inside rest) events =
    (number : ℕ) × (place : ℕ) × (first : List Event) × (inner : List Event) × (more : List Event) × IsNumberOf names name number
    × (events ≡ starts number place ∷ (first ++ (inner ++ (ends ∷ more))))
    × TellsAttributes names attributes first × Tells names inside inner × Tells names rest more
