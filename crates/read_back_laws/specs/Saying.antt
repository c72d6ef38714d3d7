-- What items say by what is spelled at their places in a text.
use Rattle.std.specs.Prelude.{◌≡◌, ℕ, ◌+◌, ◌-◌, ◌≤◌, List, [], ◌∷◌, length, take, drop, Option, Some, None, decimal, encode_utf8_all}
use Rattle.json_text.specs.Json.{Json, nothing, a_text, a_number, an_array, an_object}
use Rattle.json_reading.specs.declared.item.Item.{Item}
use Rattle.json_reading.specs.declared.item.ItemKind.{ItemKind}
use Rattle.json_reading.specs.declared.item.ItemKind.TheVariants as kinds
use Rattle.json_reading.specs.declared.item.Span.{Span}
use Rattle.json_reading.specs.Texts.{text_of, between}
use Rattle.read_back_laws.specs.Items.{has_escape}

-- Between the quotes of the span stands a string of these characters. It is called escaped where one of them is.
pub record IsString (bytes : List ℕ) (s : Span) (characters : List ℕ) : Type 0 where
  pub text : text_of (between (s.at + 1) (s.end - 1) bytes) ≡ Some (encode_utf8_all characters)
  pub escaped : s.escaped ≡ has_escape characters

-- an item has this name, or none
abbrev pub IsNamed : List ℕ → Option Span → Option (List ℕ) → Type 0
IsNamed bytes (Some s) (Some name) = IsString bytes s name
IsNamed bytes (Some s) None = ⊥
IsNamed bytes None (Some name) = ⊥
IsNamed bytes None None = Unit {0}

-- an item is a text
pub record IsText (bytes : List ℕ) (i : Item) (name : Option (List ℕ)) (characters : List ℕ) : Type 0 where
  pub kind : i.kind ≡ kinds.Text
  pub named : IsNamed bytes i.name name
  pub value : IsString bytes i.value characters
  pub inside : i.inside ≡ 0

-- an item is a number, spelled by its digits
pub record IsNumber (bytes : List ℕ) (i : Item) (name : Option (List ℕ)) (n : ℕ) : Type 0 where
  pub kind : i.kind ≡ kinds.Number
  pub named : IsNamed bytes i.name name
  pub value : between i.value.at i.value.end bytes ≡ decimal n
  pub inside : i.inside ≡ 0

-- an item is an array or object, and all that is inside it is among those behind it
pub record Holds (bytes : List ℕ) (i : Item) (name : Option (List ℕ)) (wanted : ItemKind) (behind : List Item) : Type 0 where
  pub kind : i.kind ≡ wanted
  pub named : IsNamed bytes i.name name
  pub inside : i.inside ≤ length behind

-- what holds of the first item and those behind it; one has to be there
abbrev pub AtFirst : (Item → List Item → Type 0) → List Item → Type 0
AtFirst P [] = ⊥
AtFirst P (i ∷ behind) = P i behind

-- The items are exactly those of the values side by side: each value has its item, with its name, and behind an array or object are as
-- many items as its item tells for what is inside it, and then those of what follows.
abbrev pub Say : List ℕ → List Item → Json → Type 0
Say bytes items nothing = items ≡ []
Say bytes items (a_text name characters rest) = AtFirst (λ i behind. IsText bytes i name characters × Say bytes behind rest) items
Say bytes items (a_number name n rest) = AtFirst (λ i behind. IsNumber bytes i name n × Say bytes behind rest) items
Say bytes items (an_array name inside rest) = AtFirst (λ i behind.
    Holds bytes i name kinds.Array behind × (Say bytes (take i.inside behind) inside × Say bytes (drop i.inside behind) rest)) items
Say bytes items (an_object name inside rest) = AtFirst (λ i behind.
    Holds bytes i name kinds.Object behind × (Say bytes (take i.inside behind) inside × Say bytes (drop i.inside behind) rest)) items
