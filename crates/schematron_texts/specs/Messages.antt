-- The message of a finding: its pieces one behind another, in which each run of white space is one space, and none is
-- at the ends. White space is that of XML 1.0 (production 3); other spaces stay.
use Rattle.std.specs.Prelude.{ℕ, Bool, true, false, List, [], ◌∷◌, ◌++◌}
use Rattle.inv_base.specs.Characters.{is_white_space}

-- a character behind the space that waits, if one does
abbrev pub spaced : Bool → ℕ → List ℕ
spaced true c = 32 ∷ c ∷ []
spaced false c = c ∷ []

-- what becomes of a text behind others: whether they had a character that is no space, and whether a space waits behind
-- it
abbrev pub squeezed_behind : Bool → Bool → List ℕ → List ℕ
squeezed_behind begun waits [] = []
squeezed_behind begun waits (c ∷ text) = elim (is_white_space c) [
  | true ↦ squeezed_behind begun begun text
  | false ↦ spaced waits c ++ squeezed_behind true false text
]

-- what becomes of a text
abbrev pub squeezed : List ℕ → List ℕ
squeezed text = squeezed_behind false false text

-- Behind a text a character that is no space has stood.
abbrev pub begun_behind : Bool → List ℕ → Bool
begun_behind begun [] = begun
begun_behind begun (c ∷ text) = elim (is_white_space c) [ true ↦ begun_behind begun text | false ↦ begun_behind true text ]

-- Behind a text a space waits for a character that is none.
abbrev pub waits_behind : Bool → Bool → List ℕ → Bool
waits_behind begun waits [] = waits
waits_behind begun waits (c ∷ text) = elim (is_white_space c) [ true ↦ waits_behind begun begun text | false ↦ waits_behind true false text ]

-- a message so far: what is written of it, whether it has begun, and whether a space waits
pub record Written : Type 0 where
  pub text : List ℕ
  pub begun : Bool
  pub waits : Bool

-- the message of a text
abbrev pub message_of : List ℕ → Written
message_of text = record { text = squeezed text; begun = begun_behind false text; waits = waits_behind false false text }
