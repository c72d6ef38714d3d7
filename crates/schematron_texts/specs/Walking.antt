-- One walk over a text in which parameters are replaced, character by character. proofs/ has the law that it makes what
-- `replaced` says.
use Rattle.std.specs.Prelude.{◌≡◌, ℕ, ◌<◌, Bool, true, false, ◌==◌, List, [], ◌∷◌, ◌++◌, Option, option_map, unwrap_or, chars, string_bytes}
use Rattle.std.specs.Borrow.{Bor}
use Rattle.inv_base.specs.Characters.{is_name_start, is_name_char}
use Rattle.schematron_texts.specs.declared.replacing.Walk.{Walk}
use Rattle.schematron_texts.specs.Replacing.{Parameter, value_of, bytes_of}

-- All was made where it fits into so many bytes; where it doesn't, it has more.
abbrev pub IsMade : ℕ → Bool → List ℕ → List ℕ → Type 0
IsMade most true whole made = made ≡ whole
IsMade most false whole made = most < bytes_of whole

-- A name so far goes on with the character, or begins with it.
abbrev pub goes_on : List ℕ → ℕ → Bool
goes_on [] c = is_name_start c
goes_on (d ∷ name) c = is_name_char c

-- the value for a name, none where there is no name
abbrev pub value_for : List Parameter → List ℕ → Option (List ℕ)
value_for parameters [] = Option.None
value_for parameters (c ∷ name) = value_of parameters (c ∷ name)

abbrev pub found_for : List Parameter → List ℕ → Option (Bor (List ℕ)) → Type 0
found_for parameters name found = option_map (λ value. chars value.now) found ≡ value_for parameters name

-- what stands for `$` and a name
abbrev pub put : List Parameter → List ℕ → List ℕ
put parameters name = unwrap_or (value_for parameters name) (36 ∷ name)

-- what becomes of a text, behind a name that is open or where none is
abbrev pub walked : List Parameter → Bool → List ℕ → List ℕ → List ℕ
walked parameters false name [] = []
walked parameters true name [] = put parameters name
walked parameters false name (c ∷ text) = elim (c == 36) [ true ↦ walked parameters true [] text | false ↦ c ∷ walked parameters false name text ]
walked parameters true name (c ∷ text) = elim (goes_on name c) [
  | true ↦ walked parameters true (name ++ c ∷ []) text
  | false ↦ put parameters name ++ (elim (c == 36) [ true ↦ walked parameters true [] text | false ↦ c ∷ walked parameters false name text ])
]

-- all that becomes of a text, what was made before it included
abbrev pub made_with : List Parameter → Walk → List ℕ → List ℕ
made_with parameters walk text = chars (string_bytes walk.out) ++ walked parameters walk.in_name (chars (string_bytes walk.name)) text
