-- What characters become, where it was looked up before.
use Rattle.std.specs.Prelude.{◌≡◌, ℕ, List, [], ◌∷◌, Option, Some, None}
use Rattle.std.specs.Option.{option_to_list}
use Rattle.xpath_meaning.specs.Texts.{translated_character}

abbrev pub or_itself : ℕ → Option (Option ℕ) → List ℕ
or_itself c None = c ∷ []
or_itself c (Some found) = option_to_list found

-- what a character becomes by a table: itself, where it isn't there
abbrev pub looked_up : (ℕ → Option (Option ℕ)) → ℕ → List ℕ
looked_up table c = or_itself c (table c)

abbrev pub Translates : (ℕ → Option (Option ℕ)) → List ℕ → List ℕ → Type 0
Translates table from to = (c : ℕ) → looked_up table c ≡ translated_character from to c
