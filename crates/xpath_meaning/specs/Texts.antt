-- Functions on texts (Functions and Operators, sections 7.4 and 7.5), over lists of characters by their code points.
use Rattle.std.specs.Prelude.{ℕ, suc, ◌+◌, ◌-◌, Bool, true, false, ◌&&◌, List, [], ◌∷◌, ◌++◌, length, drop, take, Option, Some, None, ℤ, pos, ◌+ℤ◌, int_lt}
use Rattle.std.specs.Prelude.{int_le, nat_le, ◌==◌}
use Rattle.std.specs.Int.{int_div_euclid}
use Rattle.std.specs.List.{flat_map}
use Rattle.std.specs.Str.{bytes_eq}
use Rattle.inv_base.specs.Characters.{is_white_space, is_within}
use Rattle.inv_decimal.specs.Number.{unit}
use Rattle.inv_decimal.specs.Arithmetic.{half}
use Rattle.xsd_pattern.specs.Matching.{matches}
use Rattle.xpath_meaning.specs.Items.{is_empty}
use Rattle.xpath_meaning.specs.Reading.{trimmed}

-- the text begins with the piece
abbrev pub begins : List ℕ → List ℕ → Bool
begins [] text = true
begins (c ∷ piece) [] = false
begins (c ∷ piece) (d ∷ text) = c == d && begins piece text

-- where the piece first stands in the text
abbrev pub one_on : Option ℕ → Option ℕ
one_on None = None
one_on (Some n) = Some (suc n)

abbrev pub first_place : List ℕ → List ℕ → Option ℕ
first_place piece [] = elim (is_empty piece) [ true ↦ Some 0 | false ↦ None ]
first_place piece (c ∷ text) = elim (begins piece (c ∷ text)) [ true ↦ Some 0 | false ↦ one_on (first_place piece text) ]

abbrev pub contains : List ℕ → List ℕ → Bool
contains text piece = elim (first_place piece text) [ None ↦ false | Some n ↦ true ]

abbrev pub ends : List ℕ → List ℕ → Bool
ends piece text = nat_le (length piece) (length text) && bytes_eq piece (drop (length text - length piece) text)

-- the pattern is found in the text; a text that is no pattern that is taken is found nowhere
unfoldable pub finds : List ℕ → List ℕ → Bool
finds pattern text = matches text pattern

-- up to the first place of the piece; nothing where it has none
abbrev pub before : List ℕ → List ℕ → List ℕ
before text piece = elim (first_place piece text) [ None ↦ [] | Some n ↦ take n text ]

abbrev pub behind : List ℕ → List ℕ → List ℕ
behind text piece = elim (first_place piece text) [ None ↦ [] | Some n ↦ drop (n + length piece) text ]

-- White space

-- each run of white space as one space
abbrev pub single_spaced : Bool → List ℕ → List ℕ
single_spaced in_run [] = []
single_spaced in_run (c ∷ text) = elim (is_white_space c) [
  | true ↦ elim in_run [ true ↦ single_spaced true text | false ↦ 32 ∷ single_spaced true text ]
  | false ↦ c ∷ single_spaced false text
]

abbrev pub normalised : List ℕ → List ℕ
normalised text = single_spaced false (trimmed text)

-- Deviation: upper and lower case are of the letters of ASCII alone.

abbrev pub upper : ℕ → ℕ
upper c = elim (is_within 97 122 c) [ true ↦ c - 32 | false ↦ c ]

abbrev pub lower : ℕ → ℕ
lower c = elim (is_within 65 90 c) [ true ↦ c + 32 | false ↦ c ]

-- what stands at the place of the character's first place in the other list: the character itself where it isn't in
-- this one, and nothing where the other ends before
abbrev pub first_of : List ℕ → List ℕ
first_of [] = []
first_of (d ∷ to) = d ∷ []

abbrev pub rest_of : List ℕ → List ℕ
rest_of [] = []
rest_of (d ∷ to) = to

abbrev pub translated_character : List ℕ → List ℕ → ℕ → List ℕ
translated_character [] to c = c ∷ []
translated_character (d ∷ from) to c = elim (c == d) [ true ↦ first_of to | false ↦ translated_character from (rest_of to) c ]

abbrev pub translated : List ℕ → List ℕ → List ℕ → List ℕ
translated text from to = flat_map (translated_character from to) text

-- Parts by places, which count from 1

-- the whole number next to it, a half upwards, of any size
abbrev pub rounded : ℤ → ℤ
rounded z = int_div_euclid (z +ℤ pos half) (pos unit)

-- the characters whose places pass the test, where the first has the place
abbrev pub at_places : (ℕ → Bool) → ℕ → List ℕ → List ℕ
at_places test place [] = []
at_places test place (c ∷ text) = elim (test place) [ true ↦ c ∷ at_places test (suc place) text | false ↦ at_places test (suc place) text ]

abbrev pub from_place : List ℕ → ℤ → List ℕ
from_place text start = at_places (λ place. int_le (rounded start) (pos place)) 1 text

abbrev pub between_places : List ℕ → ℤ → ℤ → List ℕ
between_places text start count =
    at_places (λ place. int_le (rounded start) (pos place) && int_lt (pos place) (rounded start +ℤ rounded count)) 1 text

-- the texts with the separator between them
abbrev pub behind_separator : List ℕ → List (List ℕ) → List ℕ
behind_separator separator [] = []
behind_separator separator (text ∷ texts) = separator ++ (text ++ behind_separator separator texts)

abbrev pub with_separator : List ℕ → List (List ℕ) → List ℕ
with_separator separator [] = []
with_separator separator (text ∷ texts) = text ++ behind_separator separator texts
