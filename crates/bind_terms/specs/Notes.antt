-- The first characters of a note, as the code reads them.
use Rattle.std.specs.Prelude.{◌≡◌, ◌==◌, ◌&&◌, not, ℕ, Bool, List, [], ◌∷◌, chars, Option, Some, None}
use Rattle.std.specs.Borrow.{Bor}
use Rattle.std.specs.List.{list_all}
use Rattle.inv_terms.specs.Values.{is_blank}
use Rattle.bind_meaning.specs.Values.{note_of, plain_note, is_subject_character}
use Rattle.bind_terms.specs.declared.notes.Front.{Front}

-- the first character, and the text behind it
abbrev pub IsFirst : List ℕ → Option (ℕ × Bor (List ℕ)) → Type 0
IsFirst text None = chars text ≡ []
IsFirst text (Some found) = chars text ≡ found.0 ∷ chars found.1.now

-- the five characters and the rest, or a text that is too short for a subject code
abbrev pub IsFront : List ℕ → Option Front → Type 0
IsFront text None = note_of text ≡ plain_note text
IsFront text (Some f) = text ≡ f.first ∷ (f.a ∷ (f.b ∷ (f.c ∷ (f.last ∷ chars f.text.now))))

-- The characters are those in front of a subject code, it, and those behind it, and the text isn't blank.
abbrev pub is_coded : Front → Bool
is_coded f =
    ((f.first == 35) && (f.last == 35))
    && (list_all is_subject_character (f.a ∷ (f.b ∷ (f.c ∷ []))) && not (is_blank (chars f.text.now)))
