-- Notes judged character by character. No public clause cites it.
use Rattle.std.specs.Prelude.{ℕ, ◌+◌, ◌==◌, nat_lt, nat_le, Bool, true, not, ◌&&◌, ◌||◌, List, [], ◌∷◌, if◌then◌else◌}
use Rattle.inv_base.specs.Characters.{is_white_space}
use Rattle.bind_meaning.specs.Values.{is_subject_character}

abbrev pub fits_subject : ℕ → ℕ → Bool
fits_subject place c = nat_lt place 3 && is_subject_character c

abbrev pub fits_note : ℕ → ℕ → Bool
fits_note place c = if (place == 0) || (place == 4) then c == 35 else (if nat_lt place 4 then is_subject_character c else true)

abbrev pub next_place : ℕ → ℕ
next_place place = if nat_lt place 5 then place + 1 else place

abbrev pub full_at : ℕ → Bool → ℕ → Bool
full_at place full c = full || (nat_le 5 place && not (is_white_space c))

-- the characters from a place on may be those of a note with a subject code; `full` says that one behind it was no white space
abbrev pub note_from : ℕ → Bool → List ℕ → Bool
note_from place full [] = full
note_from place full (c ∷ text) = fits_note place c && note_from (next_place place) (full_at place full c) text

abbrev pub subject_from : ℕ → List ℕ → Bool
subject_from place [] = place == 3
subject_from place (c ∷ text) = fits_subject place c && subject_from (place + 1) text
