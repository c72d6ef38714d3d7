-- Notes judged character by character.
use Rattle.std.proofs.Common.{◌≡◌, ℕ, ◌+◌, ◌<◌, ◌≤◌, ◌==◌, ◌&&◌, ◌||◌, not, Bool, true, false, List, [], ◌∷◌, length, drop, get_or, refl, ap, sym, ◌∙◌, arith}
use Rattle.std.proofs.lemmas.Bool.Decides.{nat_tests}
use Rattle.std.proofs.lemmas.List.{at_drop_more, at_drop_all}
use Rattle.inv_base.specs.Characters.{is_white_space}
use Rattle.inv_terms.specs.Values.{is_blank}
use Rattle.bind_meaning.specs.Values.{is_subject_character}
use Rattle.bind_carrying.specs.Carrying.{is_subject, is_coded_note}
use Rattle.bind_carrying.specs.Notes.{fits_subject, fits_note, next_place, full_at, note_from, subject_from}

and_false : (a : Bool) → (a && false) ≡ false
and_false true = refl
and_false false = refl

and_true : (a : Bool) → (a && true) ≡ a
and_true true = refl
and_true false = refl

ends2 : (a b : Bool) → (a && (b && false)) ≡ false
ends2 true b = and_false b
ends2 false b = refl

ends3 : (a b c : Bool) → (a && (b && (c && false))) ≡ false
ends3 true b c = ends2 b c
ends3 false b c = refl

ends4 : (a b c d : Bool) → (a && (b && (c && (d && false)))) ≡ false
ends4 true b c d = ends3 b c d
ends4 false b c d = refl

ends5 : (a b c d e : Bool) → (a && (b && (c && (d && (e && false))))) ≡ false
ends5 true b c d e = ends4 b c d e
ends5 false b c d e = refl

-- ---- subject codes

whole3 : (a b c : Bool) → (a && (b && (c && true))) ≡ (a && (b && c))
whole3 true true c = and_true c
whole3 true false c = refl
whole3 false b c = refl

pub subject-whole : (text : List ℕ) → subject_from 0 text ≡ is_subject text
subject-whole [] = refl
subject-whole (a ∷ []) = and_false (is_subject_character a)
subject-whole (a ∷ (b ∷ [])) = ends2 (is_subject_character a) (is_subject_character b)
subject-whole (a ∷ (b ∷ (c ∷ []))) = whole3 (is_subject_character a) (is_subject_character b) (is_subject_character c)
subject-whole (a ∷ (b ∷ (c ∷ (d ∷ text)))) = ends3 (is_subject_character a) (is_subject_character b) (is_subject_character c)

pub subject-turn : (text : List ℕ) (n c place : ℕ) → (n < length text) × (c ≡ get_or text n c) →
    subject_from place (drop n text) ≡ (fits_subject place c && subject_from (place + 1) (drop (n + 1) text))
subject-turn text n c place h = at_drop_more (subject_from place) text n c h.0 ∙ ap (λ x. fits_subject place x && subject_from (place + 1) (drop (n + 1) text))
    (sym h.1)

pub subject-end : (text : List ℕ) (n place : ℕ) → length text ≤ n → subject_from place (drop n text) ≡ (place == 3)
subject-end text n place h = at_drop_all (subject_from place) text n h

pub subject-bound : (place c : ℕ) → fits_subject place c ≡ true → place < 3
subject-bound place c e = grind (arith, nat_tests)

-- ---- notes

full_more : (full blank rest : Bool) → ((full || (true && not blank)) || not rest) ≡ (full || not (blank && rest))
full_more true blank rest = refl
full_more false true rest = refl
full_more false false rest = refl

note-tail : (text : List ℕ) (full : Bool) → note_from 5 full text ≡ (full || not (is_blank text))
note-tail [] true = refl
note-tail [] false = refl
note-tail (c ∷ text) full = note-tail text (full || (true && not (is_white_space c))) ∙ full_more full (is_white_space c) (is_blank text)

regroup : (f a b c l x : Bool) → (f && (a && (b && (c && (l && x))))) ≡ ((f && l) && ((a && (b && c)) && x))
regroup false a b c l x = refl
regroup true false b c true x = refl
regroup true false b c false x = refl
regroup true true false c true x = refl
regroup true true false c false x = refl
regroup true true true false true x = refl
regroup true true true false false x = refl
regroup true true true true true x = refl
regroup true true true true false x = refl

pub note-whole : (text : List ℕ) → note_from 0 false text ≡ is_coded_note text
note-whole [] = refl
note-whole (f ∷ []) = and_false (f == 35)
note-whole (f ∷ (a ∷ [])) = ends2 (f == 35) (is_subject_character a)
note-whole (f ∷ (a ∷ (b ∷ []))) = ends3 (f == 35) (is_subject_character a) (is_subject_character b)
note-whole (f ∷ (a ∷ (b ∷ (c ∷ [])))) = ends4 (f == 35) (is_subject_character a) (is_subject_character b) (is_subject_character c)
note-whole (f ∷ (a ∷ (b ∷ (c ∷ (l ∷ text))))) =
    ap (λ x. (f == 35) && (is_subject_character a && (is_subject_character b && (is_subject_character c && ((l == 35) && x))))) (note-tail text false)
    ∙ regroup (f == 35) (is_subject_character a) (is_subject_character b) (is_subject_character c) (l == 35) (not (is_blank text))

pub note-turn : (text : List ℕ) (n c place : ℕ) (full : Bool) → (n < length text) × (c ≡ get_or text n c)
    → note_from place full (drop n text) ≡ (fits_note place c && note_from (next_place place) (full_at place full c) (drop (n + 1) text))
note-turn text n c place full h =
    at_drop_more (note_from place full) text n c h.0 ∙ ap (λ x. fits_note place x && note_from (next_place place) (full_at place full x) (drop (n + 1) text))
    (sym h.1)

pub note-end : (text : List ℕ) (n place : ℕ) (full : Bool) → length text ≤ n → note_from place full (drop n text) ≡ full
note-end text n place full h = at_drop_all (note_from place full) text n h
