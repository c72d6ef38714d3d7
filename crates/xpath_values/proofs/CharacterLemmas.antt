-- Texts made character by character.
use Rattle.std.proofs.Common.{◌≡◌, ℕ, zero, suc, ◌+◌, ◌<◌, Bool, true, false, cond, List, [], ◌∷◌, ◌++◌, length, drop, get_or, Option, Some, None, refl, ap}
use Rattle.std.proofs.Common.{sym, ◌∙◌, arith, add-one, append_assoc, ◌⊎◌, inl, inr, string_bytes, String}
use Rattle.std.specs.Prelude.{◌==◌, if◌then◌else◌, Result, Ok, Err, is_ok, IfOk, OnOk, slice_get}
use Rattle.std.specs.Ordering.{nat_cmp, is_eq}
use Rattle.std.specs.Option.{option_to_list}
use Rattle.std.specs.Str.{chars, IsUtf8}
use Rattle.std.proofs.Math.Seq.{drop-cons}
use Rattle.std.proofs.lemmas.List.{append-nil, at_drop_all}
use Rattle.std.proofs.lemmas.Bool.Decides.{nat_tests}
use Rattle.std.proofs.lemmas.Str.{chars-nil, chars-append, chars_past_char, chars_from_encodes, IsUtf8-string_bytes}
use Rattle.inv_base.specs.Characters.{is_white_space}
use Rattle.xpath_meaning.specs.Texts.{single_spaced, translated, translated_character, first_of, rest_of}
use Rattle.xpath_values.specs.Spacing.{spaced_piece}
use Rattle.xpath_values.specs.Translations.{or_itself, Translates}
use lib.Utf8.{encodes, encode}

bool_cases : (b : Bool) → (b ≡ true) ⊎ (b ≡ false)
bool_cases true = inl refl
bool_cases false = inr refl

-- the member at the place, and those behind it
pub rest_at : {X : Type 0} (xs : List X) (k : ℕ) (x : X) → (k < length xs) × (x ≡ get_or xs k x) → drop k xs ≡ x ∷ drop (k + 1) xs
rest_at xs k x h = drop-cons xs k x h.0 ∙ (ap (λ y. y ∷ drop (suc k) xs) (sym h.1) ∙ ap (λ n. x ∷ drop n xs) (sym (add-one k)))

-- one character pushed

one_character : (c : ℕ) → IsUtf8 (encode c) → chars (encode c) ≡ c ∷ []
one_character c u = ap chars (sym (append-nil (encode c))) ∙
    (chars_past_char (encode c ++ []) [] c (let e : IsUtf8 (encode c ++ []) = rw append-nil u in e) refl ∙ ap (λ x. c ∷ x) chars-nil)

pub character_pushed : {E : Type 0} (r : Result (Unit {0}) E) (old new : List ℕ) (c : ℕ) → IsUtf8 old → IsUtf8 (encode c) →
    new ≡ (if is_ok r then old ++ encode c else old) → OnOk r (chars new ≡ chars old ++ c ∷ [])
character_pushed (Ok x) old new c uo uc e = ap chars e ∙ (chars-append old (encode c) uo ∙ ap (λ x. chars old ++ x) (one_character c uc))
character_pushed (Err x) old new c uo uc e = tt

-- a text that was collected
pub collected : {Z E : Type 0} (r : Result (String Z) E) (xs : List ℕ) → IfOk r (λ w. string_bytes w ≡ encodes xs) → IfOk r (λ w. chars (string_bytes w) ≡ xs)
collected (Ok w) xs e = sym (chars_from_encodes xs (string_bytes w) (IsUtf8-string_bytes w) (sym e))
collected (Err x) xs e = tt

-- a piece more, of a text that is made piece by piece
pub piece_more : (out grown piece rest : List ℕ) (whole : List ℕ) → grown ≡ out ++ piece → out ++ (piece ++ rest) ≡ whole → grown ++ rest ≡ whole
piece_more out grown piece rest whole g h = ap (λ x. x ++ rest) g ∙ (append_assoc out piece rest ∙ h)

-- white space

spaced_step : (white in_run : Bool) (c : ℕ) (text : List ℕ) →
    (elim white as (λ _. List ℕ) [
      | true ↦ elim in_run [ true ↦ single_spaced true text | false ↦ 32 ∷ single_spaced true text ]
      | false ↦ c ∷ single_spaced false text
    ])
    ≡ (elim white as (λ _. List ℕ) [ true ↦ elim in_run [ true ↦ [] | false ↦ 32 ∷ [] ] | false ↦ c ∷ [] ]) ++ single_spaced white text
spaced_step true true c text = refl
spaced_step true false c text = refl
spaced_step false in_run c text = refl

pub spaced_more : (cs out grown piece : List ℕ) (k c : ℕ) (in_run next : Bool) (whole : List ℕ) → (k < length cs) × (c ≡ get_or cs k c) → out ++
    single_spaced in_run (drop k cs) ≡ whole
    → piece ≡ spaced_piece in_run c → next ≡ is_white_space c → grown ≡ out ++ piece → grown ++ single_spaced next (drop (k + 1) cs) ≡ whole
spaced_more cs out grown piece k c in_run next whole t h p n g =
    piece_more out grown piece (single_spaced next (drop (k + 1) cs)) whole g
    (ap (λ x. out ++ (x ++ single_spaced next (drop (k + 1) cs))) p
    ∙ (ap (λ b. out ++ (spaced_piece in_run c ++ single_spaced b (drop (k + 1) cs))) n
    ∙ (sym (ap (λ x. out ++ x) (ap (single_spaced in_run) (rest_at cs k c t) ∙ spaced_step (is_white_space c) in_run c (drop (k + 1) cs))) ∙ h)))

pub spaced_end : (cs out : List ℕ) (k : ℕ) (in_run : Bool) (whole : List ℕ) → k ≡ length cs → out ++ single_spaced in_run (drop k cs) ≡ whole → out ≡ whole
spaced_end cs out k in_run whole e h =
    sym (append-nil out) ∙ (sym (ap (λ x. out ++ x) (at_drop_all (single_spaced in_run) cs k (omega arith))) ∙ h)

-- translation

pub translated_more : (from to cs out grown piece : List ℕ) (k c : ℕ) (whole : List ℕ) → (k < length cs) × (c ≡ get_or cs k c) → out ++
    translated (drop k cs) from to ≡ whole
    → piece ≡ translated_character from to c → grown ≡ out ++ piece → grown ++ translated (drop (k + 1) cs) from to ≡ whole
translated_more from to cs out grown piece k c whole t h p g =
    piece_more out grown piece (translated (drop (k + 1) cs) from to) whole g
    (ap (λ x. out ++ (x ++ translated (drop (k + 1) cs) from to)) p ∙ (sym (ap (λ x. out ++ translated x from to) (rest_at cs k c t)) ∙ h))

pub translated_end : (from to cs out : List ℕ) (k : ℕ) (whole : List ℕ) → k ≡ length cs → out ++ translated (drop k cs) from to ≡ whole → out ≡ whole
translated_end from to cs out k whole e h =
    sym (append-nil out) ∙ (sym (ap (λ x. out ++ x) (at_drop_all (λ x. translated x from to) cs k (omega arith))) ∙ h)

-- ---- a table of what characters become

first_is : (to : List ℕ) (k : ℕ) → first_of (drop k to) ≡ option_to_list (slice_get to k)
first_is [] zero = refl
first_is [] (suc k) = refl
first_is (d ∷ to) zero = refl
first_is (d ∷ to) (suc k) = first_is to k

rest_is : (to : List ℕ) (k : ℕ) → rest_of (drop k to) ≡ drop (suc k) to
rest_is [] zero = refl
rest_is [] (suc k) = refl
rest_is (d ∷ to) zero = refl
rest_is (d ∷ to) (suc k) = rest_is to k

tested : (d c : ℕ) → is_eq (nat_cmp d c) ≡ (c == d)
tested d c = grind (arith, nat_tests)

put_in : (from to : List ℕ) (k c d : ℕ) (found : Option ℕ) (old : Option (Option ℕ)) (b : Bool) → (c == d) ≡ b → option_to_list found ≡ first_of (drop k to)
    → or_itself c old ≡ translated_character from (drop (suc k) to) c → or_itself c (cond b (Some found) old) ≡ translated_character (d ∷ from) (drop k to) c
put_in from to k c d found old true e f h =
    f ∙ sym (ap (λ (b : Bool). elim b [ true ↦ first_of (drop k to) | false ↦ translated_character from (rest_of (drop k to)) c ]) e)
put_in from to k c d found old false e f h =
    h ∙ (ap (λ xs. translated_character from xs c) (sym (rest_is to k))
    ∙ sym (ap (λ (b : Bool). elim b [ true ↦ first_of (drop k to) | false ↦ translated_character from (rest_of (drop k to)) c ]) e))

next_is : (k : ℕ) → suc k ≡ k + 1
next_is k = omega arith

pub translation_put : (old new : ℕ → Option (Option ℕ)) (from to : List ℕ) (k next d : ℕ) (found : Option ℕ) → next ≡ suc k → k < length from →
    d ≡ get_or from k d → found ≡ slice_get to k
    → ((q : ℕ) → new q ≡ cond (is_eq (nat_cmp d q)) (Some found) (old q)) → Translates old (drop next from) (drop next to) →
    Translates new (drop k from) (drop k to)
translation_put old new from to k next d found n l at is put same c =
    ap (or_itself c) (put c ∙ ap (λ b. cond b (Some found) (old c)) (tested d c))
    ∙ (put_in (drop (suc k) from) to k c d found (old c) (c == d) refl (ap option_to_list is ∙ sym (first_is to k))
    (same c ∙ ap (λ m. translated_character (drop m from) (drop m to) c) n)
    ∙ ap (λ xs. translated_character xs (drop k to) c) (ap (λ m. d ∷ drop m from) (next_is k) ∙ sym (rest_at from k d (l, at))))

drop_all : (from : List ℕ) → drop (length from) from ≡ []
drop_all [] = refl
drop_all (c ∷ from) = drop_all from

pub translation_start : (table : ℕ → Option (Option ℕ)) (from to : List ℕ) (n : ℕ) → n ≡ length from → ((q : ℕ) → table q ≡ None) →
    Translates table (drop n from) (drop n to)
translation_start table from to n e h c =
    ap (or_itself c) (h c) ∙ ap (λ xs. translated_character xs (drop n to) c) (sym (drop_all from) ∙ ap (λ m. drop m from) (sym e))
