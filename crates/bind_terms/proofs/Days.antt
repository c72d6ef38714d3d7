-- A plain day with white space around it has no character but those that XML 1.0 has.
use Rattle.std.proofs.Common.{◌≡◌, ℕ, ◌&&◌, Bool, true, false, cond, List, [], ◌∷◌, ◌++◌, length, take, drop, Option, Some, None, option_map, refl, ap, sym}
use Rattle.std.proofs.Common.{◌∙◌, subst, arith}
use Rattle.std.specs.Prelude.{◌==◌}
use Rattle.std.specs.List.{list_all}
use Rattle.std.specs.Char.{is_ascii_digit}
use Rattle.std.proofs.lemmas.Bool.Decides.{nat_tests}
use Rattle.std.proofs.lemmas.List.{take-append-drop, drop-drop}
use Rattle.inv_base.specs.Characters.{is_char, is_white_space}
use Rattle.inv_decimal.specs.CivilDay.{CivilDay}
use Rattle.inv_decimal.specs.WrittenDay.{day_from, read_plain_day}
use Rattle.inv_terms.specs.declared.values.Value.{Value}
use Rattle.inv_terms.specs.declared.values.Value.TheVariants as values
use Rattle.inv_terms.specs.Values.{is_blank, without_leading, without_trailing, trimmed}
use Rattle.bind_meaning.specs.Values.{plain_date}
use Rattle.reading_laws.proofs.ListLemmas.{both}

white-char : (c : ℕ) → is_white_space c ≡ true → is_char c ≡ true
unfolding is_white_space is_char
white-char c h = grind (arith, nat_tests)

digit-char : (c : ℕ) → is_ascii_digit c ≡ true → is_char c ≡ true
unfolding is_char
digit-char c h = grind (arith, nat_tests)

and : (a b : Bool) → a ≡ true → b ≡ true → (a && b) ≡ true
and true b h k = k
and false b h k = h

-- ---- white space around characters

blank-chars : (text : List ℕ) → is_blank text ≡ true → list_all is_char text ≡ true
blank-chars [] h = refl
blank-chars (c ∷ text) h =
    let w = both (is_white_space c) (is_blank text) h in
    and (is_char c) (list_all is_char text) (white-char c w.0) (blank-chars text w.1)

leading-at : (c : ℕ) (text : List ℕ) (b : Bool) → is_white_space c ≡ b → (list_all is_char (without_leading text) ≡ true → list_all is_char text ≡ true)
    → list_all is_char (cond b (without_leading text) (c ∷ text)) ≡ true → list_all is_char (c ∷ text) ≡ true
leading-at c text true w later h = and (is_char c) (list_all is_char text) (white-char c w) (later h)
leading-at c text false w later h = h

leading-chars : (text : List ℕ) → list_all is_char (without_leading text) ≡ true → list_all is_char text ≡ true
leading-chars [] h = refl
leading-chars (c ∷ text) h = leading-at c text (is_white_space c) refl (leading-chars text) h

trailing-at : (c : ℕ) (text : List ℕ) (b : Bool) → is_blank (c ∷ text) ≡ b → (list_all is_char (without_trailing text) ≡ true → list_all is_char text ≡ true)
    → list_all is_char (cond b [] (c ∷ without_trailing text)) ≡ true → list_all is_char (c ∷ text) ≡ true
trailing-at c text true w later h = blank-chars (c ∷ text) w
trailing-at c text false w later h =
    let w = both (is_char c) (list_all is_char (without_trailing text)) h in
    and (is_char c) (list_all is_char text) w.0 (later w.1)

trailing-chars : (text : List ℕ) → list_all is_char (without_trailing text) ≡ true → list_all is_char text ≡ true
trailing-chars [] h = refl
trailing-chars (c ∷ text) h = trailing-at c text (is_blank (c ∷ text)) refl (trailing-chars text) h

-- ---- the characters of a day are digits

digits-chars : (text : List ℕ) → list_all is_ascii_digit text ≡ true → list_all is_char text ≡ true
digits-chars [] h = refl
digits-chars (c ∷ text) h =
    let w = both (is_ascii_digit c) (list_all is_ascii_digit text) h in
    and (is_char c) (list_all is_char text) (digit-char c w.0) (digits-chars text w.1)

some-if : (b : Bool) (x : Option CivilDay) (d : CivilDay) → cond b x None ≡ Some d → (b ≡ true) × (x ≡ Some d)
some-if true x d h = (refl, h)
some-if false x d h = cc

day-digits : (y m n : List ℕ) (d : CivilDay) → day_from y m n ≡ Some d → list_all is_ascii_digit (y ++ (m ++ n)) ≡ true
unfolding day_from
day-digits y m n d h = (some-if _ _ d h).0

parts : (cs : List ℕ) → take 4 cs ++ (take 2 (drop 4 cs) ++ drop 6 cs) ≡ cs
parts cs = ap (λ xs. take 4 cs ++ xs) (ap (λ xs. take 2 (drop 4 cs) ++ xs) (sym (drop-drop 2 4 cs)) ∙ take-append-drop 2 (drop 4 cs)) ∙ take-append-drop 4 cs

plain-digits : (cs : List ℕ) (d : CivilDay) → read_plain_day cs ≡ Some d → list_all is_ascii_digit cs ≡ true
unfolding read_plain_day
plain-digits cs d h =
    subst (λ xs. list_all is_ascii_digit xs ≡ true) (parts cs) (day-digits (take 4 cs) (take 2 (drop 4 cs)) (drop 6 cs) d (some-if (length cs == 8) _ d h).1)

day-chars : (string : List ℕ) (d : CivilDay) → read_plain_day (trimmed string) ≡ Some d → list_all is_char string ≡ true
day-chars string d h =
    leading-chars string (trailing-chars (without_leading string) (digits-chars (trimmed string) (plain-digits (trimmed string) d h)))

-- ---- so the day is the value that the string has

pub date-is : (string : List ℕ) (found : Option CivilDay) → found ≡ read_plain_day (trimmed string) → option_map values.Date found ≡ plain_date string
date-is string found is = by found is (list_all is_char string) refl
  where
    by : (o : Option CivilDay) → o ≡ read_plain_day (trimmed string) → (b : Bool) → list_all is_char string ≡ b
        → option_map values.Date o ≡ (elim b as (λ _. Option Value) [ true ↦ option_map values.Date (read_plain_day (trimmed string)) | false ↦ None ])
    by o e true h = ap (option_map values.Date) e
    by None e false h = refl
    by (Some d) e false h = absurd (let k : true ≡ false = sym (day-chars string d (sym e)) ∙ h in cc)
