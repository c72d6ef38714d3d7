-- Texts without white space.
use Rattle.std.proofs.Common.{◌≡◌, ℕ, Bool, true, false, ◌||◌, List, [], ◌∷◌, reverse, refl, ap, sym, ◌∙◌}
use Rattle.std.specs.List.{list_any}
use Rattle.std.proofs.lemmas.Bool.{false≢true}
use Rattle.std.proofs.lemmas.List.{reverse-append, reverse-reverse}
use Rattle.std.proofs.lemmas.List.Folds.{list_any-append}
use Rattle.inv_base.specs.Characters.{is_white_space}
use Rattle.xpath_meaning.specs.Reading.{without_leading_space, trimmed}
use Rattle.xpath_meaning.specs.Texts.{single_spaced, normalised}

neither : (a b : Bool) → (a || b) ≡ false → (a ≡ false) × (b ≡ false)
neither true b h = absurd (false≢true (sym h))
neither false b h = (refl, h)

none_reversed : (text : List ℕ) → list_any is_white_space text ≡ false → list_any is_white_space (reverse text) ≡ false
none_reversed [] h = refl
none_reversed (c ∷ text) h =
    let both = neither (is_white_space c) (list_any is_white_space text) h in
    ap (list_any is_white_space) (reverse-append (c ∷ []) text)
    ∙ (list_any-append is_white_space (reverse text) (c ∷ [])
    ∙ (ap (λ b. b || (is_white_space c || false)) (none_reversed text both.1) ∙ ap (λ b. b || false) both.0))

plain_front : (text : List ℕ) → list_any is_white_space text ≡ false → without_leading_space text ≡ text
plain_front [] h = refl
plain_front (c ∷ text) h =
    ap (λ b. elim b as (λ _. List ℕ) [ true ↦ without_leading_space text | false ↦ c ∷ text ]) (neither (is_white_space c) (list_any is_white_space text) h).0

plain_spaced : (text : List ℕ) → list_any is_white_space text ≡ false → single_spaced false text ≡ text
plain_spaced [] h = refl
plain_spaced (c ∷ text) h =
    let both = neither (is_white_space c) (list_any is_white_space text) h in
    ap (λ b. elim b as (λ _. List ℕ) [ true ↦ 32 ∷ single_spaced true text | false ↦ c ∷ single_spaced false text ]) both.0
    ∙ ap (λ xs. c ∷ xs) (plain_spaced text both.1)

-- A text without white space is as it is behind normalising.
pub plain_normal : (text : List ℕ) → list_any is_white_space text ≡ false → normalised text ≡ text
plain_normal text h =
    ap (λ t. single_spaced false (reverse (without_leading_space (reverse t)))) (plain_front text h)
    ∙ (ap (λ t. single_spaced false (reverse t)) (plain_front (reverse text) (none_reversed text h))
    ∙ (ap (single_spaced false) (reverse-reverse text) ∙ plain_spaced text h))
