-- Texts and their characters.
use Rattle.std.proofs.Common.{◌≡◌, ℕ, List, [], ◌∷◌, ◌++◌, refl, ap, ◌∙◌}
use Rattle.std.specs.Str.{chars, IsUtf8}
use Rattle.std.proofs.lemmas.Str.{chars-append}
use Rattle.xpath_types.specs.Scopes.{with_colon}

chars-colon : (text : List ℕ) → chars (58 ∷ text) ≡ 58 ∷ chars text
unfolding chars
chars-colon [] = refl
chars-colon (c ∷ text) = refl

-- two texts with a colon between them
pub chars-with_colon : (a b : List ℕ) → IsUtf8 a → chars (with_colon a b) ≡ with_colon (chars a) (chars b)
chars-with_colon a b u = chars-append a (58 ∷ b) u ∙ ap (λ text. chars a ++ text) (chars-colon b)

pub star : chars (42 ∷ []) ≡ 42 ∷ []
unfolding chars
star = refl
