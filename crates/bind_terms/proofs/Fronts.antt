-- The first character of a text.
use Rattle.std.proofs.Common.{◌≡◌, ℕ, List, [], ◌∷◌, ◌++◌, length, ap, sym, ◌∙◌, arith}
use Rattle.std.specs.Str.{chars, IsUtf8}
use Rattle.std.proofs.lemmas.Str.{chars-nil, chars_past_char}
use lib.Utf8.{encode}

pub first-is : (text rest behind : List ℕ) (c : ℕ) → IsUtf8 text → text ≡ encode c ++ rest → behind ≡ rest → chars text ≡ c ∷ chars behind
first-is text rest behind c u e same = chars_past_char text rest c u e ∙ ap (λ x. c ∷ chars x) (sym same)

pub none-is : (text : List ℕ) → length text ≡ 0 → chars text ≡ []
none-is [] e = chars-nil
none-is (c ∷ text) e = absurd (omega arith)
