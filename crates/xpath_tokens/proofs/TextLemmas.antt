-- Texts and their characters.
use Rattle.std.proofs.Common.{◌≡◌, ℕ, List, ap, ◌∙◌, sym}
use Rattle.std.specs.Str.{chars, bytes_eq, IsUtf8, encode_utf8_all}
use Rattle.std.proofs.lemmas.Str.{encodes-chars}
use Rattle.std.proofs.lemmas.Bool.Decides.{same_from_decides, Decides-like}
use Rattle.std.proofs.lemmas.Slice.Eq.{bytes_eq-Decides}

-- texts are equal where their characters are
pub same_text : (a b : List ℕ) → IsUtf8 a → IsUtf8 b → bytes_eq (chars a) (chars b) ≡ bytes_eq a b
same_text a b u v = same_from_decides _ _ (bytes_eq-Decides (chars a) (chars b))
    (Decides-like _ (λ e. ap chars e) (λ e. sym (encodes-chars a u) ∙ (ap encode_utf8_all e ∙ encodes-chars b v)) (bytes_eq-Decides a b))
