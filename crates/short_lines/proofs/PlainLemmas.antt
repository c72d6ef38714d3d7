-- A text that stands for itself, as it is quoted.
use Rattle.std.proofs.Common.{◌≡◌, ℕ, List, [], ◌∷◌, ◌++◌, sym, ap, ◌∙◌, append_assoc}
use Rattle.std.specs.Prelude.{chars, encode_utf8_all}
use Rattle.std.specs.Str.{IsUtf8}
use Rattle.inv_base.specs.Text.{quoted}
use Rattle.inv_base.proofs.TextLemmas.{encode-quoted}
use Rattle.short_lines.specs.Composing.{IsPlain}

-- between quotes, at the end of a line
pub quoted-plain : (text : List ℕ) → IsUtf8 text → IsPlain text → 0x22 ∷ (text ++ 0x22 ∷ 0xA ∷ []) ≡ encode_utf8_all (quoted (chars text)) ++ 0xA ∷ []
quoted-plain text u p =
    sym (ap (λ x. x ++ 0xA ∷ []) (encode-quoted text u ∙ ap (λ x. 0x22 ∷ (x ++ 0x22 ∷ [])) p.same)
    ∙ ap (λ x. 0x22 ∷ x) (append_assoc text (0x22 ∷ []) (0xA ∷ [])))
