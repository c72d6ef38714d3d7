-- Texts that are made of characters.
use Rattle.std.proofs.Common.{◌≡◌, ℕ, List, [], ◌∷◌, ◌++◌, codes, ap, sym, ◌∙◌, arith, string_bytes, String}
use Rattle.std.specs.Prelude.{Result, Ok, Err, IfOk}
use Rattle.std.specs.Str.{chars, IsUtf8}
use Rattle.std.proofs.lemmas.Str.{chars-append, chars-IsAscii, chars_from_encodes, IsUtf8-string_bytes}
use Rattle.std.proofs.lemmas.Str.Ascii.{IsAscii-cons, IsAscii-nil}
use lib.Utf8.{encodes}

-- a text that was collected
pub collected : {Z E : Type 0} (r : Result (String Z) E) (xs : List ℕ) → IfOk r (λ w. string_bytes w ≡ encodes xs) → IfOk r (λ w. chars (string_bytes w) ≡ xs)
collected (Ok w) xs e = sym (chars_from_encodes xs (string_bytes w) (IsUtf8-string_bytes w) (sym e))
collected (Err x) xs e = tt

-- a text with two dots behind it
pub dotted : (front all : List ℕ) → IsUtf8 front → all ≡ front ++ codes ".." → chars all ≡ chars front ++ codes ".."
dotted front all u e =
    ap chars e
    ∙ (chars-append front (codes "..") u
    ∙ ap (λ t. chars front ++ t)
    (chars-IsAscii (codes "..") (IsAscii-cons 46 (46 ∷ []) (omega arith) (IsAscii-cons 46 [] (omega arith) IsAscii-nil))))
