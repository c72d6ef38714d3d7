-- A reader whose texts are ASCII reads a text's characters as it reads its bytes.
use Rattle.std.proofs.Common.{◌≡◌, ℕ, List, refl, sym, ap, ◌∙◌, Option, Some, None}
use Rattle.std.specs.Str.{IsUtf8, IsAscii, chars}
use Rattle.std.proofs.lemmas.Str.{encodes-chars, encodes-IsAscii, chars-IsAscii}

same : {A : Type 0} (f : List ℕ → Option A) → ((cs : List ℕ) (v : A) → f cs ≡ Some v → IsAscii cs) → (bs : List ℕ) → IsUtf8 bs → (r s : Option A) →
    f (chars bs) ≡ r → f bs ≡ s → f (chars bs) ≡ f bs
same f ascii bs utf8 (Some v) s er es =
    ap f (sym (encodes-IsAscii (chars bs) (ascii (chars bs) v er)) ∙ encodes-chars bs utf8)
same f ascii bs utf8 None (Some v) er es = ap f (chars-IsAscii bs (ascii bs v es))
same f ascii bs utf8 None None er es = er ∙ sym es

pub read-chars : {A : Type 0} (f : List ℕ → Option A) → ((cs : List ℕ) (v : A) → f cs ≡ Some v → IsAscii cs) → (bs : List ℕ) → IsUtf8 bs → f (chars bs) ≡ f bs
read-chars f ascii bs utf8 = same f ascii bs utf8 (f (chars bs)) (f bs) refl refl
