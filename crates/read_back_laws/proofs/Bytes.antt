-- Texts as bytes: how they are put together, and how many bytes they take.
use Rattle.std.proofs.Common.{◌≡◌, ℕ, ◌+◌, ◌^◌, ◌<◌, List, [], ◌∷◌, ◌++◌, length, ap, ◌∙◌, append_assoc, length-append, arith}
use Rattle.std.specs.Fmt.{decimal}
use Rattle.std.proofs.lemmas.Fmt.{IsAscii-decimal}
use Rattle.std.proofs.lemmas.Str.{encodes-append, encodes-IsAscii, encode_ascii}
use lib.Utf8.{encodes, encode}
use Rattle.json_text.specs.Json.{Json}
use Rattle.json_text.specs.Layout.{string_text, character_text, closing_line, layout}
use Rattle.json_text.specs.declared.state.JsonPlace.TheVariants.{First}
use Rattle.std.specs.List.{flat_map}
use Rattle.read_back_laws.specs.Items.{width, bracketed}

-- a text before another, and then more
pub encode-behind : (a b r : List ℕ) → encodes (a ++ b) ++ r ≡ encodes a ++ (encodes b ++ r)
encode-behind a b r = ap (λ x. x ++ r) (encodes-append a b) ∙ append_assoc (encodes a) (encodes b) r

pub width-append : (a b : List ℕ) → width (a ++ b) ≡ width a + width b
width-append a b = ap length (encodes-append a b) ∙ length-append (encodes a) (encodes b)

-- what leads a value, its name, the value and what follows it
pub encode-parts : (a b c d r : List ℕ) → encodes (a ++ (b ++ (c ++ d))) ++ r ≡ encodes a ++ (encodes b ++ (encodes c ++ (encodes d ++ r)))
encode-parts a b c d r =
    encode-behind a (b ++ (c ++ d)) r
    ∙ ap (λ x. encodes a ++ x) (encode-behind b (c ++ d) r ∙ ap (λ x. encodes b ++ x) (encode-behind c d r))

pub width-parts : (a b c d : List ℕ) → width (a ++ (b ++ (c ++ d))) ≡ ((width a + width b) + width c) + width d
width-parts a b c d = omega (arith, width-append a (b ++ (c ++ d)), width-append b (c ++ d), width-append c d)

-- an array or object, and what follows it
pub bracketed-before : (opening closing depth : ℕ) (inside : Json) (rest : List ℕ)
    → bracketed opening closing depth inside ++ rest ≡ opening ∷ (layout (depth + 1) First inside ++ (closing_line depth inside ++ closing ∷ rest))
bracketed-before opening closing depth inside rest = simp append_assoc

-- digits are their own bytes
pub encode-decimal : (n : ℕ) → n < 2 ^ 64 → encodes (decimal n) ≡ decimal n
encode-decimal n h = encodes-IsAscii (decimal n) (IsAscii-decimal n h)

-- a string in its quotes
pub encode-string : (characters r : List ℕ)
    → encodes (string_text characters) ++ r ≡ 0x22 ∷ (encodes (flat_map character_text characters) ++ 0x22 ∷ r)
unfolding encode
encode-string characters r = ap (λ x. 0x22 ∷ x) (encode-behind (flat_map character_text characters) (0x22 ∷ []) r)

pub width-string : (characters : List ℕ) → width (string_text characters) ≡ (1 + width (flat_map character_text characters)) + 1
unfolding encode
width-string characters = omega (arith, width-append (flat_map character_text characters) (0x22 ∷ []))

-- an array or object in bytes: its bracket, what is inside it, its end, and what follows
pub encode-bracketed : (opening closing depth : ℕ) (inside : Json) (more : List ℕ) → opening < 128 → encodes (bracketed opening closing depth inside) ++ more
    ≡ opening ∷ (encodes (layout (depth + 1) First inside) ++ (encodes (closing_line depth inside ++ closing ∷ []) ++ more))
encode-bracketed opening closing depth inside more h =
    let text = layout (depth + 1) First inside in
    let end = closing_line depth inside ++ closing ∷ [] in
    ap (λ x. (x ++ encodes (text ++ end)) ++ more) (encode_ascii opening h) ∙ ap (λ x. opening ∷ x) (encode-behind text end more)
