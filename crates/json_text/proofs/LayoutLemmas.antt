-- Indents, and what calls append in UTF-8.
use Rattle.std.proofs.Common.{◌≡◌, ℕ, zero, suc, ◌+◌, ◌^◌, ◌<◌, List, [], ◌∷◌, ◌++◌, refl, ap, ◌∙◌, add-one}
use Rattle.std.specs.Fmt.{decimal}
use Rattle.std.proofs.lemmas.Fmt.{IsAscii-decimal}
use Rattle.std.proofs.lemmas.Str.{encodes-append, encodes-IsAscii}
use lib.Utf8.{encodes, encode}
use Rattle.json_text.specs.declared.state.JsonPlace.{JsonPlace}
use Rattle.json_text.specs.declared.state.Container.{Container}
use Rattle.json_text.specs.declared.state.Container.TheVariants.{Object, Array}
use Rattle.json_text.specs.Layout.{string_text, indent, new_line, lead, name_text}
use Rattle.json_text.specs.Calls.{opening, closing, end_lead}

indent-suc : (depth : ℕ) → indent (suc depth) ≡ indent depth ++ 0x20 ∷ 0x20 ∷ []
indent-suc zero = refl
indent-suc (suc depth) = ap (λ x. 0x20 ∷ 0x20 ∷ x) (indent-suc depth)

-- one level more
pub new_line-one_more : (depth : ℕ) → new_line (depth + 1) ≡ new_line depth ++ 0x20 ∷ 0x20 ∷ []
new_line-one_more depth = ap new_line (add-one depth) ∙ ap (λ x. 0xA ∷ x) (indent-suc depth)

encode-indent : (depth : ℕ) → encodes (indent depth) ≡ indent depth
unfolding encode
encode-indent zero = refl
encode-indent (suc depth) = ap (λ x. 0x20 ∷ 0x20 ∷ x) (encode-indent depth)

-- A new line is ASCII, and so are brackets and numbers.
pub encode-new_line : (depth : ℕ) → encodes (new_line depth) ≡ new_line depth
unfolding encode
encode-new_line depth = ap (λ x. 0xA ∷ x) (encode-indent depth)

encode-opening : (kind : Container) → encodes (opening kind ∷ []) ≡ opening kind ∷ []
unfolding encode
encode-opening Object = refl
encode-opening Array = refl

encode-closing : (kind : Container) → encodes (closing kind ∷ []) ≡ closing kind ∷ []
unfolding encode
encode-closing Object = refl
encode-closing Array = refl

-- what each call appends, by its parts
pub encode-name : (place : JsonPlace) (depth : ℕ) (name : List ℕ)
    → encodes (lead place depth ++ name_text name) ≡ encodes (lead place depth) ++ (encodes (string_text name) ++ 0x3A ∷ 0x20 ∷ [])
unfolding encode
encode-name place depth name =
    encodes-append (lead place depth) (name_text name)
    ∙ ap (λ x. encodes (lead place depth) ++ x) (encodes-append (string_text name) (0x3A ∷ 0x20 ∷ []))

pub encode-number : (place : JsonPlace) (depth n : ℕ) → n < 2 ^ 64 → encodes (lead place depth ++ decimal n) ≡ encodes (lead place depth) ++ decimal n
encode-number place depth n h =
    encodes-append (lead place depth) (decimal n)
    ∙ ap (λ x. encodes (lead place depth) ++ x) (encodes-IsAscii (decimal n) (IsAscii-decimal n h))

pub encode-begin : (place : JsonPlace) (depth : ℕ) (kind : Container)
    → encodes (lead place depth ++ opening kind ∷ []) ≡ encodes (lead place depth) ++ opening kind ∷ []
encode-begin place depth kind =
    encodes-append (lead place depth) (opening kind ∷ []) ∙ ap (λ x. encodes (lead place depth) ++ x) (encode-opening kind)

pub encode-end : (place : JsonPlace) (depth : ℕ) (kind : Container)
    → encodes (end_lead place depth ++ closing kind ∷ []) ≡ encodes (end_lead place depth) ++ closing kind ∷ []
encode-end place depth kind =
    encodes-append (end_lead place depth) (closing kind ∷ []) ∙ ap (λ x. encodes (end_lead place depth) ++ x) (encode-closing kind)
