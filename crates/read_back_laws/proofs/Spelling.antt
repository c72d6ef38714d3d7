-- What is spelled at the places of items.
use Rattle.std.proofs.Common.{◌≡◌, ℕ, ◌+◌, ◌-◌, ◌^◌, ◌<◌, true, ◌&&◌, nat_lt, List, [], ◌∷◌, ◌++◌, length, take, drop, Option, Some, None}
use Rattle.std.proofs.Common.{refl, ap, sym, ◌∙◌, subst, arith, length-append, lit<}
use Rattle.std.specs.Fmt.{decimal}
use Rattle.std.specs.List.{flat_map}
use Rattle.std.proofs.lemmas.Bool.{and_parts, ltb-true}
use Rattle.std.proofs.lemmas.List.{drop-drop, drop_at, take_at}
use Rattle.std.proofs.lemmas.Str.{encodes-append}
use lib.Utf8.{scalars, encodes}
use Rattle.json_text.specs.declared.state.JsonPlace.{JsonPlace}
use Rattle.json_text.specs.declared.state.JsonPlace.TheVariants.{Here, First, Behind}
use Rattle.json_text.specs.Json.{Json, nothing, a_text, a_number, an_array, an_object}
use Rattle.json_text.specs.Layout.{character_text, string_text, lead, name_if_any, closing_line, layout, document}
use Rattle.json_laws.specs.Reading.{numbers_fit}
use Rattle.json_reading.specs.declared.item.Item.{Item}
use Rattle.json_reading.specs.Texts.{text_of, between}
use Rattle.read_back_laws.specs.Items.{has_scalars, are_scalars, width, string_span, name_span, bracketed, name_at, value_at, items_at, items_of}
use Rattle.read_back_laws.specs.Saying.{IsString, IsNamed, Say}
use Rattle.read_back_laws.proofs.Bytes.{encode-behind, encode-parts, encode-decimal, encode-string, width-string, encode-bracketed, bracketed-before}
use Rattle.read_back_laws.proofs.Strings.{string_says}

module _ (bytes : List ℕ) where
  -- what stands at a place, and behind it
  forward : (at : ℕ) (a b : List ℕ) → drop at bytes ≡ a ++ b → drop (at + length a) bytes ≡ b
  forward at a b h = sym (drop-drop (length a) at bytes) ∙ (ap (λ x. drop (length a) x) h ∙ drop_at a b (length a) refl)

  spelled : (at end : ℕ) (a b : List ℕ) → end ≡ at + length a → drop at bytes ≡ a ++ b → between at end bytes ≡ a
  spelled at end a b e h = ap (λ x. take (end - at) x) h ∙ take_at a b (end - at) (omega arith)

  string_spelled : (characters : List ℕ) (at : ℕ) (more : List ℕ) → scalars characters ≡ true → drop at bytes ≡ encodes (string_text characters) ++ more
      → IsString bytes (string_span at characters) characters
  string_spelled characters at more s h =
      let text = encodes (flat_map character_text characters) in
      let quoted : drop at bytes ≡ (0x22 ∷ []) ++ (text ++ 0x22 ∷ more) = h ∙ encode-string characters more in
      let inside : drop (at + 1) bytes ≡ text ++ 0x22 ∷ more = forward at (0x22 ∷ []) (text ++ 0x22 ∷ more) quoted in
      record {
        text = ap text_of
            (spelled (at + 1) ((at + width (string_text characters)) - 1) text (0x22 ∷ more) (omega (arith, width-string characters)) inside)
            ∙ string_says characters s;
        escaped = refl;
      }

  name_spelled : (name : Option (List ℕ)) (at : ℕ) (more : List ℕ) → has_scalars name ≡ true → drop at bytes ≡ encodes (name_if_any name) ++ more
      → IsNamed bytes (name_span at name) name
  name_spelled (Some name) at more s h =
      string_spelled name at (encodes (0x3A ∷ 0x20 ∷ []) ++ more) s (h ∙ encode-behind (string_text name) (0x3A ∷ 0x20 ∷ []) more)
  name_spelled None at more s h = tt

  -- a value among those side by side: its name, where it is spelled itself, and where those behind it are
  record Stands (depth : ℕ) (place : JsonPlace) (name : Option (List ℕ)) (own behind : List ℕ) (at : ℕ) (more : List ℕ) : Type 0 where
    named : IsNamed bytes (name_span (name_at at depth place) name) name
    value : drop (value_at at depth place name) bytes ≡ encodes own ++ (encodes behind ++ more)
    rest : drop (value_at at depth place name + width own) bytes ≡ encodes behind ++ more

  stands : (depth : ℕ) (place : JsonPlace) (name : Option (List ℕ)) (own behind : List ℕ) (at : ℕ) (more : List ℕ) → has_scalars name ≡ true
      → drop at bytes ≡ encodes (lead place depth ++ (name_if_any name ++ (own ++ behind))) ++ more → Stands depth place name own behind at more
  stands depth place name own behind at more s h =
      let all = h ∙ encode-parts (lead place depth) (name_if_any name) own behind more in
      let others = encodes behind ++ more in
      let from_name = forward at (encodes (lead place depth)) (encodes (name_if_any name) ++ (encodes own ++ others)) all in
      let from_value = forward (name_at at depth place) (encodes (name_if_any name)) (encodes own ++ others) from_name in
      record {
        named = name_spelled name (name_at at depth place) (encodes own ++ others) s from_name;
        value = from_value;
        rest = forward (value_at at depth place name) (encodes own) others from_value;
      }

  -- the same of an array or object, as the layout groups it
  enclosed_stands : (opening closing depth : ℕ) (place : JsonPlace) (name : Option (List ℕ)) (inside rest : Json) (at : ℕ) (more : List ℕ)
      → has_scalars name ≡ true
      → drop at bytes ≡ encodes (lead place depth ++ (name_if_any name
      ++ opening ∷ (layout (depth + 1) First inside ++ (closing_line depth inside ++ closing ∷ layout depth Behind rest)))) ++ more
      → Stands depth place name (bracketed opening closing depth inside) (layout depth Behind rest) at more
  enclosed_stands opening closing depth place name inside rest at more s h =
      stands depth place name (bracketed opening closing depth inside) (layout depth Behind rest) at more s
      (h ∙ ap (λ x. encodes (lead place depth ++ (name_if_any name ++ x)) ++ more) (sym (bracketed-before opening closing depth inside
      (layout depth Behind rest))))

  inside_stands : (opening closing depth : ℕ) (inside : Json) (at : ℕ) (more : List ℕ) → opening < 128
      → drop at bytes ≡ encodes (bracketed opening closing depth inside) ++ more
      → drop (at + 1) bytes ≡ encodes (layout (depth + 1) First inside) ++ (encodes (closing_line depth inside ++ closing ∷ []) ++ more)
  inside_stands opening closing depth inside at more low h =
      forward at (opening ∷ []) (encodes (layout (depth + 1) First inside) ++ (encodes (closing_line depth inside ++ closing ∷ []) ++ more))
      (h ∙ encode-bracketed opening closing depth inside more low)

  -- the items behind an array or object are cut where what is inside it ends
  cut : (within behind : List Item) (inside rest : Json) → Say bytes within inside → Say bytes behind rest
      → Say bytes (take (length within) (within ++ behind)) inside × Say bytes (drop (length within) (within ++ behind)) rest
  cut within behind inside rest f g = (
    subst (λ x. Say bytes x inside) (sym (take_at within behind (length within) refl)) f,
    subst (λ x. Say bytes x rest) (sym (drop_at within behind (length within) refl)) g,
  )

  abbrev Says : Json → Type 0
  Says values = (depth : ℕ) (place : JsonPlace) (at : ℕ) (more : List ℕ) → numbers_fit values ≡ true → are_scalars values ≡ true
      → drop at bytes ≡ encodes (layout depth place values) ++ more → Say bytes (items_at at depth place values) values

  layout_says : (values : Json) → Says values
  layout_says nothing depth place at more fit scalar h = refl
  layout_says (a_text name characters rest) depth place at more fit scalar h =
      let texts = and_parts (has_scalars name) (scalars characters && are_scalars rest) scalar in
      let more_texts = and_parts (scalars characters) (are_scalars rest) texts.1 in
      let s = stands depth place name (string_text characters) (layout depth Behind rest) at more texts.0 h in
      let begin = value_at at depth place name in (
        record {
          kind = refl;
          named = s.named;
          value = string_spelled characters begin (encodes (layout depth Behind rest) ++ more) more_texts.0 s.value;
          inside = refl;
        },
        layout_says rest depth Behind (begin + width (string_text characters)) more fit more_texts.1 s.rest,
      )
  layout_says (a_number name n rest) depth place at more fit scalar h =
      let numbers = and_parts (nat_lt n (2 ^ 64)) (numbers_fit rest) fit in
      let texts = and_parts (has_scalars name) (are_scalars rest) scalar in
      let s = stands depth place name (decimal n) (layout depth Behind rest) at more texts.0 h in
      let begin = value_at at depth place name in (
        record {
          kind = refl;
          named = s.named;
          value = spelled begin (begin + width (decimal n)) (encodes (decimal n)) (encodes (layout depth Behind rest) ++ more) refl s.value
              ∙ encode-decimal n (ltb-true n (2 ^ 64) numbers.0);
          inside = refl;
        },
        layout_says rest depth Behind (begin + width (decimal n)) more numbers.1 texts.1 s.rest,
      )
  layout_says (an_array name inside rest) depth place at more fit scalar h =
      let numbers = and_parts (numbers_fit inside) (numbers_fit rest) fit in
      let texts = and_parts (has_scalars name) (are_scalars inside && are_scalars rest) scalar in
      let more_texts = and_parts (are_scalars inside) (are_scalars rest) texts.1 in
      let s = enclosed_stands 0x5B 0x5D depth place name inside rest at more texts.0 h in
      let begin = value_at at depth place name in
      let end = begin + width (bracketed 0x5B 0x5D depth inside) in
      let within = items_at (begin + 1) (depth + 1) First inside in
      let behind = items_at end depth Behind rest in (
        record { kind = refl; named = s.named; inside = omega (arith, length-append within behind) },
        cut within behind inside rest
            (layout_says inside (depth + 1) First (begin + 1) (encodes (closing_line depth inside ++ 0x5D ∷ []) ++ (encodes (layout depth Behind rest) ++ more))
            numbers.0 more_texts.0
            (inside_stands 0x5B 0x5D depth inside begin (encodes (layout depth Behind rest) ++ more) (lit< tt) s.value))
            (layout_says rest depth Behind end more numbers.1 more_texts.1 s.rest),
      )
  layout_says (an_object name inside rest) depth place at more fit scalar h =
      let numbers = and_parts (numbers_fit inside) (numbers_fit rest) fit in
      let texts = and_parts (has_scalars name) (are_scalars inside && are_scalars rest) scalar in
      let more_texts = and_parts (are_scalars inside) (are_scalars rest) texts.1 in
      let s = enclosed_stands 0x7B 0x7D depth place name inside rest at more texts.0 h in
      let begin = value_at at depth place name in
      let end = begin + width (bracketed 0x7B 0x7D depth inside) in
      let within = items_at (begin + 1) (depth + 1) First inside in
      let behind = items_at end depth Behind rest in (
        record { kind = refl; named = s.named; inside = omega (arith, length-append within behind) },
        cut within behind inside rest
            (layout_says inside (depth + 1) First (begin + 1) (encodes (closing_line depth inside ++ 0x7D ∷ []) ++ (encodes (layout depth Behind rest) ++ more))
            numbers.0 more_texts.0
            (inside_stands 0x7B 0x7D depth inside begin (encodes (layout depth Behind rest) ++ more) (lit< tt) s.value))
            (layout_says rest depth Behind end more numbers.1 more_texts.1 s.rest),
      )

-- The items of a value say it, by what its text has at their places.
pub written_is_said : (value : Json) → numbers_fit value ≡ true → are_scalars value ≡ true → Say (encodes (document value)) (items_of value) value
written_is_said value fit scalar =
    let bytes = encodes (document value) in
    layout_says bytes value 0 Here 0 (encodes (0xA ∷ [])) fit scalar (encodes-append (layout 0 Here value) (0xA ∷ []))
