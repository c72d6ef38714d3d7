-- The tokens of JSON data, and the value that they are.
use Rattle.std.proofs.Common.{◌≡◌, ℕ, ◌≤◌, true, false, List, [], ◌∷◌, ◌++◌, Option, Some, None}
use Rattle.std.proofs.Common.{refl, ap, sym, ◌∙◌, append_assoc, append-nil, arith}
use Rattle.std.specs.Prelude.{encode_utf8_all}
use Rattle.std.specs.Fmt.{decimal}
use Rattle.std.proofs.lemmas.Bool.{and_parts}
use Rattle.json.specs.Token.{Token, begin_object, end_object, begin_array, end_array, key, string, number}
use Rattle.json.specs.Tree.{json_tokens, items_tokens, members_tokens, depth, items_depth, members_depth}
use Rattle.json_text.specs.Json.{Json, nothing, a_text, a_number, an_array, an_object, is_nothing, are_named, nesting}
use Rattle.json_laws.specs.Reading.{items_of, members_of, value_of, is_one}

abbrev pub key_tokens : Option (List ℕ) → List Token
key_tokens (Some name) = key (encode_utf8_all name) ∷ []
key_tokens None = []

-- the tokens of values side by side
abbrev pub tokens_of : Json → List Token
tokens_of nothing = []
tokens_of (a_text name characters rest) = key_tokens name ++ string (encode_utf8_all characters) ∷ tokens_of rest
tokens_of (a_number name n rest) = key_tokens name ++ number (decimal n) ∷ tokens_of rest
tokens_of (an_array name inside rest) = key_tokens name ++ begin_array ∷ (tokens_of inside ++ end_array ∷ tokens_of rest)
tokens_of (an_object name inside rest) = key_tokens name ++ begin_object ∷ (tokens_of inside ++ end_object ∷ tokens_of rest)

-- values inside, and then values behind them
inside-tokens : (inside rest : Json) (close last : Token) (ts within behind : List Token)
    → ((us : List Token) → tokens_of inside ++ close ∷ us ≡ within ++ us)
    → tokens_of rest ++ last ∷ ts ≡ behind ++ ts
    → (tokens_of inside ++ close ∷ tokens_of rest) ++ last ∷ ts ≡ (within ++ behind) ++ ts
inside-tokens inside rest close last ts within behind e f =
    append_assoc (tokens_of inside) (close ∷ tokens_of rest) (last ∷ ts)
    ∙ (e (tokens_of rest ++ last ∷ ts) ∙ (ap (λ x. within ++ x) f ∙ sym (append_assoc within behind ts)))

mutual
  pub items-tokens : (values : Json) (ts : List Token) → are_named false values ≡ true
      → tokens_of values ++ end_array ∷ ts ≡ items_tokens (items_of values) ++ ts
  items-tokens nothing ts h = refl
  items-tokens (a_text (Some name) characters rest) ts h = cc
  items-tokens (a_text None characters rest) ts h = ap (λ x. string (encode_utf8_all characters) ∷ x) (items-tokens rest ts h)
  items-tokens (a_number (Some name) n rest) ts h = cc
  items-tokens (a_number None n rest) ts h = ap (λ x. number (decimal n) ∷ x) (items-tokens rest ts h)
  items-tokens (an_array (Some name) inside rest) ts h = cc
  items-tokens (an_array None inside rest) ts h =
      let parts = and_parts (are_named false inside) (are_named false rest) h in
      ap (λ x. begin_array ∷ x)
      (inside-tokens inside rest end_array end_array ts (items_tokens (items_of inside)) (items_tokens (items_of rest))
      (λ us. items-tokens inside us parts.0) (items-tokens rest ts parts.1))
  items-tokens (an_object (Some name) inside rest) ts h = cc
  items-tokens (an_object None inside rest) ts h =
      let parts = and_parts (are_named true inside) (are_named false rest) h in
      ap (λ x. begin_object ∷ x)
      (inside-tokens inside rest end_object end_array ts (members_tokens (members_of inside)) (items_tokens (items_of rest))
      (λ us. members-tokens inside us parts.0) (items-tokens rest ts parts.1))

  pub members-tokens : (values : Json) (ts : List Token) → are_named true values ≡ true
      → tokens_of values ++ end_object ∷ ts ≡ members_tokens (members_of values) ++ ts
  members-tokens nothing ts h = refl
  members-tokens (a_text None characters rest) ts h = cc
  members-tokens (a_text (Some name) characters rest) ts h =
      ap (λ x. key (encode_utf8_all name) ∷ string (encode_utf8_all characters) ∷ x) (members-tokens rest ts h)
  members-tokens (a_number None n rest) ts h = cc
  members-tokens (a_number (Some name) n rest) ts h = ap (λ x. key (encode_utf8_all name) ∷ number (decimal n) ∷ x) (members-tokens rest ts h)
  members-tokens (an_array None inside rest) ts h = cc
  members-tokens (an_array (Some name) inside rest) ts h =
      let parts = and_parts (are_named false inside) (are_named true rest) h in
      ap (λ x. key (encode_utf8_all name) ∷ begin_array ∷ x)
      (inside-tokens inside rest end_array end_object ts (items_tokens (items_of inside)) (members_tokens (members_of rest))
      (λ us. items-tokens inside us parts.0) (members-tokens rest ts parts.1))
  members-tokens (an_object None inside rest) ts h = cc
  members-tokens (an_object (Some name) inside rest) ts h =
      let parts = and_parts (are_named true inside) (are_named true rest) h in
      ap (λ x. key (encode_utf8_all name) ∷ begin_object ∷ x)
      (inside-tokens inside rest end_object end_object ts (members_tokens (members_of inside)) (members_tokens (members_of rest))
      (λ us. members-tokens inside us parts.0) (members-tokens rest ts parts.1))

no-tokens : (values : Json) → is_nothing values ≡ true → tokens_of values ≡ []
no-tokens nothing e = refl
no-tokens (a_text name characters rest) e = cc
no-tokens (a_number name n rest) e = cc
no-tokens (an_array name inside rest) e = cc
no-tokens (an_object name inside rest) e = cc

-- One value without a name has the tokens of the value.
pub value-tokens : (value : Json) → is_one value ≡ true → are_named false value ≡ true → tokens_of value ≡ json_tokens (value_of value)
value-tokens nothing one h = cc
value-tokens (a_text (Some name) characters rest) one h = cc
value-tokens (a_text None characters rest) one h = ap (λ x. string (encode_utf8_all characters) ∷ x) (no-tokens rest one)
value-tokens (a_number (Some name) n rest) one h = cc
value-tokens (a_number None n rest) one h = ap (λ x. number (decimal n) ∷ x) (no-tokens rest one)
value-tokens (an_array (Some name) inside rest) one h = cc
value-tokens (an_array None inside rest) one h =
    let parts = and_parts (are_named false inside) (are_named false rest) h in
    ap (λ x. begin_array ∷ (tokens_of inside ++ end_array ∷ x)) (no-tokens rest one)
    ∙ ap (λ x. begin_array ∷ x) (items-tokens inside [] parts.0 ∙ append-nil (items_tokens (items_of inside)))
value-tokens (an_object (Some name) inside rest) one h = cc
value-tokens (an_object None inside rest) one h =
    let parts = and_parts (are_named true inside) (are_named false rest) h in
    ap (λ x. begin_object ∷ (tokens_of inside ++ end_object ∷ x)) (no-tokens rest one)
    ∙ ap (λ x. begin_object ∷ x) (members-tokens inside [] parts.0 ∙ append-nil (members_tokens (members_of inside)))

-- It is as deep.
mutual
  items-depth : (values : Json) → items_depth (items_of values) ≤ nesting values
  items-depth nothing = omega arith
  items-depth (a_text name characters rest) = omega (arith, items-depth rest)
  items-depth (a_number name n rest) = omega (arith, items-depth rest)
  items-depth (an_array name inside rest) = omega (arith, items-depth inside, items-depth rest)
  items-depth (an_object name inside rest) = omega (arith, members-depth inside, items-depth rest)

  members-depth : (values : Json) → members_depth (members_of values) ≤ nesting values
  members-depth nothing = omega arith
  members-depth (a_text name characters rest) = omega (arith, members-depth rest)
  members-depth (a_number name n rest) = omega (arith, members-depth rest)
  members-depth (an_array name inside rest) = omega (arith, items-depth inside, members-depth rest)
  members-depth (an_object name inside rest) = omega (arith, members-depth inside, members-depth rest)

pub value-depth : (value : Json) → depth (value_of value) ≤ nesting value
value-depth nothing = omega arith
value-depth (a_text name characters rest) = omega arith
value-depth (a_number name n rest) = omega arith
value-depth (an_array name inside rest) = omega (arith, items-depth inside)
value-depth (an_object name inside rest) = omega (arith, members-depth inside)
