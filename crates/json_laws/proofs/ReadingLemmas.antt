-- The tokens of JSON text are those of its data.
use Rattle.std.proofs.Common.{◌≡◌, ℕ, ◌+◌, ◌^◌, ◌<◌, ◌≤◌, true, false, List, [], ◌∷◌, ◌++◌, Option, Some, None}
use Rattle.std.proofs.Common.{refl, ap, sym, ◌∙◌, append_assoc, append-nil, arith}
use Rattle.std.specs.Prelude.{nat_lt, option_and_then, encode_utf8_all}
use Rattle.std.specs.Fmt.{decimal}
use Rattle.std.proofs.lemmas.Bool.{and_parts, ltb-true}
use Rattle.std.proofs.lemmas.Str.{encodes-append}
use lib.Utf8.{encodes, encode}
use Rattle.json.specs.Token.{Token, begin_object, end_object, begin_array, end_array, key, string, number}
use Rattle.json.specs.Word.{ends_word}
use Rattle.json.specs.Lex.{Lexeme, token, colon, lex, between, Place, fresh, after_value, after_comma, after_key, may_begin, begins_colon, punctuate, tokens}
use Rattle.json.specs.Json as json
use Rattle.json.specs.Tree.{json_tokens}
use Rattle.json.proofs.Printed.Trees.{value-json_tokens}
use Rattle.json_text.specs.declared.state.JsonPlace.{JsonPlace}
use Rattle.json_text.specs.declared.state.JsonPlace.TheVariants.{Here, First, Behind}
use Rattle.json_text.specs.declared.state.Container.{Container}
use Rattle.json_text.specs.declared.state.Container.TheVariants.{Object, Array}
use Rattle.json_text.specs.Json.{Json, nothing, a_text, a_number, an_array, an_object, are_named, nesting}
use Rattle.json_text.specs.Layout.{string_text, new_line, lead, name_if_any, closing_line, layout, document}
use Rattle.json_text.specs.Calls.{opening, closing}
use Rattle.json_laws.specs.Reading.{value_of, is_one, numbers_fit}
use Rattle.json_laws.proofs.Tokens.{key_tokens, tokens_of, value-tokens, value-depth}
use Rattle.json_laws.proofs.Lexing.{encode-behind, lex-string, lex-decimal, lex-new_line}

-- What follows ends a word, and begins with no colon.
record Ends (r : List ℕ) : Type 0 where
  word : ends_word r ≡ true
  colons : begins_colon (lex between r) ≡ false

-- where the reader is at a place of the pen, and behind what leads a value there
abbrev place_of : JsonPlace → Place
place_of Here = fresh
place_of First = fresh
place_of Behind = after_value

abbrev led : JsonPlace → Place
led Here = fresh
led First = fresh
led Behind = after_comma

led-begins : (place : JsonPlace) → may_begin (led place) ≡ true
led-begins Here = refl
led-begins First = refl
led-begins Behind = refl

abbrev place_behind : JsonPlace → Json → JsonPlace
place_behind place nothing = place
place_behind place (a_text name characters rest) = Behind
place_behind place (a_number name n rest) = Behind
place_behind place (an_array name inside rest) = Behind
place_behind place (an_object name inside rest) = Behind

place_behind-again : (values : Json) → place_behind Behind values ≡ Behind
place_behind-again nothing = refl
place_behind-again (a_text name characters rest) = refl
place_behind-again (a_number name n rest) = refl
place_behind-again (an_array name inside rest) = refl
place_behind-again (an_object name inside rest) = refl

-- the tokens of a text that is read from a place on
abbrev from : Place → List ℕ → List Token
from p s = punctuate p (lex between s)

lead-read : (place : JsonPlace) (depth : ℕ) (s : List ℕ) → from (place_of place) (encodes (lead place depth) ++ s) ≡ from (led place) s
unfolding lex punctuate encode
lead-read Here depth s = refl
lead-read First depth s = ap (punctuate fresh) (lex-new_line depth s)
lead-read Behind depth s = ap (punctuate after_comma) (lex-new_line depth s)

-- what begins a value or a member
begin-key : (p : Place) (k : List ℕ) (ls : List Lexeme) → may_begin p ≡ true → punctuate p (token (string k) ∷ colon ∷ ls) ≡ key k ∷ punctuate fresh ls
unfolding punctuate
begin-key fresh k ls h = refl
begin-key after_value k ls h = cc
begin-key after_comma k ls h = refl
begin-key after_key k ls h = cc

begin-string : (p : Place) (k : List ℕ) (ls : List Lexeme) → may_begin p ≡ true → begins_colon ls ≡ false
    → punctuate p (token (string k) ∷ ls) ≡ string k ∷ punctuate after_value ls
unfolding punctuate
begin-string fresh k ls h e = rw e refl
begin-string after_value k ls h e = cc
begin-string after_comma k ls h e = rw e refl
begin-string after_key k ls h e = cc

begin-number : (p : Place) (k : List ℕ) (ls : List Lexeme) → may_begin p ≡ true → punctuate p (token (number k) ∷ ls) ≡ number k ∷ punctuate after_value ls
unfolding punctuate
begin-number fresh k ls h = refl
begin-number after_value k ls h = cc
begin-number after_comma k ls h = refl
begin-number after_key k ls h = cc

abbrev open_token : Container → Token
open_token Object = begin_object
open_token Array = begin_array

abbrev close_token : Container → Token
close_token Object = end_object
close_token Array = end_array

begin-read : (p : Place) (kind : Container) (s : List ℕ) → may_begin p ≡ true → from p (opening kind ∷ s) ≡ open_token kind ∷ from fresh s
unfolding lex punctuate
begin-read fresh Object s h = refl
begin-read fresh Array s h = refl
begin-read after_value kind s h = cc
begin-read after_comma Object s h = refl
begin-read after_comma Array s h = refl
begin-read after_key kind s h = cc

end-read : (place : JsonPlace) (kind : Container) (s : List ℕ) → from (place_of place) (closing kind ∷ s) ≡ close_token kind ∷ from after_value s
unfolding lex punctuate
end-read Here Object s = refl
end-read Here Array s = refl
end-read First Object s = refl
end-read First Array s = refl
end-read Behind Object s = refl
end-read Behind Array s = refl

encode-opening : (kind : Container) (t r : List ℕ) → encodes (opening kind ∷ t) ++ r ≡ opening kind ∷ (encodes t ++ r)
unfolding encode
encode-opening Object t r = refl
encode-opening Array t r = refl

encode-closing : (kind : Container) (t r : List ℕ) → encodes (closing kind ∷ t) ++ r ≡ closing kind ∷ (encodes t ++ r)
unfolding encode
encode-closing Object t r = refl
encode-closing Array t r = refl

-- a name, and then its value
named-read : (name : Option (List ℕ)) (p : Place) (s : List ℕ) (ts : List Token) → may_begin p ≡ true
    → ((q : Place) → may_begin q ≡ true → from q s ≡ ts) → from p (encodes (name_if_any name) ++ s) ≡ key_tokens name ++ ts
unfolding lex encode
named-read None p s ts h e = e p h
named-read (Some name) p s ts h e =
    ap (from p) (encode-behind (string_text name) (0x3A ∷ 0x20 ∷ []) s)
    ∙ (ap (punctuate p) (lex-string name (0x3A ∷ 0x20 ∷ s))
    ∙ (begin-key p (encodes name) (lex between s) h ∙ ap (λ x. key (encodes name) ∷ x) (e fresh refl)))

-- what leads a value, its name, and what the value's own text begins
value-read : (name : Option (List ℕ)) (depth : ℕ) (place : JsonPlace) (body r : List ℕ) (ts : List Token)
    → ((q : Place) → may_begin q ≡ true → from q (encodes body ++ r) ≡ ts)
    → from (place_of place) (encodes (lead place depth ++ (name_if_any name ++ body)) ++ r) ≡ key_tokens name ++ ts
value-read name depth place body r ts e =
    ap (from (place_of place))
    (encode-behind (lead place depth) (name_if_any name ++ body) r ∙ ap (λ x. encodes (lead place depth) ++ x) (encode-behind (name_if_any name) body r))
    ∙ (lead-read place depth (encodes (name_if_any name) ++ (encodes body ++ r))
    ∙ named-read name (led place) (encodes body ++ r) ts (led-begins place) e)

-- A further value begins with a comma.
layout-ends : (values : Json) (depth : ℕ) (r : List ℕ) → Ends r → Ends (encodes (layout depth Behind values) ++ r)
unfolding lex encode
layout-ends nothing depth r ends = ends
layout-ends (a_text name characters rest) depth r ends = record { word = refl; colons = refl }
layout-ends (a_number name n rest) depth r ends = record { word = refl; colons = refl }
layout-ends (an_array name inside rest) depth r ends = record { word = refl; colons = refl }
layout-ends (an_object name inside rest) depth r ends = record { word = refl; colons = refl }

-- the bracket behind values
closing-ends : (inside : Json) (depth : ℕ) (kind : Container) (t r : List ℕ) → Ends (encodes (closing_line depth inside ++ closing kind ∷ t) ++ r)
unfolding lex encode
closing-ends inside depth kind t r = by inside
  where
    bracket : (k : Container) → Ends (encodes (closing k ∷ t) ++ r)
    bracket Object = record { word = refl; colons = refl }
    bracket Array = record { word = refl; colons = refl }

    full : Ends (encodes (new_line depth ++ closing kind ∷ t) ++ r)
    full = record {
      word = refl;
      colons = ap (λ x. begins_colon (lex between x)) (encode-behind (new_line depth) (closing kind ∷ t) r)
          ∙ (ap begins_colon (lex-new_line depth (encodes (closing kind ∷ t) ++ r)) ∙ (bracket kind).colons);
    }

    by : (values : Json) → Ends (encodes (closing_line depth values ++ closing kind ∷ t) ++ r)
    by nothing = bracket kind
    by (a_text name characters rest) = full
    by (a_number name n rest) = full
    by (an_array name within rest) = full
    by (an_object name within rest) = full

closing-read : (inside : Json) (depth : ℕ) (kind : Container) (t r : List ℕ)
    → from (place_of (place_behind First inside)) (encodes (closing_line depth inside ++ closing kind ∷ t) ++ r) ≡ close_token kind ∷ from after_value
    (encodes t ++ r)
closing-read inside depth kind t r = by inside
  where
    bracket : (place : JsonPlace) → from (place_of place) (encodes (closing kind ∷ t) ++ r) ≡ close_token kind ∷ from after_value (encodes t ++ r)
    bracket place = ap (from (place_of place)) (encode-closing kind t r) ∙ end-read place kind (encodes t ++ r)

    full : from after_value (encodes (new_line depth ++ closing kind ∷ t) ++ r) ≡ close_token kind ∷ from after_value (encodes t ++ r)
    full =
        ap (from after_value) (encode-behind (new_line depth) (closing kind ∷ t) r)
        ∙ (ap (punctuate after_value) (lex-new_line depth (encodes (closing kind ∷ t) ++ r)) ∙ bracket Behind)

    by : (values : Json) → from (place_of (place_behind First values)) (encodes (closing_line depth values ++ closing kind ∷ t) ++ r)
        ≡ close_token kind ∷ from after_value (encodes t ++ r)
    by nothing = bracket First
    by (a_text name characters rest) = full
    by (a_number name n rest) = full
    by (an_array name within rest) = full
    by (an_object name within rest) = full

-- what values side by side read as, and what follows them
abbrev Reads : Json → ℕ → JsonPlace → List ℕ → Type 0
Reads values depth place r =
    from (place_of place) (encodes (layout depth place values) ++ r) ≡ tokens_of values ++ from (place_of (place_behind place values)) r

again : (values : Json) (depth : ℕ) (r : List ℕ) → Reads values depth Behind r
    → from after_value (encodes (layout depth Behind values) ++ r) ≡ tokens_of values ++ from after_value r
again values depth r e = e ∙ ap (λ p. tokens_of values ++ from (place_of p) r) (place_behind-again values)

text-read : (name : Option (List ℕ)) (characters : List ℕ) (rest : Json) (depth : ℕ) (place : JsonPlace) (r : List ℕ) → Ends r
    → Reads rest depth Behind r → Reads (a_text name characters rest) depth place r
text-read name characters rest depth place r ends e =
    let behind = encodes (layout depth Behind rest) ++ r in
    let last = string (encodes characters) ∷ (tokens_of rest ++ from after_value r) in
    value-read name depth place (string_text characters ++ layout depth Behind rest) r last
    (λ q h.
    ap (from q) (encode-behind (string_text characters) (layout depth Behind rest) r)
    ∙ (ap (punctuate q) (lex-string characters behind)
    ∙ (begin-string q (encodes characters) (lex between behind) h (layout-ends rest depth r ends).colons
    ∙ ap (λ x. string (encodes characters) ∷ x) (again rest depth r e))))
    ∙ sym (append_assoc (key_tokens name) (string (encodes characters) ∷ tokens_of rest) (from after_value r))

number-read : (name : Option (List ℕ)) (n : ℕ) (rest : Json) (depth : ℕ) (place : JsonPlace) (r : List ℕ) → n < 2 ^ 64 → Ends r
    → Reads rest depth Behind r → Reads (a_number name n rest) depth place r
number-read name n rest depth place r fits ends e =
    let behind = encodes (layout depth Behind rest) ++ r in
    let last = number (decimal n) ∷ (tokens_of rest ++ from after_value r) in
    value-read name depth place (decimal n ++ layout depth Behind rest) r last
    (λ q h.
    ap (from q) (encode-behind (decimal n) (layout depth Behind rest) r)
    ∙ (ap (punctuate q) (lex-decimal n behind fits (layout-ends rest depth r ends).word)
    ∙ (begin-number q (decimal n) (lex between behind) h
    ∙ ap (λ x. number (decimal n) ∷ x) (again rest depth r e))))
    ∙ sym (append_assoc (key_tokens name) (number (decimal n) ∷ tokens_of rest) (from after_value r))

container-read : (kind : Container) (name : Option (List ℕ)) (inside rest : Json) (depth : ℕ) (place : JsonPlace) (r : List ℕ)
    → ((s : List ℕ) → Ends s → Reads inside (depth + 1) First s)
    → Reads rest depth Behind r
    → from (place_of place) (encodes (lead place depth ++ (name_if_any name
    ++ opening kind ∷ (layout (depth + 1) First inside ++ (closing_line depth inside ++ closing kind ∷ layout depth Behind rest)))) ++ r)
    ≡ (key_tokens name ++ open_token kind ∷ (tokens_of inside ++ close_token kind ∷ tokens_of rest)) ++ from after_value r
container-read kind name inside rest depth place r e f =
    let within = layout (depth + 1) First inside in
    let behind = layout depth Behind rest in
    let end = closing_line depth inside ++ closing kind ∷ behind in
    let last : List Token = close_token kind ∷ (tokens_of rest ++ from after_value r) in
    value-read name depth place (opening kind ∷ (within ++ end)) r (open_token kind ∷ (tokens_of inside ++ last))
    (λ q h.
    ap (from q) (encode-opening kind (within ++ end) r)
    ∙ (begin-read q kind (encodes (within ++ end) ++ r) h
    ∙ ap (λ x. open_token kind ∷ x)
    (ap (from fresh) (encode-behind within end r)
    ∙ (e (encodes end ++ r) (closing-ends inside depth kind behind r)
    ∙ ap (λ x. tokens_of inside ++ x)
    (closing-read inside depth kind behind r ∙ ap (λ x. close_token kind ∷ x) (again rest depth r f))))))
    ∙ simp append_assoc

layout-read : (values : Json) (depth : ℕ) (place : JsonPlace) (r : List ℕ) → numbers_fit values ≡ true → Ends r → Reads values depth place r
layout-read nothing depth place r fit ends = refl
layout-read (a_text name characters rest) depth place r fit ends =
    text-read name characters rest depth place r ends (layout-read rest depth Behind r fit ends)
layout-read (a_number name n rest) depth place r fit ends =
    let parts = and_parts (nat_lt n (2 ^ 64)) (numbers_fit rest) fit in
    number-read name n rest depth place r (ltb-true n (2 ^ 64) parts.0) ends (layout-read rest depth Behind r parts.1 ends)
layout-read (an_array name inside rest) depth place r fit ends =
    let parts = and_parts (numbers_fit inside) (numbers_fit rest) fit in
    container-read Array name inside rest depth place r (λ s. layout-read inside (depth + 1) First s parts.0) (layout-read rest depth Behind r parts.1 ends)
layout-read (an_object name inside rest) depth place r fit ends =
    let parts = and_parts (numbers_fit inside) (numbers_fit rest) fit in
    container-read Object name inside rest depth place r (λ s. layout-read inside (depth + 1) First s parts.0) (layout-read rest depth Behind r parts.1 ends)

line_feed-ends : Ends (0xA ∷ [])
unfolding lex
line_feed-ends = record { word = refl; colons = refl }

line_feed-read : (place : JsonPlace) → from (place_of place) (0xA ∷ []) ≡ []
unfolding lex punctuate
line_feed-read Here = refl
line_feed-read First = refl
line_feed-read Behind = refl

document-tokens : (value : Json) → numbers_fit value ≡ true → tokens (encodes (document value)) ≡ tokens_of value
unfolding encode
document-tokens value fit =
    ap tokens (encodes-append (layout 0 Here value) (0xA ∷ []))
    ∙ (layout-read value 0 Here (0xA ∷ []) fit line_feed-ends
    ∙ (ap (λ x. tokens_of value ++ x) (line_feed-read (place_behind Here value)) ∙ append-nil (tokens_of value)))

-- The text of one value reads back as the value.
pub document-reads : (value : Json) → is_one value ≡ true → are_named false value ≡ true → numbers_fit value ≡ true → nesting value ≤ json.max_depth
    → json.document (encode_utf8_all (document value)) ≡ Some (value_of value)
document-reads value one named fit shallow =
    let all : tokens (encodes (document value)) ≡ json_tokens (value_of value) ++ [] =
    document-tokens value fit ∙ (value-tokens value one named ∙ sym (append-nil (json_tokens (value_of value)))) in
    ap (λ ts. option_and_then (λ p. json.if_last p.0 p.1) (json.value json.max_depth ts)) all
    ∙ ap (option_and_then (λ p. json.if_last p.0 p.1)) (value-json_tokens (value_of value) json.max_depth [] (omega (arith, value-depth value)))
