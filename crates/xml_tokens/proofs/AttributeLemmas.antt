-- The attributes of a tag, one by one.
use Rattle.std.proofs.Common.{◌≡◌, ℕ, zero, suc, pred, ◌+◌, ◌-◌, ◌<◌, ◌≤◌, min, Bool, true, false, ◌&&◌, ◌==◌, List, [], ◌∷◌, ◌++◌, map, length, drop, refl}
use Rattle.std.proofs.Common.{sym, ap, ◌∙◌, arith, Option, Some, None, option_map, option_and_then, if◌then◌else◌}
use Rattle.std.specs.Prelude.{codes, Vec}
use Rattle.std.specs.Global.{Global}
use Rattle.std.specs.List.{list_any, after_first, before_first, position_or_len}
use Rattle.std.specs.Str.{chars}
use Rattle.std.proofs.lemmas.List.{append_assoc, drop-drop, drop_min, length-drop, map_push}
use Rattle.xml_tokens.specs.Searches.{begins_with, is_quote}
use Rattle.xml_tokens.specs.WrittenNames.{is_qname, name_at_front}
use Rattle.xml_tokens.specs.Literals.{behind_white_space, begins_with_space, behind_equals, Literal, quoted_literal, literal_at}
use Rattle.xml_tokens.specs.Markup.{Written}
use Rattle.xml_tokens.specs.Tags as tags
use Rattle.xml_tokens.specs.Told.{with_all}
use Rattle.xml_tokens.specs.Seen.{seen_attribute}
use Rattle.xml_tokens.specs.declared.token.Attribute.{Attribute}

-- What is behind so many bytes.
record Tail (rest bytes : List ℕ) : Type 0 where
  pub count : ℕ
  pub is : rest ≡ drop count bytes

tail-of : (a b c : List ℕ) → Tail a b → Tail b c → Tail a c
tail-of a b c x y = record { count = y.count + x.count; is = x.is ∙ (ap (drop x.count) y.is ∙ drop-drop x.count y.count c) }

-- What is behind one byte at least.
pub record Behind (rest bytes : List ℕ) : Type 0 where
  pub count : ℕ
  pub some : 1 ≤ count
  pub is : rest ≡ drop count bytes

behind-tail : (a b c : List ℕ) → Behind a b → Tail b c → Behind a c
behind-tail a b c x y = record { count = y.count + x.count; some = omega (arith, x.some); is = x.is ∙ (ap (drop x.count) y.is ∙ drop-drop x.count y.count c) }

quoted-behind : (bytes : List ℕ) (literal : Literal) → quoted_literal bytes ≡ Some literal → Behind literal.rest bytes
quoted-behind [] literal e = cc
quoted-behind (quote ∷ bytes) literal e = by (is_quote quote && list_any (λ b. b == quote) bytes) e
  where
    found : Literal
    found = record { value = before_first (λ b. b == quote) bytes; rest = after_first (λ b. b == quote) bytes }

    chosen : Bool → Option Literal
    chosen t = if t then Some (record { value = before_first (λ b. b == quote) bytes; rest = after_first (λ b. b == quote) bytes }) else None

    by : (t : Bool) → chosen t ≡ Some literal → Behind literal.rest (quote ∷ bytes)
    by false e = cc
    by true e =
        let same : record { value = before_first (λ b. b == quote) bytes; rest = after_first (λ b. b == quote) bytes } ≡ literal = cc in
        record { count = suc (position_or_len (λ b. b == quote) bytes + 1); some = omega arith; is = sym (ap (λ x. x.rest) same) }

equals-tail : (bytes rest : List ℕ) → behind_equals bytes ≡ Some rest → Tail rest bytes
equals-tail bytes rest e = by (begins_with (codes "=") (behind_white_space bytes)) e
  where
    chosen : Bool → Option (List ℕ)
    chosen t = option_map behind_white_space (if t then Some (drop 1 (behind_white_space bytes)) else None)

    by : (t : Bool) → chosen t ≡ Some rest → Tail rest bytes
    by false e = cc
    by true e =
        let same : behind_white_space (drop 1 (behind_white_space bytes)) ≡ rest = cc in
        tail-of rest (behind_white_space bytes) bytes
        (tail-of rest (drop 1 (behind_white_space bytes)) (behind_white_space bytes) (record { count = _; is = sym same }) (record { count = 1; is = refl }))
        (record { count = _; is = refl })

literal-behind : (bytes : List ℕ) (literal : Literal) → literal_at bytes ≡ Some literal → Behind literal.rest bytes
literal-behind bytes literal e = by (behind_equals bytes) refl e
  where
    by : (x : Option (List ℕ)) → behind_equals bytes ≡ x → option_and_then quoted_literal x ≡ Some literal → Behind literal.rest bytes
    by None f e = cc
    by (Some rest) f e = behind-tail literal.rest rest bytes (quoted-behind rest literal e) (equals-tail bytes rest f)

abbrev if_found : Bool → List ℕ → Literal → Option tags.Found
if_found t name literal = if t then None else Some (record { name = name; value = literal.value; rest = literal.rest })

found-behind : (t : Bool) (name bytes : List ℕ) (literal : Literal) (found : tags.Found) → if_found t name literal ≡ Some found → Behind literal.rest bytes →
    Behind found.rest bytes
found-behind true name bytes literal found e h = cc
found-behind false name bytes literal found e h =
    let same : literal.rest ≡ found.rest = cc in
    record { count = h.count; some = h.some; is = sym same ∙ h.is }

abbrev of_literal : Bool → List ℕ → Option Literal → Option tags.Found
of_literal t name x = if t then option_and_then (tags.found_literal name) x else None

of-behind : (t : Bool) (name bytes : List ℕ) (x : Option Literal) (found : tags.Found) → literal_at bytes ≡ x → of_literal t name x ≡ Some found →
    Behind found.rest bytes
of-behind false name bytes x found f e = cc
of-behind true name bytes None found f e = cc
of-behind true name bytes (Some literal) found f e = found-behind (list_any (λ b. b == 0x3C) literal.value) name bytes literal found e
    (literal-behind bytes literal f)

pub attribute-behind : (bytes : List ℕ) (found : tags.Found) → tags.attribute_at bytes ≡ Some found → Behind found.rest bytes
unfolding tags.attribute_at
attribute-behind bytes found e =
    behind-tail found.rest (drop (length (name_at_front (behind_white_space bytes))) (behind_white_space bytes)) bytes
    (of-behind (begins_with_space bytes && is_qname (name_at_front (behind_white_space bytes))) (name_at_front (behind_white_space bytes))
    (drop (length (name_at_front (behind_white_space bytes))) (behind_white_space bytes))
    (literal_at (drop (length (name_at_front (behind_white_space bytes))) (behind_white_space bytes))) found refl e)
    (tail-of _ (behind_white_space bytes) bytes (record { count = length (name_at_front (behind_white_space bytes)); is = refl })
    (record { count = _; is = refl }))

pub no-attribute : tags.attribute_at [] ≡ None
unfolding tags.attribute_at
no-attribute = refl

inside-skip : (skip : ℕ) (bytes : List ℕ) → tags.tag_inside skip bytes ≡ tags.tag_inside 0 (drop skip bytes)
unfolding tags.tag_inside
inside-skip zero bytes = refl
inside-skip (suc skip) [] = refl
inside-skip (suc skip) (b ∷ bytes) = inside-skip skip bytes

is-suc : (n : ℕ) → 1 ≤ n → n ≡ suc (pred n)
is-suc zero h = absurd (omega arith)
is-suc (suc n) h = refl

rest-is : (b : ℕ) (bytes rest : List ℕ) → Behind rest (b ∷ bytes) → drop (pred (length (b ∷ bytes) - length rest)) bytes ≡ rest
rest-is b bytes rest behind =
    let long : length rest ≡ length (b ∷ bytes) - behind.count = ap length behind.is ∙ length-drop behind.count (b ∷ bytes) in
    let some : 1 ≤ behind.count = behind.some in
    let least : length (b ∷ bytes) - length rest ≡ min behind.count (length (b ∷ bytes)) = omega arith in
    let one : length (b ∷ bytes) - length rest ≡ suc (pred (length (b ∷ bytes) - length rest)) = is-suc (length (b ∷ bytes) - length rest) (omega arith) in
    ap (λ n. drop n (b ∷ bytes)) (sym one) ∙ (ap (λ n. drop n (b ∷ bytes)) least ∙ (drop_min behind.count (b ∷ bytes) ∙ sym behind.is))

abbrev with_rest : List ℕ → Option tags.Found → List ℕ → Option tags.Inside
with_rest whole x bytes = elim x [
  | None ↦ tags.tag_rest whole
  | (Some found) ↦ option_map (tags.with_attribute found) (tags.tag_inside (pred (length whole - length found.rest)) bytes)
]

-- one attribute, and the others behind it
inside-step : (bytes : List ℕ) (found : tags.Found) → tags.attribute_at bytes ≡ Some found →
    tags.tag_inside 0 bytes ≡ option_map (tags.with_attribute found) (tags.tag_inside 0 found.rest)
unfolding tags.tag_inside
inside-step [] found e = let f : None ≡ Some found = sym no-attribute ∙ e in cc
inside-step (b ∷ bytes) found e =
    let behind = attribute-behind (b ∷ bytes) found e in
    ap (λ x. with_rest (b ∷ bytes) x bytes) e ∙ ap (option_map (tags.with_attribute found))
    (inside-skip _ bytes ∙ ap (tags.tag_inside 0) (rest-is b bytes found.rest behind))

-- no attribute: the end of the tag
pub inside-last : (bytes : List ℕ) → tags.attribute_at bytes ≡ None → tags.tag_inside 0 bytes ≡ tags.tag_rest bytes
unfolding tags.tag_inside
inside-last [] e = refl
inside-last (b ∷ bytes) e = ap (λ x. with_rest (b ∷ bytes) x bytes) e

with-none : (x : Option tags.Inside) → option_map (with_all []) x ≡ x
with-none None = refl
with-none (Some inside) = refl

with-more : (stand : List tags.Found) (found : tags.Found) (x : Option tags.Inside) →
    option_map (with_all stand) (option_map (tags.with_attribute found) x) ≡ option_map (with_all (stand ++ found ∷ [])) x
with-more stand found None = refl
with-more stand found (Some inside) = ap (λ attributes. Some (record { attributes = attributes; is_empty = inside.is_empty }))
    (sym (append_assoc stand (found ∷ []) inside.attributes))

-- what the values say, with one more behind them
abbrev both_values : Option (List Written) → List ℕ → Option (List ℕ) → Option (List Written)
both_values (Some attributes) name (Some value) = Some (attributes ++ record { name = name; value = value } ∷ [])
both_values (Some attributes) name None = None
both_values None name x = None

abbrev value_then : Option (List ℕ) → List ℕ → Option (List Written) → Option (List Written)
value_then x name y = elim x [ None ↦ None | (Some value) ↦ option_map (λ attributes. record { name = name; value = value } ∷ attributes) y ]

values-one : (found : tags.Found) → tags.with_values (found ∷ []) ≡ both_values (Some []) found.name (tags.value_of 0 (chars found.value))
values-one found = by (tags.value_of 0 (chars found.value))
  where
    by : (x : Option (List ℕ)) → value_then x found.name (Some []) ≡ both_values (Some []) found.name x
    by None = refl
    by (Some value) = refl

values-more : (stand : List tags.Found) (found : tags.Found) → tags.with_values (stand ++ found ∷ []) ≡ both_values (tags.with_values stand) found.name
    (tags.value_of 0 (chars found.value))
values-more [] found = values-one found
values-more (one ∷ stand) found =
    ap (value_then (tags.value_of 0 (chars one.value)) one.name) (values-more stand found)
    ∙ by (tags.value_of 0 (chars one.value)) (tags.with_values stand) (tags.value_of 0 (chars found.value))
  where
    by : (x : Option (List ℕ)) (y : Option (List Written)) (z : Option (List ℕ)) →
        value_then x one.name (both_values y found.name z) ≡ both_values (value_then x one.name y) found.name z
    by None y z = refl
    by (Some value) None z = refl
    by (Some value) (Some attributes) None = refl
    by (Some value) (Some attributes) (Some said) = refl

-- What is known behind so many attributes.
pub record Attributing (text : List ℕ) (items : List Attribute) (are_right : Bool) (rest : List ℕ) : Type 0 where
  pub stand : List tags.Found
  pub whole : tags.tag_inside 0 text ≡ option_map (with_all stand) (tags.tag_inside 0 rest)
  pub values : tags.with_values stand ≡ (if are_right then Some (map seen_attribute items) else None)

pub attributing-begin : (text : List ℕ) (items : List Attribute) → items ≡ [] → Attributing text items true text
attributing-begin text items e = record { stand = []; whole = sym (with-none (tags.tag_inside 0 text)); values = ap (λ x. Some (map seen_attribute x)) (sym e) }

whole-step : (text rest : List ℕ) (stand : List tags.Found) (found : tags.Found) → tags.attribute_at rest ≡ Some found →
    tags.tag_inside 0 text ≡ option_map (with_all stand) (tags.tag_inside 0 rest)
    → tags.tag_inside 0 text ≡ option_map (with_all (stand ++ found ∷ [])) (tags.tag_inside 0 found.rest)
whole-step text rest stand found e whole = whole ∙ (ap (option_map (with_all stand)) (inside-step rest found e) ∙
    with-more stand found (tags.tag_inside 0 found.rest))

pub attributing-step : (text rest : List ℕ) (items new : List Attribute) (are_right : Bool) (found : tags.Found) (attribute : Attribute) →
    tags.attribute_at rest ≡ Some found → Some (seen_attribute attribute).value ≡ tags.value_of 0 (chars found.value) →
    (seen_attribute attribute).name ≡ found.name
    → new ≡ items ++ attribute ∷ [] → Attributing text items are_right rest → Attributing text new are_right found.rest
attributing-step text rest items new are_right found attribute e v n p known = record {
  stand = known.stand ++ found ∷ [];
  whole = whole-step text rest known.stand found e known.whole;
  values = values-more known.stand found ∙ (ap (λ x. both_values x found.name (tags.value_of 0 (chars found.value))) known.values
      ∙ (ap (both_values (if are_right then Some (map seen_attribute items) else None) found.name) (sym v) ∙ by are_right));
} where
  by : (t : Bool) → both_values (if t then Some (map seen_attribute items) else None) found.name
      (Some (seen_attribute attribute).value) ≡ (if t then Some (map seen_attribute new) else None)
  by false = refl
  by true = ap (λ name. Some (map seen_attribute items ++ record { name = name; value = (seen_attribute attribute).value } ∷ [])) (sym n) ∙
      (ap Some (sym (map_push seen_attribute items attribute)) ∙ ap (λ x. Some (map seen_attribute x)) (sym p))

pub attributing-wrong : (text rest : List ℕ) (items : List Attribute) (are_right : Bool) (found : tags.Found) → tags.attribute_at rest ≡ Some found →
    None ≡ tags.value_of 0 (chars found.value) → Attributing text items are_right rest → Attributing text items false found.rest
attributing-wrong text rest items are_right found e v known = record {
  stand = known.stand ++ found ∷ [];
  whole = whole-step text rest known.stand found e known.whole;
  values = values-more known.stand found ∙ (ap (both_values (tags.with_values known.stand) found.name) (sym v) ∙ by (tags.with_values known.stand));
} where
  by : (x : Option (List Written)) → both_values x found.name None ≡ None
  by None = refl
  by (Some attributes) = refl

pub attributing-smaller : (rest : List ℕ) (found : tags.Found) → tags.attribute_at rest ≡ Some found → length found.rest < length rest
attributing-smaller [] found e = let f : None ≡ Some found = sym no-attribute ∙ e in cc
attributing-smaller (b ∷ bytes) found e =
    let behind = attribute-behind (b ∷ bytes) found e in
    omega (arith, ap length behind.is, length-drop behind.count (b ∷ bytes), behind.some)

pub attributing-same : (text rest : List ℕ) (found old : Vec Attribute Global) (right are_right : Bool) → found ≡ old → right ≡ are_right →
    Attributing text old.items are_right rest → Attributing text found.items right rest
attributing-same text rest found old right are_right e f known = record {
  stand = known.stand;
  whole = known.whole;
  values = known.values ∙ (ap (λ t. if t then Some (map seen_attribute old.items) else None) (sym f) ∙
      ap (λ v. if right then Some (map seen_attribute v.items) else None) (sym e));
}
