-- Start tags, empty-element tags and end tags (XML 1.0, productions 40 to 44), by the bytes between `<` and `>`.
use Rattle.std.specs.Prelude.{ℕ, ◌-◌, zero, suc, pred, Bool, true, false, ◌&&◌, ◌==◌, List, [], ◌∷◌, length, drop, Option, Some, None, option_map}
use Rattle.std.specs.Prelude.{option_and_then, Result, Ok, Err, if◌then◌else◌, bytes_eq, codes, chars}
use Rattle.std.specs.List.{list_all, list_any}
use Rattle.inv_base.specs.Characters.{is_white_space}
use Rattle.xml_tokens.specs.declared.encoding.Begun.{Begun}
use Rattle.xml_tokens.specs.declared.encoding.Begun.TheVariants as begun
use Rattle.xml_tokens.specs.declared.kind.XmlKind.{XmlKind}
use Rattle.xml_tokens.specs.declared.kind.XmlKind.TheVariants.{BadMarkup, BadReference}
use Rattle.xml_tokens.specs.Searches.{begins_with}
use Rattle.xml_tokens.specs.References.{reference_at}
use Rattle.xml_tokens.specs.WrittenNames.{is_qname, name_at_front}
use Rattle.xml_tokens.specs.Literals.{behind_white_space, begins_with_space, Literal, literal_at}
use Rattle.xml_tokens.specs.declared.values.ValuePart.{ValuePart}
use Rattle.xml_tokens.specs.Markup.{Written, Token, a_start_tag, an_end_tag, if_right}

-- An attribute as it stands, its name and its value in bytes, and what is behind it.
pub record Found : Type 0 where
  pub name : List ℕ
  pub value : List ℕ
  pub rest : List ℕ

-- the attribute of the name and of a literal without `<`
abbrev pub found_literal : List ℕ → Literal → Option Found
found_literal name literal =
    if list_any (λ b. b == 0x3C) literal.value then None else Some (record { name = name; value = literal.value; rest = literal.rest })

-- the attribute that begins with white space and a name, production 41
unfoldable pub attribute_at : List ℕ → Option Found
attribute_at bytes =
    let front = behind_white_space bytes in
    let name = name_at_front front in
    if begins_with_space bytes && is_qname name then option_and_then (found_literal name) (literal_at (drop (length name) front)) else None

-- What stands behind the name of a tag: attributes as they stand, and whether the element is empty.
pub record Inside : Type 0 where
  pub attributes : List Found
  pub is_empty : Bool

-- what stands inside with one attribute before it
abbrev pub with_attribute : Found → Inside → Inside
with_attribute found inside = record { attributes = found ∷ inside.attributes; is_empty = inside.is_empty }

-- the end of a tag: white space, and perhaps a `/`
abbrev pub tag_rest : List ℕ → Option Inside
tag_rest bytes =
    let rest = behind_white_space bytes in
    if length rest == 0 then Some (record { attributes = []; is_empty = false })
    else (if bytes_eq rest (codes "/") then Some (record { attributes = []; is_empty = true }) else None)

-- the attributes and the end of a tag, behind so many bytes that belong to the attribute before
unfoldable pub tag_inside : ℕ → List ℕ → Option Inside
tag_inside skip [] = Some (record { attributes = []; is_empty = false })
tag_inside (suc skip) (b ∷ bytes) = tag_inside skip bytes
tag_inside zero (b ∷ bytes) = elim (attribute_at (b ∷ bytes)) [
  | None ↦ tag_rest (b ∷ bytes)
  | (Some found) ↦ option_map (with_attribute found) (tag_inside (pred (length (b ∷ bytes) - length found.rest)) bytes)
]

-- a reference in a value, of which all but its `&` follows
abbrev pub referred_part : Begun ℕ → Option ValuePart
referred_part (begun.Character c n) = Some (record { character = c; more = pred n })
referred_part (begun.Broken n) = None
referred_part begun.Unfinished = None

-- A reference is its character; CR LF, CR, LF and TAB are one space, section 3.3.3.
abbrev pub value_part : ℕ → List ℕ → Option ValuePart
value_part c characters =
    if c == 0x26 then referred_part (reference_at characters)
    else (if c == 0xD && begins_with (0xA ∷ []) characters then Some (record { character = 0x20; more = 1 })
    else (if is_white_space c then Some (record { character = 0x20; more = 0 })
    else Some (record { character = c; more = 0 })))

-- what the characters of a value say, behind so many that belong to the one before, where each `&` begins a reference
unfoldable pub value_of : ℕ → List ℕ → Option (List ℕ)
value_of skip [] = Some []
value_of (suc skip) (c ∷ characters) = value_of skip characters
value_of zero (c ∷ characters) = elim (value_part c characters) [
  | None ↦ None
  | (Some part) ↦ option_map (λ value. part.character ∷ value) (value_of part.more characters)
]

-- the attributes with what their values say
abbrev pub with_values : List Found → Option (List Written)
with_values [] = Some []
with_values (found ∷ more) = elim (value_of 0 (chars found.value)) [
  | None ↦ None
  | (Some value) ↦ option_map (λ attributes. record { name = found.name; value = value } ∷ attributes) (with_values more)
]

-- the tag of a name and of what stands behind it
abbrev pub tag_with : List ℕ → Inside → Result Token XmlKind
tag_with name inside = elim (with_values inside.attributes) [
  | None ↦ Err BadReference
  | (Some attributes) ↦ Ok (a_start_tag (record { name = name; attributes = attributes; is_empty = inside.is_empty }))
]

-- a start tag or an empty-element tag
unfoldable pub start_tag : List ℕ → Result Token XmlKind
start_tag bytes = let name = name_at_front bytes in elim (is_qname name) [
  | false ↦ Err BadMarkup
  | true ↦ elim (tag_inside 0 (drop (length name) bytes)) [ None ↦ Err BadMarkup | (Some inside) ↦ tag_with name inside ]
]

-- an end tag, by what stands behind its `/`
unfoldable pub end_tag : List ℕ → Result Token XmlKind
end_tag bytes = let name = name_at_front bytes in
    if_right (is_qname name && list_all is_white_space (drop (length name) bytes)) (an_end_tag name) BadMarkup

-- a tag of any kind
abbrev pub tag : List ℕ → Result Token XmlKind
tag [] = Err BadMarkup
tag (b ∷ bytes) = elim (b == 0x2F) [ true ↦ end_tag bytes | false ↦ start_tag (b ∷ bytes) ]
