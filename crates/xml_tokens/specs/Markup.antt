-- The tokens of a document; comments, CDATA sections, processing instructions and the declaration, by the bytes that
-- stand inside them: the token, or the kind of its fault.
use Rattle.std.specs.Prelude.{ℕ, Bool, false, not, ◌&&◌, ◌||◌, ◌==◌, List, [], ◌∷◌, ◌++◌, map, length, take, drop, Option, Some, None, is_none, option_and_then}
use Rattle.std.specs.Prelude.{unwrap_or, Result, Ok, Err, if◌then◌else◌, bytes_eq, codes, chars}
use Rattle.std.specs.List.{list_all, prefix_len}
use Rattle.std.specs.Char.{to_ascii_lowercase}
use Rattle.inv_base.specs.Characters.{is_white_space, is_name_char}
use Rattle.xml_tokens.specs.declared.kind.XmlKind.{XmlKind}
use Rattle.xml_tokens.specs.declared.kind.XmlKind.TheVariants.{BadDeclaration, BadMarkup}
use Rattle.xml_tokens.specs.Searches.{begins_with, behind_string, place_of}
use Rattle.xml_tokens.specs.WrittenNames.{is_colon, is_ncname}
use Rattle.xml_tokens.specs.Literals.{behind_white_space, begins_with_space, Literal, literal_at}

-- An attribute: its name as written, in bytes, and what its value says, in characters.
pub record Written : Type 0 where
  pub name : List ℕ
  pub value : List ℕ

-- A start tag or an empty-element tag, by its name as written and its attributes, the declarations of namespaces among
-- them.
pub record Tag : Type 0 where
  pub name : List ℕ
  pub attributes : List Written
  pub is_empty : Bool

-- the byte order mark; the declaration, a comment or a processing instruction; a character; a reference to a character;
-- a CDATA section by its characters; a start tag or empty-element tag; an end tag by its name as written
pub data Token : Type 0 where
  a_mark : Token
  an_aside : Token
  a_character : ℕ → Token
  a_reference : ℕ → Token
  a_section : List ℕ → Token
  a_start_tag : Tag → Token
  an_end_tag : List ℕ → Token

-- the token where the test holds, else the kind of fault
abbrev pub if_right : Bool → Token → XmlKind → Result Token XmlKind
if_right right token kind = if right then Ok token else Err kind

-- a comment, production 15: no `--` stands inside, also not with the first `-` of its end
unfoldable pub comment : List ℕ → Result Token XmlKind
comment inside = if_right (is_none (place_of (codes "--") (inside ++ codes "-"))) an_aside BadMarkup

-- CR LF and CR become LF, section 2.11
abbrev pub with_line_feeds : List ℕ → List ℕ
with_line_feeds [] = []
with_line_feeds (c ∷ characters) =
    if c == 0xD then (if begins_with (0xA ∷ []) characters then with_line_feeds characters else 0xA ∷ with_line_feeds characters)
    else c ∷ with_line_feeds characters

-- a CDATA section, production 18
unfoldable pub section : List ℕ → Result Token XmlKind
section inside = Ok (a_section (with_line_feeds (chars inside)))

-- what stands behind a literal that passes the test
abbrev pub behind_literal : (List ℕ → Bool) → Literal → Option (List ℕ)
behind_literal test literal = if test literal.value then Some literal.rest else None

-- what stands behind white space, the word, `=` and a literal that passes the test
abbrev pub behind_declared : List ℕ → (List ℕ → Bool) → List ℕ → Option (List ℕ)
behind_declared word test bytes =
    if begins_with_space bytes
    then option_and_then (behind_literal test) (option_and_then literal_at (behind_string word (behind_white_space bytes)))
    else None

-- the same, where they may be left out
abbrev pub behind_optional : List ℕ → (List ℕ → Bool) → List ℕ → List ℕ
behind_optional word test bytes = unwrap_or (behind_declared word test bytes) bytes

-- `1.0`: the standard admits other versions, this profile none
abbrev pub is_version : List ℕ → Bool
is_version value = bytes_eq value (codes "1.0")

-- `UTF-8` in any case, the only encoding of this profile
abbrev pub is_encoding : List ℕ → Bool
is_encoding value = bytes_eq (map to_ascii_lowercase value) (codes "utf-8")

-- `yes` or `no`
abbrev pub is_yes_or_no : List ℕ → Bool
is_yes_or_no value = bytes_eq value (codes "yes") || bytes_eq value (codes "no")

-- the declaration, production 23, by what stands behind `<?xml`: the version, and perhaps the encoding and whether it
-- stands alone
unfoldable pub is_declaration : List ℕ → Bool
is_declaration bytes = elim (behind_declared (codes "version") is_version bytes) [
  | None ↦ false
  | (Some rest) ↦ list_all is_white_space (behind_optional (codes "standalone") is_yes_or_no (behind_optional (codes "encoding") is_encoding rest))
]

-- the target of an instruction, by its characters: as many as may go on a name, a colon among them
abbrev pub target_of : List ℕ → List ℕ
target_of characters = take (prefix_len (λ c. is_colon c || is_name_char c) characters) characters

-- PITarget, production 17, without a colon: an NCName but `xml` in any case
abbrev pub is_target : List ℕ → Bool
is_target target = is_ncname target && not (bytes_eq (map to_ascii_lowercase target) (codes "xml"))

-- Nothing stands behind the target, or white space first.
abbrev pub ends_target : List ℕ → Bool
ends_target characters = length characters == 0 || begins_with_space characters

-- a processing instruction, production 16, or with the target `xml` the declaration, where it may stand
unfoldable pub instruction : Bool → List ℕ → Result Token XmlKind
instruction may_declare inside =
    let target = target_of (chars inside) in
    if bytes_eq target (codes "xml") then if_right (may_declare && is_declaration (drop 3 inside)) an_aside BadDeclaration
    else if_right (is_target target && ends_target (drop (length target) (chars inside))) an_aside BadMarkup
