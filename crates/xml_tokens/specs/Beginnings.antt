-- What begins at a place of the bytes: a token, a bad token, or nothing yet. The standard's document type declaration
-- is no token of this profile.
use Rattle.std.specs.Prelude.{ℕ, ◌+◌, pred, max, Bool, true, false, not, ◌&&◌, ◌||◌, ◌==◌, List, [], ◌∷◌, length, take, drop, Some, None, Result, Ok, Err}
use Rattle.std.specs.Prelude.{if◌then◌else◌, chars, codes}
use Rattle.std.specs.List.{list_all}
use Rattle.std.specs.Str.{is_utf8}
use Rattle.inv_base.specs.Characters.{is_char}
use Rattle.xml_tokens.specs.declared.encoding.Begun.{Begun}
use Rattle.xml_tokens.specs.declared.encoding.Begun.TheVariants as begun
use Rattle.xml_tokens.specs.declared.kind.XmlKind.{XmlKind}
use Rattle.xml_tokens.specs.declared.kind.XmlKind.TheVariants.{TagTooLong, NotUtf8, BadChar, Doctype, BadMarkup, BadReference}
use Rattle.xml_tokens.specs.Searches.{begins_with, ends_inside, shared_front, place_of, behind, none_within, none_yet, tag_end}
use Rattle.xml_tokens.specs.Encoding as encoding
use Rattle.xml_tokens.specs.References.{reference_at}
use Rattle.xml_tokens.specs.Markup.{Token, a_mark, a_character, a_reference, comment, section, instruction}
use Rattle.xml_tokens.specs.Tags.{tag}
use Rattle.xml_tokens.specs.declared.beginning.Position.{Position}
use Rattle.xml_tokens.specs.declared.beginning.Position.TheVariants.{AtStart, BehindMark, Farther}

-- The declaration may stand here.
abbrev pub may_declare : Position → Bool
may_declare AtStart = true
may_declare BehindMark = true
may_declare Farther = false

-- A token and how many bytes it takes; a bad token, by the kind of its fault and how many bytes show it; or the bytes
-- end before it is either.
pub data Beginning : Type 0 where
  good : Token → ℕ → Beginning
  bad : XmlKind → ℕ → Beginning
  later : Beginning

-- the token or fault of so many bytes
abbrev pub of_length : ℕ → Result Token XmlKind → Beginning
of_length n (Ok token) = good token n
of_length n (Err kind) = bad kind n

-- an extent of so many bytes by what stands inside, which is UTF-8, then Chars, then what the grammar says
unfoldable pub extent : ℕ → List ℕ → (List ℕ → Result Token XmlKind) → Beginning
extent n inside grammar = elim (is_utf8 inside) [
  | false ↦ bad NotUtf8 n
  | true ↦ elim (list_all is_char (chars inside)) [ false ↦ bad BadChar n | true ↦ of_length n (grammar inside) ]
]

-- an extent that ends with the first such string behind so many bytes that begin it
abbrev pub extent_through : List ℕ → ℕ → List ℕ → (List ℕ → Result Token XmlKind) → Beginning
extent_through string opening bytes grammar = elim (place_of string bytes) [
  | None ↦ later
  | (Some n) ↦ extent (opening + (n + length string)) (take n bytes) grammar
]

-- the greatest number of bytes of a tag, its `<` and `>` among them, a limit that the standard has not
abbrev pub greatest_tag : ℕ
greatest_tag = 262144

-- a tag, by the bytes behind its `<`
abbrev pub tag_at : List ℕ → Beginning
tag_at bytes = elim (tag_end bytes None (pred greatest_tag)) [
  | none_within ↦ bad TagTooLong greatest_tag
  | none_yet ↦ later
  | (behind n) ↦ extent (n + 2) (take n bytes) tag
]

-- what begins with `<!`, by the bytes behind it; the first byte that none of the three goes on with shows that it is
-- none
abbrev pub comment_or_section_at : List ℕ → Beginning
comment_or_section_at bytes =
    elim (begins_with (codes "--") bytes) [
      | true ↦ extent_through (codes "-->") 4 (drop 2 bytes) comment
      | false ↦ elim (begins_with (codes "[CDATA[") bytes) [
        | true ↦ extent_through (codes "]]>") 9 (drop 7 bytes) section
        | false ↦ elim (begins_with (codes "DOCTYPE") bytes) [
          | true ↦ bad Doctype 9
          | false ↦ elim (ends_inside (codes "--") bytes || (ends_inside (codes "[CDATA[") bytes || ends_inside (codes "DOCTYPE") bytes)) [
            | true ↦ later
            | false ↦ bad BadMarkup (3 + max (shared_front (codes "--") bytes)
                (max (shared_front (codes "[CDATA[") bytes) (shared_front (codes "DOCTYPE") bytes)))
          ]
        ]
      ]
    ]

-- what begins with `<`, by the bytes behind it
abbrev pub markup_at : Position → List ℕ → Beginning
markup_at position [] = later
markup_at position (b ∷ bytes) =
    elim (b == 0x21) [
      | true ↦ comment_or_section_at bytes
      | false ↦ elim (b == 0x3F) [
        | true ↦ extent_through (codes "?>") 2 bytes (instruction (may_declare position))
        | false ↦ tag_at (b ∷ bytes)
      ]
    ]

-- a reference, by the bytes behind its `&`
abbrev pub reference_token : Begun ℕ → Beginning
reference_token (begun.Character c n) = good (a_reference c) n
reference_token (begun.Broken n) = bad BadReference n
reference_token begun.Unfinished = later

-- a `]`, by the bytes behind it: `]]>` is bad, and where the bytes may go on a `]` or `]]` at their end may still
-- become it
abbrev pub bracket_at : Bool → List ℕ → Beginning
bracket_at ended bytes = elim (begins_with (codes "]>") bytes) [
  | true ↦ bad BadMarkup 3
  | false ↦ elim (not ended && ends_inside (codes "]>") bytes) [ true ↦ later | false ↦ good (a_character 0x5D) 1 ]
]

-- a CR, by the bytes behind it: with or without a LF it is a line end, which is a LF
abbrev pub line_end_at : Bool → List ℕ → Beginning
line_end_at ended [] = elim ended [ true ↦ good (a_character 0xA) 1 | false ↦ later ]
line_end_at ended (b ∷ bytes) = elim (b == 0xA) [ true ↦ good (a_character 0xA) 2 | false ↦ good (a_character 0xA) 1 ]

-- a character, which is a Char
abbrev pub character_token : Begun ℕ → Beginning
character_token (begun.Character c n) = elim (is_char c) [ true ↦ good (a_character c) n | false ↦ bad BadChar n ]
character_token (begun.Broken n) = bad NotUtf8 n
character_token begun.Unfinished = later

-- The bytes begin with the byte order mark, at their start.
abbrev pub begins_with_mark : Position → List ℕ → Bool
begins_with_mark AtStart bytes = begins_with (0xEF ∷ 0xBB ∷ 0xBF ∷ []) bytes
begins_with_mark BehindMark bytes = false
begins_with_mark Farther bytes = false

-- what begins at these bytes, behind which the input has ended or may go on
unfoldable pub beginning : Position → Bool → List ℕ → Beginning
beginning position ended [] = later
beginning position ended (b ∷ bytes) =
    elim (b == 0x3C) [
      | true ↦ markup_at position bytes
      | false ↦ elim (b == 0x26) [
        | true ↦ reference_token (reference_at bytes)
        | false ↦ elim (b == 0x5D) [
          | true ↦ bracket_at ended bytes
          | false ↦ elim (b == 0xD) [
            | true ↦ line_end_at ended bytes
            | false ↦ elim (begins_with_mark position (b ∷ bytes)) [
              | true ↦ good a_mark 3
              | false ↦ character_token (encoding.character_at b bytes)
            ]
          ]
        ]
      ]
    ]

-- How many bytes of what isn't a token yet it has whatever follows: a `]` may be a token by itself.
abbrev pub sure_length : ℕ → List ℕ → ℕ
sure_length b bytes = if b == 0x5D then 1 else 1 + length bytes
