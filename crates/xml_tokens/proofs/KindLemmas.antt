-- What begins has never want of memory as its fault.
use Rattle.std.proofs.Common.{◌≡◌, ℕ, ◌+◌, pred, Bool, true, false, ◌&&◌, ◌==◌, not, List, [], ◌∷◌, length, take, drop, refl, Option, Some, None, Result, Ok}
use Rattle.std.proofs.Common.{Err, if◌then◌else◌, bytes_eq, chars}
use Rattle.std.specs.Prelude.{codes}
use Rattle.std.specs.List.{list_all}
use Rattle.std.specs.Str.{is_utf8}
use Rattle.inv_base.specs.Characters.{is_char}
use Rattle.xml_tokens.specs.declared.kind.XmlKind.{XmlKind}
use Rattle.xml_tokens.specs.declared.kind.XmlKind.TheVariants.{NotUtf8, BadChar, BadDeclaration, BadMarkup, BadReference, TagTooLong, Memory}
use Rattle.xml_tokens.specs.declared.beginning.Position.{Position}
use Rattle.xml_tokens.specs.declared.encoding.Begun.{Begun}
use Rattle.xml_tokens.specs.declared.encoding.Begun.TheVariants as found
use Rattle.xml_tokens.specs.Searches.{begins_with, ends_inside, place_of, TagEnd, behind, none_within, none_yet, tag_end}
use Rattle.xml_tokens.specs.Encoding as encoding
use Rattle.xml_tokens.specs.References.{reference_at}
use Rattle.xml_tokens.specs.WrittenNames.{is_qname, name_at_front}
use Rattle.xml_tokens.specs.Markup.{Written, Token, a_character, a_start_tag, an_end_tag, an_aside, if_right, comment, section, instruction, target_of}
use Rattle.xml_tokens.specs.Markup.{is_declaration, is_target, ends_target}
use Rattle.xml_tokens.specs.Tags.{Inside, tag_inside, with_values, tag_with, start_tag, end_tag, tag}
use Rattle.xml_tokens.specs.Beginnings.{Beginning, good, bad, later, may_declare, of_length, extent, extent_through, tag_at, comment_or_section_at, markup_at}
use Rattle.xml_tokens.specs.Beginnings.{reference_token, bracket_at, line_end_at, character_token, begins_with_mark, beginning, greatest_tag}
use Rattle.xml_tokens.proofs.BeginningLemmas.{choice, inside_one, shared, mark_or}

-- every kind but want of memory
abbrev pub is_of_text : XmlKind → Bool
is_of_text Memory = false
is_of_text kind = true

abbrev IsRead : Result Token XmlKind → Type 0
IsRead (Ok token) = Unit {0}
IsRead (Err kind) = is_of_text kind ≡ true

abbrev pub OfText : Beginning → Type 0
OfText (good token n) = Unit {0}
OfText (bad kind n) = is_of_text kind ≡ true
OfText later = Unit {0}

if-right : (right : Bool) (token : Token) (kind : XmlKind) → is_of_text kind ≡ true → IsRead (if_right right token kind)
if-right true token kind h = tt
if-right false token kind h = h

-- what stands inside an extent
comment-read : (inside : List ℕ) → IsRead (comment inside)
unfolding comment
comment-read inside = if-right _ an_aside BadMarkup refl

section-read : (inside : List ℕ) → IsRead (section inside)
unfolding section
section-read inside = tt

instruction-read : (may_declare : Bool) (inside : List ℕ) → IsRead (instruction may_declare inside)
unfolding instruction
instruction-read may_declare inside =
    by (bytes_eq (target_of (chars inside)) (codes "xml")) (may_declare && is_declaration (drop 3 inside))
    (is_target (target_of (chars inside)) && ends_target (drop (length (target_of (chars inside))) (chars inside)))
  where
    by : (t a b : Bool) → IsRead (if t then if_right a an_aside BadDeclaration else if_right b an_aside BadMarkup)
    by true a b = if-right a an_aside BadDeclaration refl
    by false a b = if-right b an_aside BadMarkup refl

with-read : (name : List ℕ) (inside : Inside) → IsRead (tag_with name inside)
with-read name inside = by (with_values inside.attributes)
  where
    by : (x : Option (List Written)) →
        IsRead (elim x [
          | None ↦ Err BadReference
          | (Some attributes) ↦ Ok
              (a_start_tag (record { name = name; attributes = attributes; is_empty = inside.is_empty }))
        ])
    by None = refl
    by (Some attributes) = tt

start-read : (bytes : List ℕ) → IsRead (start_tag bytes)
unfolding start_tag
start-read bytes = by (is_qname (name_at_front bytes)) (tag_inside 0 (drop (length (name_at_front bytes)) bytes))
  where
    by : (t : Bool) (x : Option Inside) →
        IsRead (elim t [ false ↦ Err BadMarkup | true ↦ elim x [ None ↦ Err BadMarkup | (Some inside) ↦ tag_with (name_at_front bytes) inside ] ])
    by false x = refl
    by true None = refl
    by true (Some inside) = with-read (name_at_front bytes) inside

end-read : (bytes : List ℕ) → IsRead (end_tag bytes)
unfolding end_tag
end-read bytes = if-right _ (an_end_tag (name_at_front bytes)) BadMarkup refl

tag-read : (inside : List ℕ) → IsRead (tag inside)
tag-read [] = refl
tag-read (b ∷ bytes) = by (b == 0x2F)
  where
    by : (t : Bool) → IsRead (elim t [ true ↦ end_tag bytes | false ↦ start_tag (b ∷ bytes) ])
    by true = end-read bytes
    by false = start-read (b ∷ bytes)

-- extents
extent-of : (n : ℕ) (inside : List ℕ) (grammar : List ℕ → Result Token XmlKind) → IsRead (grammar inside) → OfText (extent n inside grammar)
unfolding extent
extent-of n inside grammar h = by (is_utf8 inside) (list_all is_char (chars inside)) (grammar inside) h
  where
    by : (t u : Bool) (r : Result Token XmlKind) → IsRead r →
        OfText (elim t [ false ↦ bad NotUtf8 n | true ↦ elim u [ false ↦ bad BadChar n | true ↦ of_length n r ] ])
    by false u r h = refl
    by true false r h = refl
    by true true (Ok token) h = tt
    by true true (Err kind) h = h

through-of : (string : List ℕ) (opening : ℕ) (bytes : List ℕ) (grammar : List ℕ → Result Token XmlKind) → ((inside : List ℕ) → IsRead (grammar inside)) →
    OfText (extent_through string opening bytes grammar)
through-of string opening bytes grammar h = by (place_of string bytes)
  where
    by : (x : Option ℕ) → OfText (elim x [ None ↦ later | (Some n) ↦ extent (opening + (n + length string)) (take n bytes) grammar ])
    by None = tt
    by (Some n) = extent-of (opening + (n + length string)) (take n bytes) grammar (h (take n bytes))

tag-of : (bytes : List ℕ) → OfText (tag_at bytes)
tag-of bytes = by (tag_end bytes None (pred greatest_tag))
  where
    by : (x : TagEnd) → OfText (elim x [ none_within ↦ bad TagTooLong greatest_tag | none_yet ↦ later | (behind n) ↦ extent (n + 2) (take n bytes) tag ])
    by none_within = refl
    by none_yet = tt
    by (behind n) = extent-of (n + 2) (take n bytes) tag (tag-read (take n bytes))

opened-of : (bytes : List ℕ) → OfText (comment_or_section_at bytes)
opened-of bytes = by (begins_with (codes "--") bytes) (begins_with (codes "[CDATA[") bytes) (begins_with (codes "DOCTYPE") bytes) (inside_one bytes)
  where
    by : (t1 t2 t3 inside : Bool) → OfText (choice t1 t2 t3 inside (shared bytes) bytes)
    by true t2 t3 inside = through-of (codes "-->") 4 (drop 2 bytes) comment comment-read
    by false true t3 inside = through-of (codes "]]>") 9 (drop 7 bytes) section section-read
    by false false true inside = refl
    by false false false true = tt
    by false false false false = refl

markup-of : (p : Position) (bytes : List ℕ) → OfText (markup_at p bytes)
markup-of p [] = tt
markup-of p (b ∷ bytes) = by (b == 0x21) (b == 0x3F)
  where
    by : (t u : Bool) → OfText (elim t [
      | true ↦ comment_or_section_at bytes
      | false ↦ elim u [ true ↦ extent_through (codes "?>") 2 bytes (instruction (may_declare p)) | false ↦ tag_at (b ∷ bytes) ]
    ])
    by true u = opened-of bytes
    by false true = through-of (codes "?>") 2 bytes (instruction (may_declare p)) (instruction-read (may_declare p))
    by false false = tag-of (b ∷ bytes)

-- characters
reference-of : (x : Begun ℕ) → OfText (reference_token x)
reference-of (found.Character c n) = tt
reference-of (found.Broken n) = refl
reference-of found.Unfinished = tt

character-of : (x : Begun ℕ) → OfText (character_token x)
character-of (found.Character c n) = by (is_char c)
  where
    by : (t : Bool) → OfText (elim t [ true ↦ good (a_character c) n | false ↦ bad BadChar n ])
    by true = tt
    by false = refl
character-of (found.Broken n) = refl
character-of found.Unfinished = tt

bracket-of : (ended : Bool) (bytes : List ℕ) → OfText (bracket_at ended bytes)
bracket-of ended bytes = by (begins_with (codes "]>") bytes) (not ended && ends_inside (codes "]>") bytes)
  where
    by : (t u : Bool) → OfText (elim t [ true ↦ bad BadMarkup 3 | false ↦ elim u [ true ↦ later | false ↦ good (a_character 0x5D) 1 ] ])
    by true u = refl
    by false true = tt
    by false false = tt

line-end-of : (ended : Bool) (bytes : List ℕ) → OfText (line_end_at ended bytes)
line-end-of true [] = tt
line-end-of false [] = tt
line-end-of ended (b ∷ bytes) = by (b == 0xA)
  where
    by : (t : Bool) → OfText (elim t [ true ↦ good (a_character 0xA) 2 | false ↦ good (a_character 0xA) 1 ])
    by true = tt
    by false = tt

pub beginning-of-text : (p : Position) (ended : Bool) (bytes : List ℕ) → OfText (beginning p ended bytes)
unfolding beginning
beginning-of-text p ended [] = tt
beginning-of-text p ended (b ∷ bytes) = by (b == 0x3C) (b == 0x26) (b == 0x5D) (b == 0xD) (begins_with_mark p (b ∷ bytes))
  where
    by : (t1 t2 t3 t4 t5 : Bool) → OfText
        (elim t1 [
          | true ↦ markup_at p bytes
          | false ↦ elim t2 [
            | true ↦ reference_token (reference_at bytes)
            | false ↦ elim t3 [ true ↦ bracket_at ended bytes | false ↦ elim t4 [ true ↦ line_end_at ended bytes | false ↦ mark_or t5 b bytes ] ]
          ]
        ])
    by true t2 t3 t4 t5 = markup-of p bytes
    by false true t3 t4 t5 = reference-of (reference_at bytes)
    by false false true t4 t5 = bracket-of ended bytes
    by false false false true t5 = line-end-of ended bytes
    by false false false false true = tt
    by false false false false false = character-of (encoding.character_at b bytes)
