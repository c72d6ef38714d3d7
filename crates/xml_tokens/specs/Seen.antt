-- What contracts see of the tokens of the code.
use Rattle.std.specs.Prelude.{ℕ, List, map, chars, string_bytes}
use Rattle.xml_tokens.specs.Markup.{with_line_feeds}
use Rattle.xml_tokens.specs.Markup as markup
use Rattle.xml_tokens.specs.Beginnings as beginnings
use Rattle.xml_tokens.specs.declared.kind.XmlKind.{XmlKind}
use Rattle.xml_tokens.specs.declared.token.Value.{Value}
use Rattle.xml_tokens.specs.declared.token.Value.TheVariants.{Lent, Own}
use Rattle.xml_tokens.specs.declared.token.Attribute.{Attribute}
use Rattle.xml_tokens.specs.declared.token.StartTag.{StartTag}
use Rattle.xml_tokens.specs.declared.token.Token.{Token}
use Rattle.xml_tokens.specs.declared.token.Token.TheVariants as tokens
use Rattle.xml_tokens.specs.declared.beginning.Beginning.{Beginning}
use Rattle.xml_tokens.specs.declared.beginning.Beginning.TheVariants.{Good, Bad, Later}

-- what a value says
abbrev pub seen_value : Value → List ℕ
seen_value (Lent text) = chars text.now
seen_value (Own text) = chars (string_bytes text)

abbrev pub seen_attribute : Attribute → markup.Written
seen_attribute attribute = record { name = attribute.name.now; value = seen_value attribute.value }

abbrev pub seen_tag : StartTag → markup.Tag
seen_tag tag = record { name = tag.name.now; attributes = map seen_attribute tag.attributes.items; is_empty = tag.is_empty }

abbrev pub seen_token : Token → markup.Token
seen_token tokens.Mark = markup.a_mark
seen_token tokens.Aside = markup.an_aside
seen_token (tokens.Character c) = markup.a_character c
seen_token (tokens.Reference c) = markup.a_reference c
seen_token (tokens.Section section) = markup.a_section (with_line_feeds (chars section.written.now))
seen_token (tokens.StartTag tag) = markup.a_start_tag (seen_tag tag)
seen_token (tokens.EndTag name) = markup.an_end_tag name.now

-- The two say the same.
pub data Shows : Beginning → beginnings.Beginning → Type 0 where
  shows_good : (token : Token) (n : ℕ) → Shows (Good token n) (beginnings.good (seen_token token) n)
  shows_bad : (kind : XmlKind) (n : ℕ) → Shows (Bad kind n) (beginnings.bad kind n)
  shows_later : Shows Later beginnings.later
