-- Tags that are a name and nothing else, as the code has them.
use Rattle.std.specs.Prelude.{ℕ, List, [], true, false}
use Rattle.xml_tokens.specs.Markup as markup
use Rattle.xml_tokens.specs.declared.plain_tags.PlainKind.{PlainKind}
use Rattle.xml_tokens.specs.declared.plain_tags.PlainKind.TheVariants.{Start, Empty, End}
use Rattle.xml_tokens.specs.declared.plain_tags.PlainTag.{PlainTag}

abbrev plain_of : PlainKind → List ℕ → markup.Token
plain_of Start name = markup.a_start_tag (record { name = name; attributes = []; is_empty = false })
plain_of Empty name = markup.a_start_tag (record { name = name; attributes = []; is_empty = true })
plain_of End name = markup.an_end_tag name

-- the token that it is
abbrev pub plain_token : PlainTag → markup.Token
plain_token tag = plain_of tag.kind tag.name.now
