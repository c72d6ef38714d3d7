-- The words of a rule file: local names of Schematron's elements and of attributes (ISO/IEC 19757-3, section 5.4). They
-- are ASCII.
use Rattle.std.specs.Prelude.{◌≡◌, ℕ, List, codes, refl}
use Rattle.std.specs.Str.{chars}
use Rattle.schematron_meaning.specs.declared.attribute.Attribute.{Attribute}
use Rattle.schematron_meaning.specs.declared.attribute.Attribute.TheVariants as a
use Rattle.schematron_meaning.specs.declared.tag.Tag.{Tag}
use Rattle.schematron_meaning.specs.declared.tag.Tag.TheVariants as t

-- Schematron's namespace
abbrev pub schematron : List ℕ
schematron = codes "http://purl.oclc.org/dsdl/schematron"

abbrev pub tag_word : Tag → List ℕ
tag_word t.Schema = codes "schema"
tag_word t.Title = codes "title"
tag_word t.Paragraph = codes "p"
tag_word t.Namespace = codes "ns"
tag_word t.Let = codes "let"
tag_word t.Phase = codes "phase"
tag_word t.Pattern = codes "pattern"
tag_word t.Diagnostics = codes "diagnostics"
tag_word t.Properties = codes "properties"
tag_word t.Active = codes "active"
tag_word t.Rule = codes "rule"
tag_word t.Parameter = codes "param"
tag_word t.Assert = codes "assert"
tag_word t.Report = codes "report"
tag_word t.Extends = codes "extends"
tag_word t.ValueOf = codes "value-of"
tag_word t.NodeName = codes "name"
tag_word t.Emphasis = codes "emph"
tag_word t.Span = codes "span"
tag_word t.Direction = codes "dir"

abbrev pub attribute_word : Attribute → List ℕ
attribute_word a.QueryBinding = codes "queryBinding"
attribute_word a.DefaultPhase = codes "defaultPhase"
attribute_word a.Prefix = codes "prefix"
attribute_word a.Uri = codes "uri"
attribute_word a.Name = codes "name"
attribute_word a.Value = codes "value"
attribute_word a.Id = codes "id"
attribute_word a.Pattern = codes "pattern"
attribute_word a.Abstract = codes "abstract"
attribute_word a.IsA = codes "is-a"
attribute_word a.Context = codes "context"
attribute_word a.Rule = codes "rule"
attribute_word a.Test = codes "test"
attribute_word a.Flag = codes "flag"
attribute_word a.Role = codes "role"
attribute_word a.Select = codes "select"

pub chars-tag_word : (tag : Tag) → chars (tag_word tag) ≡ tag_word tag
unfolding chars
chars-tag_word t.Schema = refl
chars-tag_word t.Title = refl
chars-tag_word t.Paragraph = refl
chars-tag_word t.Namespace = refl
chars-tag_word t.Let = refl
chars-tag_word t.Phase = refl
chars-tag_word t.Pattern = refl
chars-tag_word t.Diagnostics = refl
chars-tag_word t.Properties = refl
chars-tag_word t.Active = refl
chars-tag_word t.Rule = refl
chars-tag_word t.Parameter = refl
chars-tag_word t.Assert = refl
chars-tag_word t.Report = refl
chars-tag_word t.Extends = refl
chars-tag_word t.ValueOf = refl
chars-tag_word t.NodeName = refl
chars-tag_word t.Emphasis = refl
chars-tag_word t.Span = refl
chars-tag_word t.Direction = refl

pub chars-attribute_word : (name : Attribute) → chars (attribute_word name) ≡ attribute_word name
unfolding chars
chars-attribute_word a.QueryBinding = refl
chars-attribute_word a.DefaultPhase = refl
chars-attribute_word a.Prefix = refl
chars-attribute_word a.Uri = refl
chars-attribute_word a.Name = refl
chars-attribute_word a.Value = refl
chars-attribute_word a.Id = refl
chars-attribute_word a.Pattern = refl
chars-attribute_word a.Abstract = refl
chars-attribute_word a.IsA = refl
chars-attribute_word a.Context = refl
chars-attribute_word a.Rule = refl
chars-attribute_word a.Test = refl
chars-attribute_word a.Flag = refl
chars-attribute_word a.Role = refl
chars-attribute_word a.Select = refl
