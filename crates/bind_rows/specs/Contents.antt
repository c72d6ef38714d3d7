-- What a row has: a business term, or a constant.
use Rattle.std.specs.Prelude.{Bool, true, false}
use Rattle.bind_rows.specs.declared.rows.Content.{Content}
use Rattle.bind_rows.specs.declared.rows.Content.TheVariants as contents
use Rattle.bind_rows.specs.declared.rows.Row.{Row}

abbrev pub holds_term : Content → Bool
holds_term (contents.Term term) = true
holds_term (contents.Constant text) = false

abbrev pub has_term : Row → Bool
has_term row = holds_term row.content
