-- Rows of a table that are read.
use Rattle.std.specs.Prelude.{Bool, true, false}
use Rattle.bind_rows.specs.declared.rows.Row.{Row}
use Rattle.bind_rows.specs.declared.rows.Content.{Content}
use Rattle.bind_rows.specs.declared.rows.Content.TheVariants as contents
use Rattle.bind_rows.specs.declared.rows.Check.{Check}
use Rattle.bind_rows.specs.declared.rows.Check.TheVariants as checks

abbrev pub has_indicator : Check → Bool
has_indicator checks.Nothing = false
has_indicator checks.Scheme = false
has_indicator checks.Format = false
has_indicator (checks.Indicator term) = true

abbrev pub indicator_in : Content → Check → Bool
indicator_in (contents.Term term) check = false
indicator_in (contents.Constant text) check = has_indicator check

-- The row has no term, but an indicator whose word is checked.
abbrev pub is_indicator : Row → Bool
is_indicator row = indicator_in row.content row.check
