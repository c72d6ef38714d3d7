-- The row at which a table that a user's terms extend is at fault.
use Rattle.std.specs.Prelude.{◌≡◌, ℕ, ◌-◌, ◌<◌, true, List, Some, slice_get}
use Rattle.term_table.specs.declared.terms.Term.{Term}
use Rattle.term_table.specs.SemanticModel.{is_extension}
use Rattle.bind_rows.specs.declared.rows.Content.TheVariants as contents
use Rattle.bind_rows.specs.declared.rows.Row.{Row}
use Rattle.bind_table.specs.declared.judging.TableFault.{TableFault}

-- It stands behind the table's own rows, of which there are this many, and has one of the user's terms.
pub record IsOfTerm (own : ℕ) (rows : List Row) (fault : TableFault) : Type 0 where
  pub behind : own < fault.row
  pub row : Row
  pub at : slice_get rows (fault.row - 1) ≡ Some row
  pub term : Term
  pub content : row.content ≡ contents.Term term
  pub extension : is_extension term ≡ true
