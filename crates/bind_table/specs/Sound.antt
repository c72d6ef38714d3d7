-- What a well-formed table says of each of its rows, built in or added, over all of them.
use Rattle.std.specs.Prelude.{◌≡◌, Bool, true, false, List, is_none}
use Rattle.term_table.specs.Rows.{row_in}
use Rattle.bind_rows.specs.declared.rows.Content.{Content}
use Rattle.bind_rows.specs.declared.rows.Content.TheVariants as contents
use Rattle.bind_rows.specs.declared.rows.Row.{Row}
use Rattle.bind_rows.specs.Added.{is_added}
use Rattle.bind_table.specs.WellFormed.{is_unknown, is_rooted, is_placed, is_nested}

-- The content is a term that has no place in the row's context.
abbrev pub is_unplaced : Row → Content → Bool
is_unplaced row (contents.Term term) = is_none (row_in term row.outer row.inner)
is_unplaced row (contents.Constant text) = false

-- The row's term has a place in its context, and is one of the semantic model unless a user added the row. The path
-- begins with the root of the others; one element carries each group of the context, the outer above the inner.
pub record IsSoundRow (rows : List Row) (row : Row) : Type 0 where
  pub known : is_unplaced row row.content ≡ false
  pub modelled : is_added row ≡ false → is_unknown row row.content ≡ false
  pub rooted : is_rooted rows row ≡ true
  pub outer : is_placed rows row row.outer ≡ true
  pub inner : is_placed rows row row.inner ≡ true
  pub nested : is_nested row row.outer row.inner ≡ true
