-- Which lines hold an entry, as the code asks it of lines in preorder. No public clause cites it.
use Rattle.std.specs.Prelude.{◌≡◌, ℕ, Bool, true, false, not, ◌&&◌, ◌||◌, List, [], ◌∷◌, Option, Some, None, is_some, slice_get, if◌then◌else◌}
use Rattle.std.specs.List.{list_any}
use Rattle.term_table.specs.declared.contexts.Context.{Context}
use Rattle.inv_terms.specs.declared.entries.Entry.{Entry}
use Rattle.bind_rows.specs.declared.rows.Row.{Row}
use Rattle.bind_rows.specs.declared.rows.Step.{Step}
use Rattle.bind_rows.specs.declared.rows.Written.{Written}
use Rattle.bind_rows.specs.declared.rows.Written.TheVariants as written
use Rattle.bind_table.specs.declared.lines.Line.{Line}
use Rattle.bind_table.specs.Lines.{Plan, Cell, nothing, a_line, flat, numbers}
use Rattle.bind_meaning.specs.Picks as picks
use Rattle.bind_meaning.specs.Writing.{row_text, writes_entry}
use Rattle.bind_meaning.specs.Trees.{line_holds}
use Rattle.bind_meaning.specs.Trees as trees

-- Something is written where the row's term has no value.
abbrev pub has_placeholder : Written → Bool
has_placeholder written.Always = false
has_placeholder written.Never = false
has_placeholder written.IfIban = false
has_placeholder written.IfNotIban = false
has_placeholder written.IfScheme = false
has_placeholder written.IfNoScheme = false
has_placeholder (written.OrPlaceholder placeholder) = true
has_placeholder written.VatTotal = false
has_placeholder written.AccountingVatTotal = false

-- Each cell is the row of its number.
abbrev pub IsCellOf : List Row → Cell → Type 0
IsCellOf rows cell = slice_get rows cell.number ≡ Some cell.row

abbrev pub AreCellsOf : List Row → List Cell → Type 0
AreCellsOf rows [] = Unit {0}
AreCellsOf rows (cell ∷ cells) = IsCellOf rows cell × AreCellsOf rows cells

abbrev pub HasRows : List Row → Plan → Type 0
HasRows rows nothing = Unit {0}
HasRows rows (a_line s cells inside rest) = AreCellsOf rows cells × (HasRows rows inside × HasRows rows rest)

-- These lines are those of the plan, whose cells are rows of the table.
pub record IsPlanOf (rows : List Row) (lines : List Line) (plan : Plan) : Type 0 where
  pub lines_are : lines ≡ flat plan
  pub cells_are : HasRows rows plan

-- The same of one line with what is inside it.
pub record IsLineOf (rows : List Row) (line : Line) (inside : List Line) (cells : List Cell) (plan : Plan) : Type 0 where
  pub numbers_are : line.rows ≡ numbers cells
  pub own_cells : AreCellsOf rows cells
  pub inside_is : IsPlanOf rows inside plan

abbrev pub writes : List Entry → Context → Row → Bool
writes es c row = is_some (row_text row es c)

abbrev pub holds_at : List Entry → Context → Option Row → Bool
holds_at es c None = false
holds_at es c (Some row) = writes_entry row es c

abbrev pub rows_hold : List Entry → List Row → List ℕ → Context → Bool
rows_hold es rows ns c = list_any (λ n. holds_at es c (slice_get rows n)) ns

abbrev pub has_any_term : Row → Bool
has_any_term = picks.has_any_term

abbrev pub has_term_at : Option Row → Bool
has_term_at None = false
has_term_at (Some row) = has_any_term row

abbrev pub has_constant_at : Option Row → Bool
has_constant_at None = false
has_constant_at (Some row) = not (has_any_term row)

abbrev pub line_has_terms : List Row → Line → Bool
line_has_terms rows line = list_any (λ n. has_term_at (slice_get rows n)) line.rows

abbrev pub line_has_constant : List Row → Line → Bool
line_has_constant rows line = list_any (λ n. has_constant_at (slice_get rows n)) line.rows

abbrev pub standing_by : Bool → Bool → Bool → Bool → Bool → Option Bool
standing_by true constant own always held = Some true
standing_by false constant own always held = if (held && constant) || (always || (held && own)) then Some (held && constant) else None

-- none where the line isn't written, else whether what is inside it stands in an element that holds an entry
abbrev pub standing : List Entry → Step → List Cell → Plan → Bool → Context → Option Bool
standing es s cells plan held c = standing_by (line_holds es cells plan c) (trees.is_constant cells plan) (trees.has_constant cells) s.always held
