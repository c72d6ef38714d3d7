-- The lines of a table with their names as a document has them. No public clause cites it.
use Rattle.std.specs.Prelude.{ℕ, ◌+◌, Bool, true, false, ◌||◌, List, [], ◌∷◌, ◌++◌, length, map, take, slice_get, Option, Some, None}
use Rattle.std.specs.List.{flat_map, list_any}
use Rattle.node_arena.specs.Document.{Document}
use Rattle.bind_rows.specs.Added.{is_built}
use Rattle.bind_rows.specs.declared.rows.Row.{Row}
use Rattle.bind_rows.specs.declared.rows.Step.{Step}
use Rattle.bind_rows.specs.declared.rows.Content.{Content}
use Rattle.bind_rows.specs.declared.rows.Content.TheVariants as contents
use Rattle.bind_rows.specs.declared.rows.Check.{Check}
use Rattle.bind_rows.specs.declared.rows.Check.TheVariants as checks
use Rattle.bind_table.specs.declared.lines.Line.{Line}
use Rattle.bind_table.specs.Lines.{Cell, Plan, nothing, a_line}
use Rattle.bind_walk.specs.declared.names.FoundLeaf.{FoundLeaf}
use Rattle.bind_walk.specs.declared.names.FoundLeaf.TheVariants as founds
use Rattle.bind_walk.specs.Found.{found_element, found_leaf, found_guard}
use Rattle.bind_walk.specs.declared.lines.Wanted.{Wanted}
use Rattle.bind_walk.specs.declared.lines.Wanted.TheVariants as wants
use Rattle.bind_walk.specs.declared.lines.End.{End}
use Rattle.bind_walk.specs.declared.lines.End.TheVariants as ends
use Rattle.bind_walk.specs.declared.lines.FoundRow.{FoundRow}
use Rattle.bind_walk.specs.declared.lines.FoundLine.{FoundLine}

abbrev pub wanted_constant : Check → Option Wanted
wanted_constant checks.Nothing = None
wanted_constant checks.Scheme = None
wanted_constant checks.Format = None
wanted_constant (checks.Indicator term) = Some wants.Indicator

abbrev pub wanted_by : Content → Check → Option Wanted
wanted_by (contents.Term term) check = Some wants.Term
wanted_by (contents.Constant text) check = wanted_constant check

-- why the row is read, if it is
abbrev pub wanted : Row → Option Wanted
wanted row = wanted_by row.content row.check

abbrev pub end_at : FoundLeaf → End
end_at founds.Element = ends.Element
end_at (founds.Attribute name) = ends.Attribute

abbrev pub attribute_at : FoundLeaf → Option ℕ
attribute_at founds.Element = None
attribute_at (founds.Attribute name) = name

abbrev pub wanted_row : Document → ℕ → Row → Wanted → FoundRow
wanted_row d k row w = record {
  number = k + 1;
  wanted = w;
  end = end_at (found_leaf d row.leaf);
  attribute = attribute_at (found_leaf d row.leaf);
  outer = row.outer;
  inner = row.inner;
}

abbrev pub row_for : Document → ℕ → Row → Option Wanted → List FoundRow
row_for d k row None = []
row_for d k row (Some w) = wanted_row d k row w ∷ []

-- the row of that number, from 0, if it is read
abbrev pub found_row : Document → ℕ → Row → List FoundRow
found_row d k row = row_for d k row (wanted row)

abbrev pub row_at : Document → ℕ → Option Row → List FoundRow
row_at d k None = []
row_at d k (Some row) = found_row d k row

abbrev pub found_at : Document → List Row → ℕ → List FoundRow
found_at d rows k = row_at d k (slice_get rows k)

-- ---- places: the numbers of lines at which or inside which a row ends that nobody added

abbrev pub is_built_one : Option Row → Bool
is_built_one None = false
is_built_one (Some row) = is_built row

-- The row of that number, from 0, is one that nobody added.
abbrev pub is_built_at : List Row → ℕ → Bool
is_built_at rows k = is_built_one (slice_get rows k)

abbrev pub has_built : List Row → Line → Bool
has_built rows line = list_any (is_built_at rows) line.rows

abbrev pub place_if : Bool → ℕ → Option ℕ
place_if true n = Some n
place_if false n = None

-- the place of a line with those behind it
abbrev pub line_place : List Row → Line → List Line → Option ℕ
line_place rows line behind = place_if (has_built rows line || list_any (has_built rows) (take line.size behind)) line.step.number

abbrev pub found_line : Document → List Row → Line → Option ℕ → FoundLine
found_line d rows line place = record {
  name = found_element d line.step.name;
  guards = map (found_guard d) line.step.guards;
  group = line.step.group;
  rows = flat_map (found_at d rows) line.rows;
  place = place;
  size = line.size;
}

abbrev pub found_lines : Document → List Row → List Line → List FoundLine
found_lines d rows [] = []
found_lines d rows (line ∷ lines) = found_line d rows line (line_place rows line lines) ∷ found_lines d rows lines

-- ---- the same of a tree of lines

abbrev pub found_cell : Document → Cell → List FoundRow
found_cell d cell = found_row d cell.number cell.row

abbrev pub cell_built : Cell → Bool
cell_built cell = is_built cell.row

abbrev pub some_built : Plan → Bool
some_built nothing = false
some_built (a_line s cells inside rest) = list_any cell_built cells || (some_built inside || some_built rest)

abbrev pub own_place : Step → List Cell → Plan → Option ℕ
own_place s cells inside = place_if (list_any cell_built cells || some_built inside) s.number

abbrev pub lined : Document → Plan → List FoundLine
lined d nothing = []
lined d (a_line s cells inside rest) = record {
  name = found_element d s.name;
  guards = map (found_guard d) s.guards;
  group = s.group;
  rows = flat_map (found_cell d) cells;
  place = own_place s cells inside;
  size = length (lined d inside);
} ∷ (lined d inside ++ lined d rest)
