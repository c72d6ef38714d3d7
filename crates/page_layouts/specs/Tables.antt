-- Tables: a row for each occurrence of some groups.
use Rattle.std.specs.Prelude.{ℕ, List, [], ◌∷◌, ◌++◌, flat_map, codes}
use Rattle.page_tables.specs.declared.forms.Align.{Align}
use Rattle.page_tables.specs.declared.forms.Align.TheVariants as aligns
use Rattle.page_tables.specs.declared.forms.Holds.{Holds}
use Rattle.page_tables.specs.declared.forms.Holds.TheVariants as holds
use Rattle.page_tables.specs.Tables.{Part, Item, Column, Cell, Row}
use Rattle.page_values.specs.Places.{Place, numbers_to, count_in, occurrence}
use Rattle.page_layouts.specs.Layouts.{layout}
use Rattle.page_values.specs.Parts.{parts_text}

-- ---- the head

abbrev pub heading_start : Align → List ℕ
heading_start aligns.Texts = codes "<th>"
heading_start aligns.Numbers = codes "<th class=\"n\">"

abbrev pub column_text : Column → List ℕ
column_text column = heading_start column.0 ++ (column.1 ++ codes "</th>\n")

-- how a table begins, which has columns
abbrev pub table_start : List Column → List ℕ
table_start [] = []
table_start (column ∷ columns) =
    codes "<table>\n<thead>\n<tr>\n" ++ (flat_map column_text (column ∷ columns) ++ codes "</tr>\n</thead>\n<tbody>\n")

-- ---- rows

abbrev pub cell_start : Align → List ℕ
cell_start aligns.Texts = codes "<td>"
cell_start aligns.Numbers = codes "<td class=\"n\">"

-- a layout in a cell, on a line of its own
abbrev pub inner_layout : Place → List Item → List ℕ
inner_layout place items = 0xA ∷ layout place items

abbrev pub held : Place → Holds → List ℕ → List Part → List Item → List ℕ
held place holds.Words words parts items = words
held place holds.Parts words parts items = parts_text place parts
held place holds.Layout words parts items = inner_layout place items

abbrev pub held_in : Place → Cell → List ℕ
held_in place cell = held place cell.1 cell.2 cell.3 cell.4

abbrev pub cell_text : Place → Cell → List ℕ
cell_text place cell = cell_start cell.0 ++ (held_in place cell ++ codes "</td>\n")

abbrev pub table_row : Place → List Cell → List ℕ
table_row place cells = codes "<tr>\n" ++ (flat_map (cell_text place) cells ++ codes "</tr>\n")

-- the rows of a group
abbrev pub rows_of : Place → Row → List ℕ
rows_of place row = flat_map (λ k. table_row (occurrence place row.0 k) row.1) (numbers_to (count_in place row.0))

abbrev pub rows : Place → List Row → List ℕ
rows place groups = flat_map (rows_of place) groups
