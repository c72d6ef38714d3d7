-- The tables of the page as plain data, and the style sheet. A text is its bytes.
use Rattle.std.specs.Prelude.{ℕ, List, map, Option}
use Rattle.std.specs.Borrow.{Bor}
use Rattle.term_table.specs.declared.groups.Group.{Group}
use Rattle.term_table.specs.declared.terms.Term.{Term}
use Rattle.page_tables.specs.declared.forms.Meanings.{Meanings}
use Rattle.page_tables.specs.declared.forms.Form.{Form}
use Rattle.page_tables.specs.declared.forms.Align.{Align}
use Rattle.page_tables.specs.declared.forms.Holds.{Holds}
use Rattle.page_tables.specs.declared.layouts.TheConstants.{DIFFERING, FACTS, PARTIES, REST, TOTALS}
use Rattle.page_tables.specs.declared.meanings.TheConstants.{CATEGORIES, KINDS, MEANS, OTHER_KIND, POINTS, SAVED_TYPES, UNITS}
use Rattle.page_tables.specs.declared.style.TheConstants.{STYLE}
use Rattle.page_tables.specs.declared.tables.TheConstants.{EXTRAS, LINES, VAT}

-- a word beside a code
abbrev pub Word : Type 0
Word = List ℕ × List ℕ

-- words, the term behind them, and of which codes a meaning follows its value
abbrev pub Part : Type 0
Part = List ℕ × Term × Meanings

-- the group in each of whose occurrences it stands, its form, its label or class, its parts
abbrev pub Item : Type 0
Item = Option Group × Form × List ℕ × List Part

-- a column's alignment and heading
abbrev pub Column : Type 0
Column = Align × List ℕ

-- a cell's alignment, what it holds, and its words, parts or layout
abbrev pub Cell : Type 0
Cell = Align × Holds × List ℕ × List Part × List Item

-- the row of a table for each occurrence of a group
abbrev pub Row : Type 0
Row = Group × List Cell

-- a section's class, heading and layout
abbrev pub Section : Type 0
Section = List ℕ × List ℕ × List Item

-- a section with a table: its class and heading, the columns and the rows
abbrev pub Table : Type 0
Table = List ℕ × List ℕ × List Column × List Row

-- ---- as the sources have them

abbrev pub Text : Type 0
Text = record { now : List ℕ }

abbrev pub Listed : Type 0 → Type 0
Listed X = record { now : List X }

abbrev pub word_of : Text × Text → Word
word_of it = (it.0.now, it.1.now)

abbrev pub part_of : Text × Term × Meanings → Part
part_of it = (it.0.now, it.1, it.2)

abbrev pub item_of : Option Group × Form × Text × Listed (Text × Term × Meanings) → Item
item_of it = (it.0, it.1, it.2.now, map part_of it.3.now)

abbrev pub column_of : Align × Text → Column
column_of it = (it.0, it.1.now)

abbrev pub cell_of : Align × Holds × Text × Listed (Text × Term × Meanings) × Listed (Option Group × Form × Text × Listed (Text × Term × Meanings)) → Cell
cell_of it = (it.0, it.1, it.2.now, map part_of it.3.now, map item_of it.4.now)

abbrev pub row_of : Group × Listed (Align × Holds × Text × Listed (Text × Term × Meanings) × Listed (Option Group × Form × Text × Listed (Text × Term ×
    Meanings))) → Row
row_of it = (it.0, map cell_of it.1.now)

abbrev pub section_of : Text × Text × Listed (Option Group × Form × Text × Listed (Text × Term × Meanings)) → Section
section_of it = (it.0.now, it.1.now, map item_of it.2.now)

abbrev pub table_of : Text × Text × Listed (Align × Text) × Listed (Group × Listed (Align × Holds × Text × Listed (Text × Term × Meanings) × Listed (Option
    Group × Form × Text × Listed (Text × Term × Meanings)))) → Table
table_of it = (it.0.now, it.1.now, map column_of it.2.now, map row_of it.3.now)

-- ---- as functions are lent them

abbrev pub word_lent : Bor (List ℕ) × Bor (List ℕ) → Word
word_lent it = (it.0.now, it.1.now)

abbrev pub part_lent : Bor (List ℕ) × Term × Meanings → Part
part_lent it = (it.0.now, it.1, it.2)

abbrev pub item_lent : Option Group × Form × Bor (List ℕ) × Bor (List (Bor (List ℕ) × Term × Meanings)) → Item
item_lent it = (it.0, it.1, it.2.now, map part_lent it.3.now)

abbrev pub column_lent : Align × Bor (List ℕ) → Column
column_lent it = (it.0, it.1.now)

abbrev pub cell_lent : Align × Holds × Bor (List ℕ) × Bor (List (Bor (List ℕ) × Term × Meanings)) × Bor (List (Option Group × Form × Bor (List ℕ) × Bor (List
    (Bor (List ℕ) × Term × Meanings)))) → Cell
cell_lent it = (it.0, it.1, it.2.now, map part_lent it.3.now, map item_lent it.4.now)

abbrev pub row_lent : Group × Bor (List (Align × Holds × Bor (List ℕ) × Bor (List (Bor (List ℕ) × Term × Meanings)) × Bor (List (Option Group × Form × Bor
    (List ℕ) × Bor (List (Bor (List ℕ) × Term × Meanings)))))) → Row
row_lent it = (it.0, map cell_lent it.1.now)

abbrev pub section_lent : Bor (List ℕ) × Bor (List ℕ) × Bor (List (Option Group × Form × Bor (List ℕ) × Bor (List (Bor (List ℕ) × Term × Meanings)))) → Section
section_lent it = (it.0.now, it.1.now, map item_lent it.2.now)

abbrev pub table_lent : Bor (List ℕ) × Bor (List ℕ) × Bor (List (Align × Bor (List ℕ))) × Bor (List (Group × Bor (List (Align × Holds × Bor (List ℕ) × Bor
    (List (Bor (List ℕ) × Term × Meanings)) × Bor (List (Option Group × Form × Bor (List ℕ) × Bor (List (Bor (List ℕ) × Term × Meanings)))))))) → Table
table_lent it = (it.0.now, it.1.now, map column_lent it.2.now, map row_lent it.3.now)

abbrev pub text_lent : Bor (List ℕ) → List ℕ
text_lent it = it.now

-- ---- the tables

abbrev pub facts : Section
facts = section_of FACTS

abbrev pub parties : List Section
parties = map section_of PARTIES

abbrev pub lines : Table
lines = table_of LINES

abbrev pub extras : Table
extras = table_of EXTRAS

abbrev pub vat : Table
vat = table_of VAT

abbrev pub totals : Section
totals = section_of TOTALS

abbrev pub differing : Word
differing = word_of DIFFERING

abbrev pub rest : List Section
rest = map section_of REST

abbrev pub categories : List Word
categories = map word_of CATEGORIES

abbrev pub means : List Word
means = map word_of MEANS

abbrev pub units : List Word
units = map word_of UNITS

abbrev pub points : List Word
points = map word_of POINTS

abbrev pub kinds : List Word
kinds = map word_of KINDS

abbrev pub other_kind : List ℕ
other_kind = OTHER_KIND.now

abbrev pub saved_types : List (List ℕ)
saved_types = map (λ (it : Text). it.now) SAVED_TYPES

-- the style sheet
unfoldable pub style : List ℕ
style = STYLE.now
