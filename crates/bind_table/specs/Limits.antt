-- Which rows a table takes, and which terms of a user.
use Rattle.std.specs.Prelude.{◌<◌, ◌+◌, ◌^◌, List, [], ◌∷◌, ◌++◌, All, length}
use Rattle.bind_rows.specs.declared.rows.Row.{Row}
use Rattle.bind_rows.specs.declared.rows.Step.{Step}
use Rattle.bind_rows.specs.declared.tables.DocumentType.{DocumentType}
use Rattle.bind_rows.specs.Added.{built}
use Rattle.bind_table.specs.Extending.{greatest, names_for, added_row}
use Rattle.bind_table.specs.declared.extending.AddedTerm.{AddedTerm}

-- The row's path has an element.
abbrev pub HasSteps : Row → Type 0
HasSteps row = 0 < length row.path

-- The numbers of its elements are below 2^31.
abbrev pub HasSmallNumbers : Row → Type 0
HasSmallNumbers row = All (λ (s : Step). s.number < 2 ^ 31) row.path

-- Some name leads to the term, and numbers for all of them are left below 2^31.
abbrev pub HasRoom : List Row → AddedTerm → Type 0
HasRoom rows term = (0 < length (names_for (built rows) term)) × (greatest rows + length (names_for (built rows) term) < 2 ^ 31)

-- Each term has room behind those before it, and so has its row.
abbrev pub HasRooms : DocumentType → List Row → List AddedTerm → Type 0
HasRooms table rows [] = Unit {0}
HasRooms table rows (term ∷ others) = (length rows + 1 < 2 ^ 31) × (HasRoom rows term × HasRooms table (rows ++ added_row table rows term ∷ []) others)
