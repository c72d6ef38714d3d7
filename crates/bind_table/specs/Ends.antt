-- Where the rows of a table end in its tree of lines.
use Rattle.std.specs.Prelude.{ℕ, ◌+◌, List, [], ◌∷◌, ◌++◌, map}
use Rattle.bind_rows.specs.declared.rows.Row.{Row}
use Rattle.bind_rows.specs.declared.rows.Step.{Step}
use Rattle.bind_table.specs.Lines.{Cell, Plan, nothing, a_line}

-- a row at a line that has these steps, its own and those of the lines around it
pub record End : Type 0 where
  pub path : List Step
  pub cell : Cell

abbrev pub end_at : List Step → Cell → End
end_at path cell = record { path = path; cell = cell }

-- the rows at the lines, below lines of these steps
abbrev pub ends : List Step → Plan → List End
ends above nothing = []
ends above (a_line s cells inside rest) = map (end_at (above ++ s ∷ [])) cells ++ (ends (above ++ s ∷ []) inside ++ ends above rest)

-- each row at its own path, the first with the number
abbrev pub own_ends : ℕ → List Row → List End
own_ends n [] = []
own_ends n (row ∷ rows) = end_at row.path (record { number = n; row = row }) ∷ own_ends (n + 1) rows
