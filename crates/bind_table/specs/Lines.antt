-- The rows of a table as a tree: one line for each element of the table, with the rows that end at it or at an
-- attribute of it, the lines inside it, and the lines beside it. Rows share a line where they share the element and all
-- that are above it.
use Rattle.std.specs.Prelude.{ℕ, ◌+◌, nat_lt, List, [], ◌∷◌, ◌++◌, length, map}
use Rattle.bind_rows.specs.declared.rows.Row.{Row}
use Rattle.bind_rows.specs.declared.rows.Step.{Step}
use Rattle.bind_rows.specs.Same.{same_step, choose}
use Rattle.bind_table.specs.declared.lines.Line.{Line}

-- a row with its number, from 0
pub record Cell : Type 0 where
  pub number : ℕ
  pub row : Row

pub data Plan : Type 0 where
  nothing : Plan
  a_line : Step → List Cell → Plan → Plan → Plan

-- The line of a step among lines that stand beside one another, by their numbers, with its cells and its inside
-- changed. Where there is none, a new one stands before the first of a greater number.
abbrev pub into : Step → (List Cell → List Cell) → (Plan → Plan) → Plan → Plan
into s own deeper nothing = a_line s (own []) (deeper nothing) nothing
into s own deeper (a_line t cells inside rest) =
    choose (same_step s t) (λ _. a_line t (own cells) (deeper inside) rest)
    (λ _. choose (nat_lt s.number t.number) (λ _. a_line s (own []) (deeper nothing) (a_line t cells inside rest))
    (λ _. a_line t cells inside (into s own deeper rest)))

-- the cells of a line, and one more where no step is left
abbrev pub own_cells : List Step → Cell → List Cell → List Cell
own_cells [] cell cells = cells ++ cell ∷ []
own_cells (s ∷ steps) cell cells = cells

-- the lines with a row that has these steps. A row without steps is in no line
abbrev pub add : List Step → Cell → Plan → Plan
add [] cell plan = plan
add (s ∷ steps) cell plan = into s (own_cells steps cell) (add steps cell) plan

-- the lines with further rows, the first of them with the number
abbrev pub grown : Plan → ℕ → List Row → Plan
grown plan n [] = plan
grown plan n (row ∷ rows) = grown (add row.path (record { number = n; row = row }) plan) (n + 1) rows

-- the lines of a table
abbrev pub plan_of : List Row → Plan
plan_of rows = grown nothing 0 rows

abbrev pub numbers : List Cell → List ℕ
numbers cells = map (λ (c : Cell). c.number) cells

-- the lines in preorder, each with the size of its inside
abbrev pub flat : Plan → List Line
flat nothing = []
flat (a_line s cells inside rest) = record { step = s; rows = numbers cells; size = length (flat inside) } ∷ (flat inside ++ flat rest)
