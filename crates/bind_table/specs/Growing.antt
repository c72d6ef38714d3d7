-- What private functions do with lines. No public clause cites it.
use Rattle.std.specs.Prelude.{◌≡◌, ℕ, ◌+◌, nat_lt, Bool, false, ◌||◌, Option, Some, None, IsTrue, List, [], ◌∷◌, ◌++◌, length}
use Rattle.bind_rows.specs.declared.rows.Step.{Step}
use Rattle.bind_rows.specs.Same.{same_step}
use Rattle.bind_table.specs.declared.lines.Line.{Line}
use Rattle.bind_table.specs.Lines.{Plan, nothing, a_line, Cell, flat, add, into}

-- one line inside another, and the row at the innermost
abbrev pub last_row : List Step → ℕ → List ℕ
last_row [] row = row ∷ []
last_row (s ∷ steps) row = []

abbrev pub chain : List Step → ℕ → List Line
chain [] row = []
chain (s ∷ steps) row = record { step = s; rows = last_row steps row; size = length steps } ∷ chain steps row

-- lines before other lines at one level
abbrev pub beside : Plan → Plan → Plan
beside nothing others = others
beside (a_line s cells inside rest) others = a_line s cells inside (beside rest others)

-- The lines from one place to another are those of a plan.
pub record IsWithin (lines : List Line) (from to : ℕ) (front back : List Line) (plan : Plan) : Type 0 where
  pub is : lines ≡ front ++ (flat plan ++ back)
  pub begins : length front ≡ from
  pub ends : from + length (flat plan) ≡ to

pub record AreLinesWithin (lines : List Line) (from to : ℕ) : Type 0 where
  pub front : List Line
  pub back : List Line
  pub plan : Plan
  pub within : IsWithin lines from to front back plan

pub record AreLines (lines : List Line) : Type 0 where
  pub plan : Plan
  pub is : lines ≡ flat plan

-- The line of the step can't stand behind the first of these.
abbrev pub Stops : Step → Plan → Type 0
Stops s nothing = Unit {0}
Stops s (a_line t cells inside rest) = IsTrue (same_step s t || nat_lt s.number t.number)

-- The line, if there is one, is the step's.
abbrev pub is_line_of : Step → Option Line → Bool
is_line_of s None = false
is_line_of s (Some x) = same_step s x.step

-- Of the lines, those before a place aren't where the step's line is or goes.
pub record Passes (s : Step) (plan : Plan) (k : ℕ) : Type 0 where
  pub passed : Plan
  pub rest : Plan
  pub whole : plan ≡ beside passed rest
  pub far : length (flat passed) ≡ k
  pub stays : (own : List Cell → List Cell) (deeper : Plan → Plan) → into s own deeper plan ≡ beside passed (into s own deeper rest)

pub record Finds (s : Step) (plan : Plan) (k : ℕ) : Type 0 where
  pub passes : Passes s plan k
  pub stops : Stops s passes.rest

abbrev pub Passing : List Line → ℕ → ℕ → Step → ℕ → Type 0
Passing lines from to s at = (front back : List Line) (plan : Plan) → IsWithin lines from to front back plan → (k : ℕ) × (from + k ≡ at) × Passes s plan k

abbrev pub Seeks : List Line → ℕ → ℕ → Step → ℕ → Type 0
Seeks lines from to s at = (front back : List Line) (plan : Plan) → IsWithin lines from to front back plan → (k : ℕ) × (from + k ≡ at) × Finds s plan k

-- The lines from one place to another got a row, and are as many more.
pub record Adds (path : List Step) (cell : Cell) (more : ℕ) (front back : List Line) (plan : Plan) (lines : List Line) : Type 0 where
  pub is : lines ≡ front ++ (flat (add path cell plan) ++ back)
  pub more_lines : length (flat (add path cell plan)) ≡ length (flat plan) + more

abbrev pub AddsWithin : List Step → ℕ → ℕ → ℕ → ℕ → List Line → List Line → Type 0
AddsWithin path row from to more old new =
    (front back : List Line) (plan : Plan) (cell : Cell) → IsWithin old from to front back plan → cell.number ≡ row → Adds path cell more front back plan new

abbrev pub AddsRow : List Step → ℕ → List Line → List Line → Type 0
AddsRow path row old new = (plan : Plan) (cell : Cell) → old ≡ flat plan → cell.number ≡ row → new ≡ flat (add path cell plan)
