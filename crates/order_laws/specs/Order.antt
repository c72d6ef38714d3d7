-- Tables in order: among lines that stand beside one another those of one element name stand together, and the places that the built-in rows
-- have for them rise. All of this computes from the rows.
use Rattle.std.specs.Prelude.{ℕ, nat_lt, Bool, true, false, not, ◌&&◌, List, [], ◌∷◌, flat_map, map, Option, Some, None}
use Rattle.bind_rows.specs.declared.names.ElementName.{ElementName}
use Rattle.bind_rows.specs.declared.rows.Row.{Row}
use Rattle.bind_rows.specs.declared.rows.Step.{Step}
use Rattle.bind_rows.specs.Added.{built}
use Rattle.bind_rows.specs.Same.{same_name}
use Rattle.bind_table.specs.Lines.{Plan, nothing, a_line, plan_of}
use Rattle.bind_meaning.specs.Losses.{lesser}

-- ---- paths that begin with an element of a name

-- the number of the first element, where it has the name
abbrev pub number_at : ElementName → List Step → Option ℕ
number_at name [] = None
number_at name (s ∷ path) = elim (same_name s.name name) [ true ↦ Some s.number | false ↦ None ]

-- the least of these numbers
abbrev pub least_number : ElementName → List (List Step) → Option ℕ
least_number name [] = None
least_number name (path ∷ paths) = lesser (number_at name path) (least_number name paths)

-- what is behind the first element, where it has the name
abbrev pub behind_name : ElementName → List Step → List (List Step)
behind_name name [] = []
behind_name name (s ∷ path) = elim (same_name s.name name) [ true ↦ path ∷ [] | false ↦ [] ]

abbrev pub all_behind : ElementName → List (List Step) → List (List Step)
all_behind name paths = flat_map (behind_name name) paths

-- ---- the order of lines

abbrev pub is_less : Option ℕ → ℕ → Bool
is_less None bound = false
is_less (Some place) bound = nat_lt place bound

abbrev pub raised : ℕ → Option ℕ → ℕ
raised bound None = bound
raised bound (Some place) = place

-- The places that the paths have for the elements of these lines rise, from the bound on, and so do those inside each line. Where the
-- paths have no place for an element, it may stand anywhere.
abbrev pub rise : List (List Step) → ℕ → Plan → Bool
rise paths bound nothing = true
rise paths bound (a_line t cells inside rest) =
    not (is_less (least_number t.name paths) bound)
    && (rise (all_behind t.name paths) 0 inside && rise paths (raised bound (least_number t.name paths)) rest)

abbrev pub paths_of : List Row → List (List Step)
paths_of rows = map (λ (row : Row). row.path) rows

abbrev pub is_in_order : List Row → Bool
is_in_order rows = rise (paths_of (built rows)) 0 (plan_of rows)
