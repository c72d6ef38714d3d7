-- Rows that a user's table adds, beside the rows of a table.
use Rattle.std.specs.Prelude.{ℕ, nat_lt, nat_le, Bool, true, false, ◌&&◌, List, [], ◌∷◌}
use Rattle.std.specs.List.{list_all}
use Rattle.bind_rows.specs.declared.rows.Step.{Step}
use Rattle.bind_rows.specs.Same.{same_step, choose}
use Rattle.bind_table.specs.Lines.{Plan, nothing, a_line}
use Rattle.binding_laws.specs.Apart.{is_called, is_unguarded}

-- Both paths go through the same elements until they go through two of different names, and neither ends before that.
abbrev pub part : List Step → List Step → Bool
part [] other = false
part (s ∷ path) [] = false
part (s ∷ path) (t ∷ other) = elim (is_called s.name t.name) [ true ↦ same_step s t && part path other | false ↦ true ]

abbrev pub are_unguarded : List Step → Bool
are_unguarded [] = true
are_unguarded (s ∷ path) = is_unguarded s.guards && are_unguarded path

-- The path is that of a line.
abbrev pub finds : List Step → Plan → Bool
finds path nothing = false
finds [] (a_line t cells inside rest) = false
finds (s ∷ path) (a_line t cells inside rest) = elim (same_step s t) [
  | true ↦ elim path [ [] ↦ true | (u ∷ further) ↦ finds (u ∷ further) inside ]
  | false ↦ finds (s ∷ path) rest
]

-- The path leaves these lines, by the name of an element that is none of those beside it.
abbrev pub leaves_by_name : List Step → Plan → Bool
leaves_by_name [] plan = false
leaves_by_name (s ∷ path) nothing = true
leaves_by_name (s ∷ path) (a_line t cells inside rest) =
    elim (is_called s.name t.name) [ true ↦ same_step s t && leaves_by_name path inside | false ↦ true ] && leaves_by_name (s ∷ path) rest

-- ---- the elements that a path adds to lines, and their numbers

-- rising numbers above one
abbrev pub are_new : ℕ → List Step → Bool
are_new top [] = true
are_new top (s ∷ path) = nat_lt top s.number && are_new s.number path

-- the elements of the path that no line has yet, by the numbers of the lines
abbrev pub new_steps : List Step → Plan → List Step
new_steps [] plan = []
new_steps (s ∷ path) nothing = s ∷ path
new_steps (s ∷ path) (a_line t cells inside rest) =
    choose (same_step s t) (λ _. new_steps path inside)
    (λ _. choose (nat_lt s.number t.number) (λ _. s ∷ path) (λ _. new_steps (s ∷ path) rest))

abbrev pub all_below : ℕ → List ℕ → Bool
all_below top ns = list_all (λ n. nat_le n top) ns
