-- How far two paths go through elements of one name, and what they do there.
use Rattle.std.specs.Prelude.{ℕ, ◌+◌, nat_lt, Bool, true, false, ◌&&◌, ◌||◌, List, [], ◌∷◌, length, Option, is_none}
use Rattle.term_table.specs.declared.groups.Group.{Group}
use Rattle.bind_rows.specs.declared.rows.Step.{Step}
use Rattle.bind_rows.specs.Same.{same_name, same_step, same_or_none, choose}

-- Both go through the same elements until they go through two of different names, and neither ends before that.
abbrev pub part_by_name : List Step → List Step → Bool
part_by_name [] other = false
part_by_name (s ∷ path) [] = false
part_by_name (s ∷ path) (t ∷ other) = choose (same_name s.name t.name) (λ _. choose (same_step s t) (λ _. part_by_name path other) (λ _. false)) (λ _. true)

-- how many elements have one name in both
abbrev pub shared : List Step → List Step → ℕ
shared [] other = 0
shared (s ∷ path) [] = 0
shared (s ∷ path) (t ∷ other) = choose (same_name s.name t.name) (λ _. 1 + shared path other) (λ _. 0)

-- The element carries this group or none.
abbrev pub carries_at_most : Option Group → Step → Bool
carries_at_most group t = is_none t.group || same_or_none t.group group

-- Of the elements of the other path that have the path's names, each carries this group or none.
abbrev pub passes_no_group : Option Group → List Step → List Step → Bool
passes_no_group group [] other = true
passes_no_group group (s ∷ path) [] = true
passes_no_group group (s ∷ path) (t ∷ other) =
    choose (same_name s.name t.name) (λ _. choose (carries_at_most group t) (λ _. passes_no_group group path other) (λ _. false)) (λ _. true)

-- The names of the path are the first ones of the other.
abbrev pub is_front : List Step → List Step → Bool
is_front [] other = true
is_front (s ∷ path) [] = false
is_front (s ∷ path) (t ∷ other) = choose (same_name s.name t.name) (λ _. is_front path other) (λ _. false)

abbrev pub is_proper_front : List Step → List Step → Bool
is_proper_front path other = is_front path other && nat_lt (length path) (length other)
