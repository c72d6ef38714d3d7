-- The elements that carry the groups of rows.
use Rattle.std.specs.Prelude.{◌≡◌, ℕ, ◌+◌, Option, Some, ◌⊎◌, List, take}
use Rattle.term_table.specs.declared.groups.Group.{Group}
use Rattle.bind_rows.specs.declared.rows.Row.{Row}
use Rattle.bind_rows.specs.declared.rows.Step.{Step}
use Rattle.bind_table.specs.WellFormed.{depth_of}

-- The group is one of those of the row's context.
abbrev pub HasGroup : Group → Row → Type 0
HasGroup group row = (row.outer ≡ Some group) ⊎ (row.inner ≡ Some group)

-- the path of a row as far as the first element that carries the group
abbrev pub front_of : Group → Row → List Step
front_of group row = take (depth_of group row.path + 1) row.path
