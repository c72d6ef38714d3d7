-- The paths of lines: the steps of a line and of those around it, from the root on.
use Rattle.std.specs.Prelude.{List, [], ◌∷◌, ◌++◌}
use Rattle.bind_rows.specs.declared.rows.Step.{Step}
use Rattle.bind_table.specs.Lines.{Plan, nothing, a_line}

-- of the lines in preorder, below lines of these steps
abbrev pub line_paths : List Step → Plan → List (List Step)
line_paths above nothing = []
line_paths above (a_line s cells inside rest) = (above ++ s ∷ []) ∷ (line_paths (above ++ s ∷ []) inside ++ line_paths above rest)
