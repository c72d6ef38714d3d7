-- In a well-formed table every row has a path: it begins with a root.
use Rattle.std.proofs.Common.{◌≡◌, ◌<◌, true, List, [], ◌∷◌, length, All, Ok, arith}
use Rattle.std.proofs.lemmas.List.Elements.{All-weaker}
use Rattle.bind_rows.specs.declared.rows.Row.{Row}
use Rattle.bind_rows.specs.declared.rows.Step.{Step}
use Rattle.bind_table.specs.Limits.{HasSteps}
use Rattle.bind_table.specs.Sound.{IsSoundRow}
use Rattle.bind_table.specs.WellFormed.{has_root, is_rooted, first_fault}
use Rattle.bind_table.proofs.SoundLemmas.{sound-rows}

root-steps : (path first : List Step) → has_root path first ≡ true → 0 < length path
root-steps [] first e = cc
root-steps (s ∷ path) first e = omega arith

rooted-steps : (rows : List Row) (row : Row) → is_rooted rows row ≡ true → HasSteps row
rooted-steps [] row e = cc
rooted-steps (first ∷ rows) row e = root-steps row.path first.path e

pub rows-have-steps : (rows : List Row) → first_fault rows ≡ Ok tt → All HasSteps rows
rows-have-steps rows e = All-weaker (IsSoundRow rows) HasSteps (λ row s. rooted-steps rows row s.rooted) rows (sound-rows rows e)
