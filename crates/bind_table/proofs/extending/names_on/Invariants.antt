use Rattle.std.proofs.Common.{◌≡◌, ◌++◌, map, drop}
use Rattle.bind_rows.specs.declared.rows.Step.{Step}
use Rattle.bind_table.proofs.extending.names_on.Given as goal

abbrev pub invariant-steps : goal.invariant-steps
invariant-steps l = l.names ++ map (λ (s : Step). s.name) (drop l.step-index l.path) ≡ map (λ (s : Step). s.name) l.path
