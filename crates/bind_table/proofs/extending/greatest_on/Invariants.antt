use Rattle.std.proofs.Common.{◌≡◌, drop, map}
use Rattle.std.specs.Prelude.{fold, max}
use Rattle.bind_rows.specs.declared.rows.Step.{Step}
use Rattle.bind_table.specs.Extending.{greatest_on}
use Rattle.bind_table.proofs.extending.greatest_on.Given as goal

abbrev pub invariant-steps : goal.invariant-steps
invariant-steps l = fold max l.greatest (map (λ (s : Step). s.number) (drop l.step-index l.row.path)) ≡ greatest_on l.most l.row
