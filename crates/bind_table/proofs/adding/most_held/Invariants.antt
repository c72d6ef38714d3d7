use Rattle.std.proofs.Common.{◌≡◌, drop, map, filter}
use Rattle.std.specs.Prelude.{fold, max}
use Rattle.bind_rows.specs.Added.{built}
use Rattle.bind_rows.specs.declared.rows.Row.{Row}
use Rattle.bind_table.specs.Crossings.{shared}
use Rattle.bind_rows.specs.Contents.{has_term}
use Rattle.bind_table.specs.WellFormed.{most_shared}
use Rattle.bind_table.proofs.adding.most_held.Given as goal

abbrev pub invariant-rows : goal.invariant-rows
invariant-rows l = fold max l.most (map (λ (row : Row). shared l.path row.path) (filter has_term (built (drop l.row-index l.rows)))) ≡ most_shared l.path
    (filter has_term (built l.rows))
