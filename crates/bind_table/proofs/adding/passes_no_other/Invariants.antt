use Rattle.std.proofs.Common.{◌≡◌, drop}
use Rattle.std.specs.List.{list_all}
use Rattle.bind_rows.specs.Added.{built}
use Rattle.bind_rows.specs.declared.rows.Row.{Row}
use Rattle.bind_table.specs.Crossings.{passes_no_group}
use Rattle.bind_table.proofs.adding.passes_no_other.Given as goal

abbrev pub invariant-rows : goal.invariant-rows
invariant-rows l = list_all (λ (r : Row). passes_no_group l.row.outer l.row.path r.path) (built (drop l.other-index l.rows)) ≡ list_all
    (λ (r : Row). passes_no_group l.row.outer l.row.path r.path) (built l.rows)
