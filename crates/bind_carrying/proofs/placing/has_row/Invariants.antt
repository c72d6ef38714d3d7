use Rattle.std.proofs.Common.{◌≡◌, drop}
use Rattle.std.specs.List.{list_any}
use Rattle.bind_carrying.specs.Carrying.{is_row_of}
use Rattle.bind_carrying.proofs.placing.has_row.Given as goal

abbrev pub invariant-rows : goal.invariant-rows
invariant-rows l = list_any (is_row_of l.e) (drop l.row-index l.rows) ≡ list_any (is_row_of l.e) l.rows
