use Rattle.std.proofs.Common.{◌≡◌, drop}
use Rattle.std.specs.Prelude.{slice_get}
use Rattle.std.specs.List.{list_any}
use Rattle.bind_write.specs.Holding.{holds_at}
use Rattle.bind_write.proofs.holding.cells_hold.Given as goal

abbrev pub invariant-rows : goal.invariant-rows
invariant-rows l =
    list_any (λ n. holds_at l.source.entries.now l.source.context (slice_get l.source.rows.now n)) (drop l.number-index l.numbers)
    ≡ list_any (λ n. holds_at l.source.entries.now l.source.context (slice_get l.source.rows.now n)) l.numbers
