use Rattle.std.proofs.Common.{◌≡◌, ◌+◌, ◌++◌, drop, length}
use Rattle.bind_table.proofs.extending.push_copies.Given as goal

abbrev pub invariant-rows : goal.invariant-rows
invariant-rows l = record {
  whole : l.binding ++ drop l.row-index l.rows ≡ l.initial.binding ++ l.rows;
  long : length l.binding ≡ length l.initial.binding + l.row-index;
}
