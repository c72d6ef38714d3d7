use Rattle.std.proofs.Common.{◌≡◌, ◌≤◌, ◌+◌, [], ◌++◌, take, drop}
use Rattle.bind_table.specs.Extending.{path_of, greatest}
use Rattle.bind_table.proofs.extending.path_of.Given as goal

abbrev pub invariant-names : goal.invariant-names
invariant-names l = record {
  whole : l.path ++ path_of l.rows l.top (take l.k l.names) (drop l.k l.names) ≡ path_of l.rows (greatest l.rows) [] l.names;
  low : l.top ≤ greatest l.rows + l.k;
}
