use Rattle.std.proofs.Common.{◌≡◌, take, drop, []}
use Rattle.std.specs.List.{list_all}
use Rattle.bind_table.specs.WellFormed.{carriers, same_path}
use Rattle.bind_table.proofs.judging.are_all.Given as goal

abbrev pub invariant-steps : goal.invariant-steps
invariant-steps l = list_all (same_path l.first) (carriers l.group (take l.depth l.path) (drop l.depth l.path)) ≡ list_all (same_path l.first)
    (carriers l.group [] l.path)
