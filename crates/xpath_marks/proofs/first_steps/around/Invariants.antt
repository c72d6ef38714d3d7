use Rattle.std.proofs.Common.{◌≡◌, ◌++◌, drop}
use Rattle.std.specs.List.{flat_map}
use Rattle.xpath_marks.specs.FirstSteps.{around_at}
use Rattle.xpath_marks.specs.Marking.{AreNodes, nodes_of}
use Rattle.xpath_marks.proofs.first_steps.around.Given as goal

abbrev pub invariant-from : goal.invariant-from
invariant-from g l = record {
  within : AreNodes l.dynamic l.out.items;
  left : l.out.items ++ flat_map (around_at (nodes_of l.dynamic)) (drop l.n-index l.from) ≡ flat_map (around_at (nodes_of l.dynamic)) l.from;
}
