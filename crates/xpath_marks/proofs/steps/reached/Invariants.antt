use Rattle.std.proofs.Common.{◌≡◌, ◌++◌, drop, true}
use Rattle.std.specs.List.{flat_map}
use Rattle.xpath_meaning.specs.Patterns.{found_at}
use Rattle.xpath_plan.specs.Plans.{seen}
use Rattle.xpath_parts.specs.Slots.{AreHeld}
use Rattle.xpath_marks.specs.Shapes.{is_step}
use Rattle.xpath_marks.specs.Marking.{AreNodes, nodes_of}
use Rattle.xpath_marks.proofs.steps.reached.Given as goal

abbrev pub invariant-from : goal.invariant-from
invariant-from g l =
    let step = seen l.dynamic.names.now l.work in
    let f = found_at (nodes_of l.dynamic) l.dynamic.env.now step in
    record {
      within : AreNodes l.dynamic l.out.items;
      held : AreHeld l.dynamic l.slots;
      goes : is_step step ≡ true → l.out.items ++ flat_map f (drop l.n-index l.from) ≡ flat_map f l.from;
    }
