use Rattle.std.proofs.Common.{◌+◌, ◌*◌, take}
use Rattle.xpath_meaning.specs.Expressions.{Exp}
use Rattle.xpath_meaning.specs.Resolving.{chained_on}
use Rattle.xpath_parts.specs.Contexts.{operands_of}
use Rattle.xpath_parts.specs.Depths.{depth, deepest}
use Rattle.xpath_parts.specs.Slots.{AreHeld}
use Rattle.xpath_marks.specs.Marking.{AreNodes, Marked}
use Rattle.xpath_marks.proofs.marking.+marking.Given as goal

abbrev pub decreases-found : goal.decreases-found
decreases-found g l = 4 * depth l.work.now

abbrev pub decreases-link_on : goal.decreases-link_on
decreases-link_on g l = 4 * depth l.work.now + 1

abbrev pub decreases-links_on : goal.decreases-links_on
decreases-links_on g l = 4 * deepest l.parts.now + 2

abbrev pub decreases-chain : goal.decreases-chain
decreases-chain g l = 4 * deepest l.parts.now + 3

abbrev pub invariant-links_on-parts : goal.invariant-links_on-parts
invariant-links_on-parts g l = record {
  within : AreNodes l.dynamic l.before.items;
  held : AreHeld l.dynamic l.slots;
  marked : (e : Exp) → Marked l.dynamic e l.fn.before.items →
      Marked l.dynamic (chained_on e (operands_of l.dynamic.names.now (take l.part-index l.parts))) l.before.items;
}
