use Rattle.std.proofs.Common.{◌≡◌, ◌++◌, drop}
use Rattle.xpath_meaning.specs.Collections.{distinct}
use Rattle.xpath_values.specs.Distinct.{unknown, AreKnown}
use Rattle.xpath_values.proofs.distinguishing.distinct.Given as goal

abbrev pub invariant-items : goal.invariant-items
invariant-items l = record {
  kept : l.kept.items ++ unknown l.kept.items (distinct (drop l.item-index l.items)) ≡ distinct l.items;
  known : AreKnown l.known l.kept.items;
}
