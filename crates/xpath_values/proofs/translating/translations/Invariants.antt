use Rattle.std.proofs.Common.{◌≤◌, length, drop}
use Rattle.std.specs.BTreeMap.{get}
use Rattle.std.specs.Ordering.{nat_cmp}
use Rattle.xpath_values.specs.Translations.{Translates}
use Rattle.xpath_values.proofs.translating.translations.Given as goal

abbrev pub invariant-characters : goal.invariant-characters
invariant-characters l = record {
  within : l.place ≤ length l.from;
  same : Translates (get nat_cmp l.table) (drop l.place l.from) (drop l.place l.to);
}

abbrev pub decreases-characters : goal.decreases-characters
decreases-characters l = l.place
