use Rattle.std.proofs.Common.{nat_eq}
use Rattle.indexmap.specs.IndexMap.{get}
use Rattle.schematron_entries.specs.Chains.{AreLinked}
use Rattle.schematron_entries.proofs.chains.links_of.Given as goal

abbrev pub invariant-back : goal.invariant-back
invariant-back l = AreLinked l.at l.numbers (λ n. get nat_eq l.first n) l.next.items

abbrev pub decreases-back : goal.decreases-back
decreases-back l = l.at
