use Rattle.std.proofs.Common.{length}
use Rattle.inv_terms.proofs.WalkLemmas.{Walk}
use Rattle.inv_terms.proofs.validity.earliest_missing.Given as goal

abbrev pub invariant-entries : goal.invariant-entries
invariant-entries l = Walk l.entries l.before l.rest l.first

abbrev pub decreases-entries : goal.decreases-entries
decreases-entries l = length l.rest
