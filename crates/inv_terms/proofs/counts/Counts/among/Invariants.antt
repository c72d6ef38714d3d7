use Rattle.inv_terms.proofs.CountLemmas.{AreCountedFrom}
use Rattle.inv_terms.proofs.counts.Counts.among.Given as goal

abbrev pub invariant-entries : goal.invariant-entries
invariant-entries l = AreCountedFrom l.numbers l.e-index l.entries
