use Rattle.binding_laws.proofs.PassedLemmas.{nothing-passed}
use Rattle.binding_laws.proofs.laws.nothing_is_passed_over.Goals as goal

pub returns : goal.returns
returns c = nothing-passed
