use Rattle.std.proofs.Common.{[], ◌∷◌, None, ap, sym, ◌∙◌}
use Rattle.bind_terms.specs.Faults.{found_of, with_found}
use Rattle.bind_terms.proofs.Tolds.{least-append}
use Rattle.bind_terms.proofs.keeping.LeastKeeper.put.Goals as goal

pub returns : goal.returns
returns c = λ before was. c.earlier.ensures ∙ (ap (λ o. with_found o (found_of c.args.found)) was ∙ sym (least-append None before (found_of c.args.found ∷ [])))
