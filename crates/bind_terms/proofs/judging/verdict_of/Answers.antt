use Rattle.std.proofs.Common.{option_map, refl, sym, subst}
use Rattle.bind_terms.specs.declared.judging.Verdict.TheVariants as verdicts
use Rattle.bind_terms.specs.Faults.{found_of}
use Rattle.bind_terms.specs.Passes.{IsVerdict}
use Rattle.bind_terms.proofs.judging.verdict_of.Goals as goal

pub returns-in-Some : goal.returns-in-Some
returns-in-Some c =
    subst (λ fault. IsVerdict c.args.firsts.items (option_map found_of fault) (verdicts.Fault c.in-Some.found.fault)) (sym c.in-Some.is) refl

pub returns-in_ok-invoice_of-in-None : goal.returns-in_ok-invoice_of-in-None
returns-in_ok-invoice_of-in-None c =
    subst (λ fault. IsVerdict c.args.firsts.items (option_map found_of fault) (verdicts.Invoice c.in_ok-invoice_of-in-None.field-0))
    (sym c.in-None.is) c.in_ok-invoice_of-in-None.ensures
