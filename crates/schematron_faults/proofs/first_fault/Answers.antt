use Rattle.std.proofs.Common.{ap, ◌∙◌}
use Rattle.schematron_meaning.specs.Showing.{first_declared}
use Rattle.schematron_meaning.specs.Written.{all_written}
use Rattle.schematron_expansion.specs.Found.{sooner}
use Rattle.schematron_faults.specs.Joining.{fault_of}
use Rattle.schematron_faults.specs.Least.{soonest}
use Rattle.schematron_faults.proofs.FaultLemmas.{first_found}
use Rattle.schematron_faults.proofs.first_fault.Goals as goal

pub returns : goal.returns
returns c = λ nodes ordered e. c.fault_of.ensures ∙ (ap fault_of c.sooner.ensures
    ∙ first_found nodes c.args.file.now c.in_ok-declared.declared c.in_ok-cycle.cycle c.in_ok-passing.passing c.sooner-best.result c.in_ok-found.found
    (c.numbers_rise.ensures nodes ordered) e
    (c.in_ok-declared.ensures ∙ ap first_declared c.entries.ensures) (c.in_ok-cycle.ensures nodes ordered e) c.in_ok-passing.ensures
    (c.sooner-best.ensures ∙ ap (λ x. sooner x c.in_ok-cycle.cycle) c.at_itself.ensures)
    (λ is. c.in_ok-found.ensures is ∙ ap (λ l. soonest c.sooner-best.result l (all_written c.args.file.now)) c.place_of-last.ensures))
