use Rattle.short_lines.proofs.ComposingLemmas.{Composes-append}
use Rattle.inv_listing.proofs.FrontLemmas.{begins-behind}
use Rattle.inv_listing.proofs.fronts.Front.turn_to.Goals as goal

pub returns-clause-begins : goal.returns-clause-begins
returns-clause-begins c =
    begins-behind _ _ c.turn_to_context.new.self c.put.new.text c.turn_to_context.ensures.begins
    (Composes-append _ _ _ _ _ _ _ c.put_term.ensures c.put.ensures)
