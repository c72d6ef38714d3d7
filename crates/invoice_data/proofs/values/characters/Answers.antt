use Rattle.invoice_data.proofs.TextLemmas.{characters_are, no_characters}
use Rattle.invoice_data.proofs.values.characters.Goals as goal

pub returns-in-Ok : goal.returns-in-Ok
returns-in-Ok c = characters_are _ _ c.in-Ok.ensures.cases.0 c.in-Ok.ensures.cases.1

pub returns-in-Err : goal.returns-in-Err
returns-in-Err c = no_characters _ c.in-Err.ensures.cases.0
