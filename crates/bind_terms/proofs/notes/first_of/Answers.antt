use Rattle.std.proofs.Common.{sym, ap, ◌∙◌, length}
use Rattle.bind_terms.proofs.Fronts.{first-is, none-is}
use Rattle.bind_terms.proofs.notes.first_of.Goals as goal

pub returns-in-Some : goal.returns-in-Some
returns-in-Some c = first-is _ _ _ _ c.utf8.text (sym c.chars-rest.ensures.rest ∙ c.in-Some.ensures.steps.0) c.as_str.ensures

pub returns-in-None : goal.returns-in-None
returns-in-None c = none-is _ (ap length (sym c.chars-rest.ensures.rest) ∙ c.in-None.ensures.steps.0.0)
