use Rattle.std.proofs.Common.{sym, ◌∙◌}
use Rattle.bind_walk.proofs.PassLemmas.{leads_nowhere}
use Rattle.bind_walk.proofs.passed.add_insides.Goals as goal

pub returns-in-None : goal.returns-in-None
returns-in-None c = leads_nowhere _ c.names_lead_through.ensures _ _ _ _ c.requires.within (sym c.in-None.is ∙ c.name.ensures.value)
