use Rattle.node_arena.proofs.WalkLemmas.{document_leads_on}
use Rattle.node_arena.proofs.laws.moves_lead_on.Goals as goal

pub returns : goal.returns
returns c = document_leads_on
