use Rattle.written_laws.proofs.CarryLemmas.{small, carried}
use Rattle.written_laws.proofs.carried_documents_are_small.Goals as goal

pub returns : goal.returns
returns c rows es h = small rows es (carried rows es h)
