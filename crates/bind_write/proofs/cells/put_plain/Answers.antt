use Rattle.bind_write.proofs.WriterSteps.{goes-same}
use Rattle.bind_write.proofs.TextLemmas.{text-bytes}
use Rattle.bind_write.proofs.cells.put_plain.Goals as goal

pub returns-clause-makes : goal.returns-clause-makes
returns-clause-makes g c = goes-same _ _ _ _ _ _ _ (text-bytes _ _ c.text_of.utf8 c.text_of.ensures) c.put_part.ensures.makes
