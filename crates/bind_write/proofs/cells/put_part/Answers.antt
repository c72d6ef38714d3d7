use Rattle.std.proofs.Common.{sym, ◌∙◌}
use Rattle.bind_write.proofs.WriterSteps.{part_goes_on}
use Rattle.bind_write.proofs.cells.put_part.Goals as goal

pub returns-clause-makes : goal.returns-clause-makes
returns-clause-makes g c = part_goes_on _ _ _ _ _ c.args.text.now (sym c.is_empty.ensures ∙ c.if-is_empty.false) c.text.ensures.makes
