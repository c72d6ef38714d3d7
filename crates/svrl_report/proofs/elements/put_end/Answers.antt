use Rattle.std.proofs.Common.{◌∷◌, [], ap}
use Rattle.xml_write.specs.Calls.{call_end}
use Rattle.svrl_report.proofs.WriterSteps.{Makes-same}
use Rattle.svrl_report.proofs.elements.put_end.Goals as goal

pub returns-clause-makes : goal.returns-clause-makes
returns-clause-makes g c = Makes-same _ _ _ _ _ _ _ (ap (λ n. call_end n ∷ []) c.element_of.ensures) c.end.ensures.makes
