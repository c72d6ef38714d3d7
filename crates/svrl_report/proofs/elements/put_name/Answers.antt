use Rattle.std.proofs.Common.{◌∷◌, [], ap}
use Rattle.xml_write.specs.Calls.{call_start}
use Rattle.svrl_report.proofs.WriterSteps.{Makes-same}
use Rattle.svrl_report.proofs.elements.put_name.Goals as goal

pub returns-clause-makes : goal.returns-clause-makes
returns-clause-makes g c = Makes-same _ _ _ _ _ _ _ (ap (λ n. call_start n ∷ []) c.element_of.ensures) c.start.ensures.makes
