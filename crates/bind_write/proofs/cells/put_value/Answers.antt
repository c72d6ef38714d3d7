use Rattle.std.proofs.Common.{ap, [], ◌∷◌}
use Rattle.xml_write.specs.Calls.{call_attribute}
use Rattle.bind_write.proofs.WriterSteps.{Makes-same}
use Rattle.bind_write.proofs.TextLemmas.{text-bytes}
use Rattle.bind_write.proofs.cells.put_value.Goals as goal

pub returns-clause-makes : goal.returns-clause-makes
returns-clause-makes g c = Makes-same _ _ _ _ _ _ _ (ap (λ x. call_attribute c.args.name.now x ∷ []) (text-bytes _ _ c.text.utf8 c.text.ensures))
    c.attribute.ensures.makes
