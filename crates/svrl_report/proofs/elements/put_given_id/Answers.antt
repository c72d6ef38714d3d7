use Rattle.std.proofs.Common.{◌∷◌, [], ap, codes}
use Rattle.xml_write.specs.Calls.{call_attribute}
use Rattle.svrl_report.proofs.SvrlLemmas.{bytes-of}
use Rattle.svrl_report.proofs.WriterSteps.{Makes-same}
use Rattle.svrl_report.proofs.elements.put_given_id.Goals as goal

pub returns-clause-makes : goal.returns-clause-makes
returns-clause-makes g c = Makes-same _ _ _ _ _ _ _
    (ap (λ v. call_attribute (codes "id") v ∷ []) (bytes-of c.as_str.result.now c.args.id.now c.as_str.utf8 c.as_str.ensures)) c.attribute.ensures.makes
