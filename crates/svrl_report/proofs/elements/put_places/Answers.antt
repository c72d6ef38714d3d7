use Rattle.std.proofs.Common.{◌∷◌, [], codes}
use Rattle.std.specs.Prelude.{encode_utf8_all}
use Rattle.xml_write.specs.Calls.{call_attribute}
use Rattle.svrl_report.proofs.WriterSteps.{begin, step, broken, last}
use Rattle.svrl_report.proofs.elements.put_places.Goals as goal

pub returns-in_err-put_attribute-clause-makes : goal.returns-in_err-put_attribute-clause-makes
returns-in_err-put_attribute-clause-makes g c = broken _ _ _ _ _ _ _ _ (call_attribute (codes "test") (encode_utf8_all c.args.finding.now.test) ∷ [])
    (call_attribute (codes "location") (encode_utf8_all c.args.finding.now.location) ∷ []) c.from_residual.ensures.0 c.in_err-put_attribute.ensures.makes
    (begin _ _ _)

pub returns-clause-makes : goal.returns-clause-makes
returns-clause-makes g c = last _ _ _ _ _ _ _ _ (call_attribute (codes "location") (encode_utf8_all c.args.finding.now.location) ∷ [])
    c.put_location.ensures.makes (step _ _ _ _ _ _ _ (call_attribute (codes "test") (encode_utf8_all c.args.finding.now.test) ∷ [])
    (call_attribute (codes "location") (encode_utf8_all c.args.finding.now.location) ∷ []) c.in_ok-put_attribute.ensures.makes (begin _ _ _))
