use Rattle.std.proofs.Common.{◌∷◌, [], ◌++◌, codes}
use Rattle.std.specs.Prelude.{encode_utf8_all}
use Rattle.xml_write.specs.Calls.{call_start, call_attribute, call_end}
use Rattle.svrl_report.proofs.WriterSteps.{begin, step, broken, last}
use Rattle.svrl_report.proofs.elements.put_fired.Goals as goal

pub returns-in_err-start-clause-makes : goal.returns-in_err-start-clause-makes
returns-in_err-start-clause-makes g c = broken _ _ _ _ _ _ _ _ (call_start (codes "svrl:fired-rule") ∷ [])
    ((call_attribute (codes "context") (encode_utf8_all c.args.context.now) ∷ []) ++ (call_end (codes "svrl:fired-rule") ∷ [])) c.from_residual.ensures.0
    c.in_err-start.ensures.makes (begin _ _ _)

pub returns-in_err-put_attribute-clause-makes : goal.returns-in_err-put_attribute-clause-makes
returns-in_err-put_attribute-clause-makes g c = broken _ _ _ _ _ _ _ _ (call_attribute (codes "context") (encode_utf8_all c.args.context.now) ∷ [])
    (call_end (codes "svrl:fired-rule") ∷ []) c.from_residual-in_err-put_attribute.ensures.0 c.in_err-put_attribute.ensures.makes
    (step _ _ _ _ _ _ _ (call_start (codes "svrl:fired-rule") ∷ []) ((call_attribute (codes "context") (encode_utf8_all c.args.context.now) ∷ []) ++
    (call_end (codes "svrl:fired-rule") ∷ [])) c.in_ok-start.ensures.makes (begin _ _ _))

pub returns-clause-makes : goal.returns-clause-makes
returns-clause-makes g c = last _ _ _ _ _ _ _ _ (call_end (codes "svrl:fired-rule") ∷ []) c.end.ensures.makes
    (step _ _ _ _ _ _ _ (call_attribute (codes "context") (encode_utf8_all c.args.context.now) ∷ [])
    (call_end (codes "svrl:fired-rule") ∷ []) c.in_ok-put_attribute.ensures.makes
    (step _ _ _ _ _ _ _ (call_start (codes "svrl:fired-rule") ∷ []) ((call_attribute (codes "context") (encode_utf8_all c.args.context.now) ∷ []) ++
    (call_end (codes "svrl:fired-rule") ∷ [])) c.in_ok-start.ensures.makes (begin _ _ _)))
