use Rattle.std.proofs.Common.{◌∷◌, [], ◌++◌}
use Rattle.xml_write.specs.Calls.{call_end}
use Rattle.svrl_report.specs.Calls as calls
use Rattle.svrl_report.proofs.WriterSteps.{begin, step, broken, last}
use Rattle.svrl_report.proofs.elements.put_finding.Goals as goal

pub returns-in_err-put_start-clause-makes : goal.returns-in_err-put_start-clause-makes
returns-in_err-put_start-clause-makes g c = broken _ _ _ _ _ _ _ _ (calls.start_calls c.args.finding.now) ((calls.message_calls c.args.finding.now.message) ++
    (call_end (calls.element_of c.args.finding.now.outcome) ∷ [])) c.from_residual.ensures.0 c.in_err-put_start.ensures.makes (begin _ _ _)

pub returns-in_err-put_message-clause-makes : goal.returns-in_err-put_message-clause-makes
returns-in_err-put_message-clause-makes g c = broken _ _ _ _ _ _ _ _ (calls.message_calls c.args.finding.now.message)
    (call_end (calls.element_of c.args.finding.now.outcome) ∷ []) c.from_residual-in_err-put_message.ensures.0 c.in_err-put_message.ensures.makes
    (step _ _ _ _ _ _ _ (calls.start_calls c.args.finding.now) ((calls.message_calls c.args.finding.now.message) ++
    (call_end (calls.element_of c.args.finding.now.outcome) ∷ [])) c.in_ok-put_start.ensures.makes (begin _ _ _))

pub returns-clause-makes : goal.returns-clause-makes
returns-clause-makes g c = last _ _ _ _ _ _ _ _ (call_end (calls.element_of c.args.finding.now.outcome) ∷ []) c.put_end.ensures.makes
    (step _ _ _ _ _ _ _ (calls.message_calls c.args.finding.now.message)
    (call_end (calls.element_of c.args.finding.now.outcome) ∷ []) c.in_ok-put_message.ensures.makes
    (step _ _ _ _ _ _ _ (calls.start_calls c.args.finding.now) ((calls.message_calls c.args.finding.now.message) ++
    (call_end (calls.element_of c.args.finding.now.outcome) ∷ [])) c.in_ok-put_start.ensures.makes (begin _ _ _)))
