use Rattle.std.proofs.Common.{◌∷◌, [], ◌++◌}
use Rattle.xml_write.specs.Calls.{call_start}
use Rattle.svrl_report.specs.Calls as calls
use Rattle.svrl_report.proofs.WriterSteps.{begin, step, broken, last}
use Rattle.svrl_report.proofs.elements.put_start.Goals as goal

pub returns-in_err-put_name-clause-makes : goal.returns-in_err-put_name-clause-makes
returns-in_err-put_name-clause-makes g c = broken _ _ _ _ _ _ _ _ (call_start (calls.element_of c.args.finding.now.outcome) ∷ [])
    ((calls.place_calls c.args.finding.now) ++ (calls.mark_calls c.args.finding.now)) c.from_residual.ensures.0 c.in_err-put_name.ensures.makes (begin _ _ _)

pub returns-in_err-put_places-clause-makes : goal.returns-in_err-put_places-clause-makes
returns-in_err-put_places-clause-makes g c = broken _ _ _ _ _ _ _ _ (calls.place_calls c.args.finding.now)
    (calls.mark_calls c.args.finding.now) c.from_residual-in_err-put_places.ensures.0 c.in_err-put_places.ensures.makes
    (step _ _ _ _ _ _ _ (call_start (calls.element_of c.args.finding.now.outcome) ∷ []) ((calls.place_calls c.args.finding.now) ++
    (calls.mark_calls c.args.finding.now)) c.in_ok-put_name.ensures.makes (begin _ _ _))

pub returns-clause-makes : goal.returns-clause-makes
returns-clause-makes g c = last _ _ _ _ _ _ _ _ (calls.mark_calls c.args.finding.now) c.put_marks.ensures.makes
    (step _ _ _ _ _ _ _ (calls.place_calls c.args.finding.now) (calls.mark_calls c.args.finding.now) c.in_ok-put_places.ensures.makes
    (step _ _ _ _ _ _ _ (call_start (calls.element_of c.args.finding.now.outcome) ∷ []) ((calls.place_calls c.args.finding.now) ++
    (calls.mark_calls c.args.finding.now)) c.in_ok-put_name.ensures.makes (begin _ _ _)))
