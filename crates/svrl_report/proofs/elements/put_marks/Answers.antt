use Rattle.std.proofs.Common.{◌++◌, codes}
use Rattle.svrl_report.specs.Calls as calls
use Rattle.svrl_report.proofs.WriterSteps.{begin, step, broken, last}
use Rattle.svrl_report.proofs.elements.put_marks.Goals as goal

pub returns-in_err-put_id-clause-makes : goal.returns-in_err-put_id-clause-makes
returns-in_err-put_id-clause-makes g c = broken _ _ _ _ _ _ _ _ (calls.given_calls (codes "id") c.args.finding.now.id)
    ((calls.flag_calls c.args.finding.now.outcome c.args.finding.now.flag) ++ (calls.role_calls c.args.finding.now.outcome c.args.finding.now.role))
    c.from_residual.ensures.0 c.in_err-put_id.ensures.makes (begin _ _ _)

pub returns-in_err-put_flag-clause-makes : goal.returns-in_err-put_flag-clause-makes
returns-in_err-put_flag-clause-makes g c = broken _ _ _ _ _ _ _ _ (calls.flag_calls c.args.finding.now.outcome c.args.finding.now.flag)
    (calls.role_calls c.args.finding.now.outcome c.args.finding.now.role) c.from_residual-in_err-put_flag.ensures.0 c.in_err-put_flag.ensures.makes
    (step _ _ _ _ _ _ _ (calls.given_calls (codes "id") c.args.finding.now.id) ((calls.flag_calls c.args.finding.now.outcome c.args.finding.now.flag) ++
    (calls.role_calls c.args.finding.now.outcome c.args.finding.now.role)) c.in_ok-put_id.ensures.makes (begin _ _ _))

pub returns-clause-makes : goal.returns-clause-makes
returns-clause-makes g c = last _ _ _ _ _ _ _ _ (calls.role_calls c.args.finding.now.outcome c.args.finding.now.role) c.put_role.ensures.makes
    (step _ _ _ _ _ _ _ (calls.flag_calls c.args.finding.now.outcome c.args.finding.now.flag)
    (calls.role_calls c.args.finding.now.outcome c.args.finding.now.role) c.in_ok-put_flag.ensures.makes
    (step _ _ _ _ _ _ _ (calls.given_calls (codes "id") c.args.finding.now.id) ((calls.flag_calls c.args.finding.now.outcome c.args.finding.now.flag) ++
    (calls.role_calls c.args.finding.now.outcome c.args.finding.now.role)) c.in_ok-put_id.ensures.makes (begin _ _ _)))
