use Rattle.std.proofs.Common.{◌∷◌, [], ◌++◌, codes}
use Rattle.xml_write.specs.Calls.{call_start, call_declare, call_end}
use Rattle.svrl_report.specs.Calls as calls
use Rattle.svrl_report.specs.Svrl.{svrl_uri}
use Rattle.svrl_report.proofs.WriterSteps.{begin, step, broken, last}
use Rattle.svrl_report.proofs.svrl.put_report.Goals as goal

pub returns-in_err-start-clause-makes : goal.returns-in_err-start-clause-makes
returns-in_err-start-clause-makes g c = broken _ _ _ _ _ _ _ _ (call_start (codes "svrl:schematron-output") ∷ []) ((call_declare (codes "svrl") svrl_uri ∷ [])
    ++ ((calls.files_calls c.args.findings.now) ++ (call_end (codes "svrl:schematron-output") ∷ []))) c.from_residual.ensures.0 c.in_err-start.ensures.makes
    (begin _ _ _)

pub returns-in_err-declare-clause-makes : goal.returns-in_err-declare-clause-makes
returns-in_err-declare-clause-makes g c = broken _ _ _ _ _ _ _ _ (call_declare (codes "svrl") svrl_uri ∷ []) ((calls.files_calls c.args.findings.now) ++
    (call_end (codes "svrl:schematron-output") ∷ [])) c.from_residual-in_err-declare.ensures.0 c.in_err-declare.ensures.makes
    (step _ _ _ _ _ _ _ (call_start (codes "svrl:schematron-output") ∷ []) ((call_declare (codes "svrl") svrl_uri ∷ []) ++
    ((calls.files_calls c.args.findings.now) ++ (call_end (codes "svrl:schematron-output") ∷ []))) c.in_ok-start.ensures.makes (begin _ _ _))

pub returns-in_err-put_files-clause-makes : goal.returns-in_err-put_files-clause-makes
returns-in_err-put_files-clause-makes g c = broken _ _ _ _ _ _ _ _ (calls.files_calls c.args.findings.now)
    (call_end (codes "svrl:schematron-output") ∷ []) c.from_residual-in_err-put_files.ensures.0 c.in_err-put_files.ensures.makes
    (step _ _ _ _ _ _ _ (call_declare (codes "svrl") svrl_uri ∷ []) ((calls.files_calls c.args.findings.now) ++
    (call_end (codes "svrl:schematron-output") ∷ [])) c.in_ok-declare.ensures.makes
    (step _ _ _ _ _ _ _ (call_start (codes "svrl:schematron-output") ∷ []) ((call_declare (codes "svrl") svrl_uri ∷ []) ++
    ((calls.files_calls c.args.findings.now) ++ (call_end (codes "svrl:schematron-output") ∷ []))) c.in_ok-start.ensures.makes (begin _ _ _)))

pub returns-clause-makes : goal.returns-clause-makes
returns-clause-makes g c = last _ _ _ _ _ _ _ _ (call_end (codes "svrl:schematron-output") ∷ []) c.end.ensures.makes
    (step _ _ _ _ _ _ _ (calls.files_calls c.args.findings.now) (call_end (codes "svrl:schematron-output") ∷ []) c.in_ok-put_files.ensures.makes
    (step _ _ _ _ _ _ _ (call_declare (codes "svrl") svrl_uri ∷ []) ((calls.files_calls c.args.findings.now) ++
    (call_end (codes "svrl:schematron-output") ∷ [])) c.in_ok-declare.ensures.makes
    (step _ _ _ _ _ _ _ (call_start (codes "svrl:schematron-output") ∷ []) ((call_declare (codes "svrl") svrl_uri ∷ []) ++
    ((calls.files_calls c.args.findings.now) ++ (call_end (codes "svrl:schematron-output") ∷ []))) c.in_ok-start.ensures.makes (begin _ _ _))))
