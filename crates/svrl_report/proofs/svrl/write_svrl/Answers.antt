use Rattle.svrl_report.proofs.SvrlLemmas.{report-broke, report-written}
use Rattle.svrl_report.proofs.svrl.write_svrl.Goals as goal

pub returns-in_err-put_report : goal.returns-in_err-put_report
returns-in_err-put_report g c =
    report-broke c.args.findings.now c.calls_append_canonical_text.ensures.bytes _ c.new-pen.ensures _ _ _ c.in_err-put_report.ensures.makes
    c.from_residual.ensures.0

pub returns : goal.returns
returns g c = report-written c.args.findings.now c.calls_append_canonical_text.ensures.bytes _ c.new-pen.ensures _ _ _ _ _ c.in_ok-put_report.ensures.makes
    c.close.ensures
