use Rattle.std.proofs.Common.{◌≡◌, ◌∙◌}
use Rattle.held_rules.specs.Texts.{seen_ready}
use Rattle.job_protocol.specs.Protocol.{ends}
use Rattle.job_protocol.proofs.Ends.{memory_here}
use Rattle.validation_report.specs.Validating.{report_of}
use Rattle.bind_run.specs.Reading.{found_report}
use Rattle.validation_jobs.specs.Validation.{text_asked, validated, reported}
use Rattle.validation_jobs.proofs.ValidationLemmas.{report_is_written}
use Rattle.validation_jobs.proofs.validating.report.Goals as goal

pub returns-in-Err : goal.returns-in-Err
returns-in-Err g c = λ content lines shelf err.
    memory_here (ends (reported (text_asked c.args.asked.now) (validated content c.args.placed.now.doc (found_report c.args.reading_report.now) (seen_ready
    c.args.ready.now)))) shelf
    (g.O.Sink.view c.args.out.now) err

pub returns-in-Ok-made : goal.returns-in-Ok-made
returns-in-Ok-made g c = λ content lines shelf err.
    let doc = c.args.placed.now.doc in
    let v = validated content doc (found_report c.args.reading_report.now) (seen_ready c.args.ready.now) in
    let same : report_of (record {
      content = content;
      document = doc;
      faults = c.as_slice.result.now;
      passed = c.as_slice-2.result.now;
      unread = c.as_slice-3.result.now;
      misplaced = c.as_slice-4.result.now;
      lines = c.in-Ok.found;
    }) ≡ report_of v =
    λ i. report_of (record {
      content = content;
      document = doc;
      faults = c.as_slice.ensures.value i;
      passed = c.as_slice-2.ensures.value i;
      unread = c.as_slice-3.ensures.value i;
      misplaced = c.as_slice-4.ensures.value i;
      lines = c.in-Ok.ensures i;
    }) in
    report_is_written (text_asked c.args.asked.now) v c.in-Ok-made.validation c.write_report-status.result shelf (g.O.Sink.view c.args.out.now)
    (g.O.Sink.view c.write_report-status.new.out) err
    (c.in-Ok-made.ensures content lines ∙ same) (c.write_report-status.ensures shelf err)
