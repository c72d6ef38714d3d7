-- What is answered to the job that compares an invoice's totals.
use Rattle.std.specs.Prelude.{ℕ, Bool, true, false, List, [], chars, encode_utf8_all}
use Rattle.inv_totals.specs.declared.found.Difference.{Difference}
use Rattle.inv_totals.specs.Totals.{differences, is_nothing}
use Rattle.inv_totals.specs.Lines.{differences_text}
use Rattle.json_text.specs.Layout.{document}
use Rattle.totals_json.specs.TotalsJson.{totals_json}
use Rattle.job_protocol.specs.declared.status.Status.{Status}
use Rattle.job_protocol.specs.declared.status.Status.TheVariants as statuses
use Rattle.job_protocol.specs.Protocol.{Protocol, ends}
use Rattle.invoice_jobs.specs.declared.formats.AnswerFormat.{AnswerFormat}
use Rattle.invoice_jobs.specs.declared.formats.AnswerFormat.TheVariants as formats
use Rattle.invoice_jobs.specs.Sources.{Sources}
use Rattle.invoice_jobs.specs.Invoices.{Given, read_protocol}

-- Findings, exactly where there is a difference
abbrev pub status_by : Bool → Status
status_by true = statuses.Done
status_by false = statuses.Findings

-- the differences in a format, by the name of the invoice's file
abbrev pub totals_text : AnswerFormat → List ℕ → List Difference → List ℕ
totals_text formats.Lines file found = differences_text found
totals_text formats.Json file found = encode_utf8_all (document (totals_json (chars file) found))

abbrev pub totalled : AnswerFormat → List ℕ → List Difference → Protocol
totalled format file found = ends (record { status = status_by (is_nothing found); out = totals_text format file found; err = [] })

abbrev pub compared : AnswerFormat → List ℕ → Given → Protocol
compared format file given = totalled format file (differences given.read.entries)

abbrev pub totals_protocol : AnswerFormat → Sources → List ℕ → Protocol
totals_protocol format sources file = read_protocol sources file (compared format file)
