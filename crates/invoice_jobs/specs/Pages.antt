-- What is answered to the job that writes an invoice as a page.
use Rattle.std.specs.Prelude.{ℕ, List}
use Rattle.bind_meaning.specs.Terms.{Read}
use Rattle.invoice_page.specs.Page.{page}
use Rattle.job_protocol.specs.Protocol.{Protocol, ends, done}
use Rattle.invoice_jobs.specs.Sources.{Sources}
use Rattle.invoice_jobs.specs.Invoices.{Given, read_protocol}

-- the page of an invoice, which says how many elements of its document were passed over
abbrev pub page_answer : Read → Protocol
page_answer read = ends (done (page read.entries read.passed_over))

abbrev pub viewed : Given → Protocol
viewed given = page_answer given.read

abbrev pub view_protocol : Sources → List ℕ → Protocol
view_protocol sources file = read_protocol sources file viewed
