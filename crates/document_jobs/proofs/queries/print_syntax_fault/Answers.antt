use Rattle.document_jobs.proofs.queries.print_syntax_fault.Goals as goal

pub returns-in-NumberTooWide : goal.returns-in-NumberTooWide
returns-in-NumberTooWide g c = rw c.in-NumberTooWide.is c.put-in-NumberTooWide.ensures

pub returns-in-Unsupported : goal.returns-in-Unsupported
returns-in-Unsupported g c = rw c.in-Unsupported.is c.print_placed-in-Unsupported.ensures
