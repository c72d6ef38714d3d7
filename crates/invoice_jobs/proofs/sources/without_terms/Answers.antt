use Rattle.std.proofs.Common.{sym, subst}
use Rattle.bind_run.specs.Extensions.{AreGood}
use Rattle.bind_run.specs.Reading.{AreTablesFor}
use Rattle.invoice_jobs.proofs.InvoiceLemmas.{without_terms_good}
use Rattle.invoice_jobs.proofs.sources.without_terms.Goals as goal

pub returns-clause-tables : goal.returns-clause-tables
returns-clause-tables c = subst (λ terms. AreTablesFor terms c.built_in.result) (sym c.none.ensures) c.built_in.ensures.tables

pub returns-clause-good : goal.returns-clause-good
returns-clause-good c = subst AreGood (sym c.none.ensures) (without_terms_good c.built_in.result c.built_in.ensures.tables c.built_in.ensures.formed)
