use Rattle.invoice_jobs.proofs.ConversionLemmas.{none-good}
use Rattle.invoice_jobs.proofs.conversions.no_terms_are_good.Goals as goal

pub returns : goal.returns
returns c = none-good c.invoice_is_well_formed.ensures c.credit_note_is_well_formed.ensures c.cii_is_well_formed.ensures
