use Rattle.invoice_jobs.proofs.ConversionLemmas.{reading_profile-good}
use Rattle.invoice_jobs.proofs.conversions.accepted_terms_are_good.Goals as goal

pub returns : goal.returns
returns c = reading_profile-good c.file_terms_are_extensions.ensures c.no_terms_are_good.ensures
