use Rattle.invoice_jobs.proofs.ConversionLemmas.{written-read}
use Rattle.invoice_jobs.proofs.conversions.carried_texts_are_read_exactly.Goals as goal

pub returns : goal.returns
returns c = written-read c.accepted_terms_are_good.ensures c.good_extensions_are_open.ensures c.round_trip.ensures.syntax
