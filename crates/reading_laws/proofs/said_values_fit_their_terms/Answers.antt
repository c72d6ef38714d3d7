use Rattle.reading_laws.proofs.StringLemmas.{parsed-fits}
use Rattle.reading_laws.proofs.said_values_fit_their_terms.Goals as goal

pub returns : goal.returns
returns c = parsed-fits c.printed_days_are_read.ensures.dashed c.readings_are_in_range.ensures.plain
