use Rattle.reading_laws.proofs.FitLemmas.{entries-fit}
use Rattle.reading_laws.proofs.read_values_fit_their_terms.Goals as goal

pub returns : goal.returns
returns c = entries-fit c.said_values_fit_their_terms.ensures
