use Rattle.bind_table.proofs.NumberLemmas.{places-rise}
use Rattle.bind_table.proofs.laws.occurrences_have_no_gap.Goals as goal

pub returns : goal.returns
returns c = places-rise
