use Rattle.schematron_entries.proofs.NumberLemmas.{entries_rise}
use Rattle.schematron_entries.proofs.laws.numbers_rise.Goals as goal

pub returns : goal.returns
returns c = entries_rise
