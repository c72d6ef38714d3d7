use Rattle.kept_laws.proofs.EnteredLemmas.{all-entered}
use Rattle.kept_laws.proofs.each_value_told_is_an_entry.Goals as goal

pub returns : goal.returns
returns c = all-entered
