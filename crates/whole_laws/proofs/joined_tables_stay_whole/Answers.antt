use Rattle.whole_laws.proofs.StayLemmas.{whole-more, whole-extended}
use Rattle.whole_laws.proofs.joined_tables_stay_whole.Goals as goal

pub returns-clause-row : goal.returns-clause-row
returns-clause-row c = whole-more

pub returns-clause-terms : goal.returns-clause-terms
returns-clause-terms c = whole-extended
