use Rattle.extension_laws.proofs.GoodLemmas.{good-parts, good-through, good-rooted}
use Rattle.extension_laws.proofs.good_rows_join.Goals as goal

pub returns-clause-parts : goal.returns-clause-parts
returns-clause-parts c = good-parts

pub returns-clause-through : goal.returns-clause-through
returns-clause-through c = good-through

pub returns-clause-rooted : goal.returns-clause-rooted
returns-clause-rooted c = good-rooted
