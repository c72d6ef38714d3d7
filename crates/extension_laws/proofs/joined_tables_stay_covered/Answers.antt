use Rattle.extension_laws.proofs.CoverLemmas.{joined-more, paired-more}
use Rattle.extension_laws.proofs.PlainLemmas.{covered-more}
use Rattle.extension_laws.proofs.joined_tables_stay_covered.Goals as goal

pub returns-clause-covered : goal.returns-clause-covered
returns-clause-covered c = λ rows row joins long. covered-more rows row joins long

pub returns-clause-joined : goal.returns-clause-joined
returns-clause-joined c = λ rows row joins long. joined-more rows row joins long

pub returns-clause-paired : goal.returns-clause-paired
returns-clause-paired c = λ rows row joins long. paired-more rows row joins long
