use Rattle.extension_laws.proofs.JoinLemmas.{stands-apart, ends-alone}
use Rattle.extension_laws.proofs.joined_rows_stand_apart.Goals as goal

pub returns-clause-apart : goal.returns-clause-apart
returns-clause-apart c = λ rows row known joins long. stands-apart rows row joins long known

pub returns-clause-alone : goal.returns-clause-alone
returns-clause-alone c = λ rows row joins long. ends-alone rows row joins long
