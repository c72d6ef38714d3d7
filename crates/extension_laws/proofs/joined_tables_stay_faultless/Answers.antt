use Rattle.extension_laws.proofs.FaultLemmas.{faultless-more}
use Rattle.extension_laws.proofs.joined_tables_stay_faultless.Goals as goal

pub returns : goal.returns
returns c = λ rows row joins long. faultless-more rows row joins long
