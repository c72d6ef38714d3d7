use Rattle.extension_laws.proofs.CompleteLemmas.{complete-more}
use Rattle.extension_laws.proofs.joined_tables_stay_complete.Goals as goal

pub returns : goal.returns
returns c = complete-more
