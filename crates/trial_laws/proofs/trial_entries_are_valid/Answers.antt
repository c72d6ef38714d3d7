use Rattle.trial_laws.proofs.Valid.{trial-valid}
use Rattle.trial_laws.proofs.trial_entries_are_valid.Goals as goal

pub returns : goal.returns
returns c lines some = trial-valid lines some
