use Rattle.trial_laws.proofs.Carried.{trial-carried}
use Rattle.trial_laws.proofs.trial_entries_are_carried.Goals as goal

pub returns : goal.returns
returns c syntax lines few = trial-carried syntax lines few
