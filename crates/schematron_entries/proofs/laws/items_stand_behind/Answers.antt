use Rattle.schematron_entries.proofs.FollowLemmas.{behind}
use Rattle.schematron_entries.proofs.laws.items_stand_behind.Goals as goal

pub returns : goal.returns
returns c = behind
