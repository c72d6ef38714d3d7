use Rattle.schematron_entries.proofs.FollowLemmas.{rules_in_order}
use Rattle.schematron_entries.proofs.laws.rules_follow.Goals as goal

pub returns : goal.returns
returns c = rules_in_order
