use Rattle.std.proofs.Common.{length}
use Rattle.xml_tokens.proofs.TargetLemmas.{Reached}
use Rattle.xml_tokens.proofs.markup.split_target.Given as goal

abbrev pub invariant-characters : goal.invariant-characters
invariant-characters l = Reached l.inside l.rest

abbrev pub decreases-characters : goal.decreases-characters
decreases-characters l = length l.rest
