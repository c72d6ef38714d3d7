use Rattle.std.proofs.Common.{length}
use Rattle.inv_base.specs.Characters.{is_char}
use Rattle.xml_tokens.proofs.TargetLemmas.{Passed}
use Rattle.xml_tokens.proofs.run.chars_until.Given as goal

abbrev pub invariant-characters : goal.invariant-characters
invariant-characters l = Passed is_char l.text l.rest

abbrev pub decreases-characters : goal.decreases-characters
decreases-characters l = length l.rest
