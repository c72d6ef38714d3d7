use Rattle.std.proofs.Common.{length}
use Rattle.std.specs.Prelude.{string_bytes}
use Rattle.xml_tokens.proofs.ValueLemmas.{Saying}
use Rattle.xml_tokens.proofs.values.own_value.Given as goal

abbrev pub invariant-characters : goal.invariant-characters
invariant-characters l = Saying l.value (string_bytes l.own) l.rest

abbrev pub decreases-characters : goal.decreases-characters
decreases-characters l = length l.rest
