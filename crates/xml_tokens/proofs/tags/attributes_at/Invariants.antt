use Rattle.std.proofs.Common.{length}
use Rattle.std.specs.Str.{IsUtf8}
use Rattle.xml_tokens.proofs.AttributeLemmas.{Attributing}
use Rattle.xml_tokens.proofs.tags.attributes_at.Given as goal

abbrev pub invariant-attributes : goal.invariant-attributes
invariant-attributes l = record { known : Attributing l.text l.found.items l.are_right l.rest; utf8 : IsUtf8 l.rest }

abbrev pub decreases-attributes : goal.decreases-attributes
decreases-attributes l = length l.rest
