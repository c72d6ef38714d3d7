use Rattle.std.proofs.Common.{length, string_bytes}
use Rattle.std.specs.Prelude.{chars}
use Rattle.node_locations.proofs.TextLemmas.{Along}
use Rattle.node_locations.proofs.texts.push_doubled.Given as goal

abbrev pub invariant-characters : goal.invariant-characters
invariant-characters l = Along (chars l.text) (length l.yielded) (chars (string_bytes l.initial.out)) (chars (string_bytes l.out))
