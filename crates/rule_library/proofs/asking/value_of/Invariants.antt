use Rattle.std.proofs.Common.{◌≡◌, ◌+◌, ◌<◌, length, drop}
use Rattle.std.specs.Prelude.{chars}
use Rattle.std.specs.Option.{ForSome}
use Rattle.rule_library.specs.Asked.{value_of, given_at}
use Rattle.rule_library.specs.Turns.{from}
use Rattle.rule_library.proofs.asking.value_of.Given as goal

-- The attributes before this one haven't the name.
abbrev pub invariant-attributes : goal.invariant-attributes
invariant-attributes l = record {
  within : ForSome l.at (λ m. m < length l.doc.nodes);
  same : value_of (chars l.local) (given_at l.doc.names (from l.at l.doc.nodes)) ≡ value_of (chars l.local)
      (given_at l.doc.names (drop (l.fn.n + 1) l.doc.nodes));
}

abbrev pub decreases-attributes : goal.decreases-attributes
decreases-attributes l = length (from l.at l.doc.nodes)
