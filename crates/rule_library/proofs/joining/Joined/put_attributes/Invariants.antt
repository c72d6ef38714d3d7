use Rattle.std.proofs.Common.{◌≡◌, ◌+◌, ◌<◌, length, drop}
use Rattle.std.specs.Option.{ForSome}
use Rattle.rule_library.specs.Asked.{given_at}
use Rattle.rule_library.specs.Joining.{with_attributes}
use Rattle.rule_library.specs.Turns.{from}
use Rattle.rule_library.proofs.joining.Joined.put_attributes.Given as goal

-- The attributes before this one are put in.
abbrev pub invariant-attributes : goal.invariant-attributes
invariant-attributes l = record {
  within : ForSome l.at (λ m. m < length l.doc.nodes);
  same : with_attributes (given_at l.doc.names (from l.at l.doc.nodes)) l.self ≡ with_attributes
      (given_at l.doc.names (drop (l.fn.n + 1) l.doc.nodes)) l.fn.self;
}

abbrev pub decreases-attributes : goal.decreases-attributes
decreases-attributes l = length (from l.at l.doc.nodes)
