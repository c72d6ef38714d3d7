use Rattle.std.proofs.Common.{◌≡◌, length, false, []}
use Rattle.xsd_pattern.specs.Steps.{at, has_at}
use Rattle.xsd_pattern.proofs.Passing.{Going}
use Rattle.xsd_pattern.proofs.going.pass.Given as goal

abbrev pub invariant-steps : goal.invariant-steps
invariant-steps l = record {
  whole : Going (has_at l.tokens) l.c l.steps l.initial.marks l.marks (at l.fn.first false []) (at l.at.before l.at.behind l.places) l.k;
  same : length l.marks ≡ length l.steps;
}
