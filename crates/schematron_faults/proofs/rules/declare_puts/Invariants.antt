use Rattle.std.proofs.Common.{◌≡◌, [], map, drop}
use Rattle.schematron_meaning.specs.Written.{with_lets, lets_among}
use Rattle.schematron_expansion.specs.Seen.{seen_put}
use Rattle.schematron_faults.specs.Searching.{Goes}
use Rattle.schematron_faults.proofs.rules.declare_puts.Given as goal

abbrev pub invariant-inclusions : goal.invariant-inclusions
invariant-inclusions l = record {
  goes : Goes l.initial.search l.search [];
  scope : with_lets l.params l.scope (lets_among (map seen_put (drop l.inclusion-index l.inclusions))) ≡ with_lets l.params l.initial.scope
      (lets_among (map seen_put l.inclusions));
}
