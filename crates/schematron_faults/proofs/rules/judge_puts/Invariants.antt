use Rattle.std.proofs.Common.{◌≡◌, map, drop}
use Rattle.schematron_meaning.specs.Written.{with_lets, lets_among, written_puts}
use Rattle.schematron_expansion.specs.Seen.{seen_put}
use Rattle.schematron_faults.specs.declared.search.Search.{Search}
use Rattle.schematron_faults.specs.Searching.{Goes}
use Rattle.schematron_faults.proofs.rules.judge_puts.Given as goal

abbrev pub invariant-inclusions : goal.invariant-inclusions
invariant-inclusions l = record {
  goes : (u : Search) → Goes l.search u (written_puts l.file.entries l.params l.all l.before (map seen_put (drop l.inclusion-index l.inclusions))) →
      Goes l.initial.search u (written_puts l.file.entries l.params l.all l.initial.before (map seen_put l.inclusions));
  before : with_lets l.params l.before (lets_among (map seen_put (drop l.inclusion-index l.inclusions))) ≡ with_lets l.params l.initial.before
      (lets_among (map seen_put l.inclusions));
}
