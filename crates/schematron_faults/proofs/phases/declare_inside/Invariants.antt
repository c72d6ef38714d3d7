use Rattle.std.proofs.Common.{◌≡◌, [], length, map}
use Rattle.std.specs.Vec.Iter.{into_iter_items, into_iter_len}
use Rattle.schematron_meaning.specs.Lookup.{is_let, inside}
use Rattle.schematron_meaning.specs.Written.{with_lets}
use Rattle.schematron_entries.specs.Seen.{seen_entry}
use Rattle.schematron_faults.proofs.phases.declare_inside.Given as goal

abbrev pub invariant-lets : goal.invariant-lets
invariant-lets l = record {
  scope : with_lets [] l.scope (map (λ e. seen_entry e.now) (into_iter_items l.e-iterator)) ≡ with_lets [] l.initial.scope
      (inside is_let l.file.entries l.number);
  count : into_iter_len l.e-iterator ≡ length (into_iter_items l.e-iterator);
}
