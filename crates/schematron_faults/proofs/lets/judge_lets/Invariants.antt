use Rattle.std.proofs.Common.{◌≡◌, [], length, map}
use Rattle.std.specs.Vec.Iter.{into_iter_items, into_iter_len}
use Rattle.schematron_meaning.specs.Lookup.{is_let, inside}
use Rattle.schematron_meaning.specs.Written.{written_lets, with_lets}
use Rattle.schematron_entries.specs.Seen.{seen_entry}
use Rattle.schematron_faults.specs.declared.search.Search.{Search}
use Rattle.schematron_faults.specs.Searching.{Goes}
use Rattle.schematron_faults.proofs.lets.judge_lets.Given as goal

abbrev pub invariant-lets : goal.invariant-lets
invariant-lets l = record {
  goes : (u : Search) → Goes l.search u (written_lets l.scope (map (λ e. seen_entry e.now) (into_iter_items l.e-iterator))) →
      Goes l.initial.search u (written_lets l.initial.scope (inside is_let l.file.entries l.number));
  scope : with_lets [] l.scope (map (λ e. seen_entry e.now) (into_iter_items l.e-iterator)) ≡ with_lets [] l.initial.scope
      (inside is_let l.file.entries l.number);
  count : into_iter_len l.e-iterator ≡ length (into_iter_items l.e-iterator);
}
