use Rattle.std.proofs.Common.{◌≡◌, length, map}
use Rattle.std.specs.Vec.Iter.{into_iter_items, into_iter_len}
use Rattle.schematron_meaning.specs.Lookup.{inside}
use Rattle.schematron_meaning.specs.Written.{is_let_or_rule, written_items}
use Rattle.schematron_entries.specs.Seen.{seen_entry}
use Rattle.schematron_expansion.specs.Seen.{seen_instance}
use Rattle.schematron_faults.specs.declared.search.Search.{Search}
use Rattle.schematron_faults.specs.Searching.{Goes}
use Rattle.schematron_faults.specs.Read.{IsRead, AreItems}
use Rattle.schematron_faults.specs.Things.{with_entries}
use Rattle.schematron_faults.proofs.patterns.judge_items.Given as goal

abbrev pub invariant-items : goal.invariant-items
invariant-items l = record {
  goes : IsRead l.file → (u : Search) → Goes l.search u
      (written_items l.file (seen_instance l.instance) l.scopes.all l.scopes.pattern (map (λ e. seen_entry e.now) (into_iter_items l.e-iterator)))
      → Goes l.fn.search u (written_items l.file (seen_instance l.instance) l.initial.scopes.all l.initial.scopes.pattern
      (inside is_let_or_rule l.file.entries l.instance.body));
  of_file : IsRead l.file → AreItems l.file.entries (map (λ e. seen_entry e.now) (into_iter_items l.e-iterator));
  pattern : with_entries l.instance.params l.scopes.pattern (map (λ e. seen_entry e.now) (into_iter_items l.e-iterator)) ≡ with_entries l.instance.params
      l.initial.scopes.pattern (inside is_let_or_rule l.file.entries l.instance.body);
  rule : l.scopes.rule ≡ l.initial.scopes.rule;
  all : l.scopes.all ≡ l.initial.scopes.all;
  count : into_iter_len l.e-iterator ≡ length (into_iter_items l.e-iterator);
}
