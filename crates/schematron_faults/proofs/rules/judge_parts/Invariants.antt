use Rattle.std.proofs.Common.{◌≡◌, length, map}
use Rattle.std.specs.Vec.Iter.{into_iter_items, into_iter_len}
use Rattle.schematron_meaning.specs.Lookup.{is_part, inside}
use Rattle.schematron_entries.specs.Seen.{seen_entry}
use Rattle.schematron_faults.specs.declared.search.Search.{Search}
use Rattle.schematron_faults.specs.Searching.{Goes}
use Rattle.schematron_faults.specs.Things.{written_parts}
use Rattle.schematron_faults.proofs.rules.judge_parts.Given as goal

abbrev pub invariant-parts : goal.invariant-parts
invariant-parts l = record {
  goes : (u : Search) → Goes l.search u (written_parts l.stand l.params l.all (map (λ e. seen_entry e.now) (into_iter_items l.part-iterator))) →
      Goes l.fn.search u (written_parts l.stand l.params l.all (inside is_part l.file.entries (seen_entry l.e).number));
  count : into_iter_len l.part-iterator ≡ length (into_iter_items l.part-iterator);
}
