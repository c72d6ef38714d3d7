use Rattle.schematron_entries.specs.Seen.{seen_entries}
use Rattle.schematron_expansion.specs.Sizes.{file_with, assertions_at}
use Rattle.schematron_expansion.proofs.NameLemmas.{sizes_on}
use Rattle.schematron_expansion.proofs.sizes.sizes_of.Goals as goal

pub entries-preserved : goal.entries-preserved
entries-preserved c = sizes_on (assertions_at (file_with (seen_entries c.args.entries.now) c.args.graph.now)) c.args.entries.now c.entries.e-index
    c.e-item.result _ _ _ c.entries-test.true c.e-item.is
    c.entries.invariant c.in_ok-push.ensures.items (c.size_of_entry.ensures _ c.requires)
