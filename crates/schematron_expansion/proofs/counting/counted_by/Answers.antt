use Rattle.schematron_entries.specs.Seen.{seen_entries}
use Rattle.schematron_expansion.specs.Counted.{is_counted}
use Rattle.schematron_expansion.proofs.NameLemmas.{sizes_on}
use Rattle.schematron_expansion.proofs.counting.counted_by.Goals as goal

pub entries-preserved : goal.entries-preserved
entries-preserved c =
    sizes_on (is_counted (seen_entries c.args.entries.now)) c.args.entries.now c.entries.e-index c.e-item.result _ _ _ c.entries-test.true c.e-item.is
    c.entries.invariant c.in_ok-push.ensures.items c.is_counted_rule.ensures
