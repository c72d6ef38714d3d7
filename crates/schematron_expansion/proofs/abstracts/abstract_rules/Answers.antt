use Rattle.schematron_expansion.proofs.NameLemmas.{rules_on}
use Rattle.schematron_expansion.proofs.abstracts.abstract_rules.Goals as goal

pub entries-preserved : goal.entries-preserved
entries-preserved c =
    rules_on c.args.entries.now c.entries.e-index c.e-item.result _ _ _ _ c.entries-test.true c.e-item.is c.in_ok-take_entry.ensures c.entries.invariant
