use Rattle.schematron_meaning.specs.Entries.{Entry}
use Rattle.schematron_expansion.proofs.NameLemmas.{sizes_on}
use Rattle.schematron_expansion.proofs.counting.nodes.Goals as goal

pub entries-preserved : goal.entries-preserved
entries-preserved c = sizes_on (λ (e : Entry). e.number) c.args.entries.now c.entries.e-index c.e-item.result _ _ _ c.entries-test.true c.e-item.is
    c.entries.invariant c.in_ok-push.ensures.items c.number.ensures
