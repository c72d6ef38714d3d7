use Rattle.std.proofs.Common.{refl}
use Rattle.schematron_meaning.specs.Entries.{Entry}
use Rattle.schematron_expansion.proofs.NameLemmas.{sizes_on}
use Rattle.schematron_expansion.proofs.bodies.parents.Goals as goal

pub entries-preserved : goal.entries-preserved
entries-preserved c = sizes_on (λ (e : Entry). e.parent) c.args.entries.now c.entries.e-index c.e-item.result _ _ _ c.entries-test.true c.e-item.is
    c.entries.invariant c.in_ok-push.ensures.items refl
