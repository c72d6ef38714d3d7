use Rattle.schematron_meaning.specs.Entries.{Entry}
use Rattle.schematron_meaning.specs.Expansion.{Inclusion}
use Rattle.schematron_meaning.specs.Lookup.{is_assertion}
use Rattle.schematron_expansion.specs.Seen.{seen_put}
use Rattle.schematron_compile.proofs.BuiltLemmas.{picked_part}
use Rattle.schematron_compile.proofs.rules.assertions_among.Goals as goal

pub inclusions-preserved : goal.inclusions-preserved
inclusions-preserved c = picked_part seen_put (λ (inclusion : Inclusion). inclusion.entry) (λ (e : Entry). is_assertion e.role) c.args.inclusions.now
    c.inclusions.inclusion-index c.inclusion-item.result _ _ _
    c.inclusions-test.true c.inclusion-item.is
    c.is_assertion.ensures c.inclusions.invariant c.in_ok-push_if.ensures
