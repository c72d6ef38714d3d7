use Rattle.schematron_compile.proofs.PlaceLemmas.{places_on}
use Rattle.schematron_compile.proofs.places.places_of.Goals as goal

pub instances-preserved : goal.instances-preserved
instances-preserved c = places_on c.args.instances.now c.instances.place c.index-instances-place.result _ _ _ c.instances-test.true c.index-instances-place.is
    c.attribute.ensures c.in_ok-add_place.ensures c.instances.invariant
