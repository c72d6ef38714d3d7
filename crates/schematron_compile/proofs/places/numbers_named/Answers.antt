use Rattle.schematron_compile.specs.Lent.{lent_entries}
use Rattle.schematron_compile.specs.Places.{places_in}
use Rattle.schematron_compile.proofs.PlaceLemmas.{listed_are}
use Rattle.schematron_compile.proofs.places.numbers_named.Goals as goal

pub returns : goal.returns
returns c = listed_are c.listed.result (places_in c.args.places.now) (lent_entries c.args.actives.items) _ c.in_order-numbers.result.items c.deref.result.now
    c.in_ok-places_active.ensures c.in_order-numbers.ensures.rises
    c.in_order-numbers.ensures.same c.deref.ensures.value c.listed.ensures
