use Rattle.std.proofs.Common.{◌∙◌}
use Rattle.xml_events.proofs.PlaceLemmas.{place-inside, place-outside}
use Rattle.xml_events.proofs.kept.place_in.Goals as goal

pub returns-then-space-places : goal.returns-then-space-places
returns-then-space-places c = place-outside c.args.places.now c.args.space c.args.local.now c.if-space-places.true

pub returns : goal.returns
returns c =
    c.copied.ensures ∙ (c.get.ensures.value ∙ place-inside c.args.places.now c.args.space c.index-places-space.result c.args.local.now c.if-space-places.false
    c.index-places-space.is)
