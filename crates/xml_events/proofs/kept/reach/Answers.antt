use Rattle.std.proofs.Common.{ap, ◌∙◌}
use Rattle.xml_events.specs.Places.{place_in}
use Rattle.xml_events.proofs.PlaceLemmas.{place-reach}
use Rattle.xml_events.proofs.kept.reach.Goals as goal

pub maps-preserved : goal.maps-preserved
maps-preserved c = λ n local. ap (λ x. place_in x n local) c.in_ok-push.ensures.items ∙
    (place-reach c.maps.places.items c.new.result n local c.new.ensures.empty ∙ c.maps.invariant n local)

pub returns-in_err-push-clause-same : goal.returns-in_err-push-clause-same
returns-in_err-push-clause-same c = λ n local. ap (λ x. place_in x n local) c.in_err-push.ensures.items ∙ c.maps.invariant n local
