use Rattle.std.proofs.Common.{arith}
use Rattle.validation_report.specs.declared.places.Spot.{Spot}
use Rattle.validation_report.specs.Held.{placed_in}
use Rattle.validation_report.specs.Validating.{Placed}
use Rattle.json_text.proofs.MakingLemmas.{Leads-next, Leads-all, Wrote-same, each-flat_map}
use Rattle.validation_json.specs.ValidationJson.{placed_objects}
use Rattle.validation_json.proofs.findings.put_spots.Goals as goal

pub spots-preserved : goal.spots-preserved
spots-preserved g c =
    Leads-next (λ (spot : Spot). placed_objects g.F.Form.said (placed_in c.args.lines.now spot)) c.args.spots.now c.spots.spot-index c.spot-item.result
    _ _ _ _ _ _ _ c.spots-test.true c.spot-item.is c.spots.invariant c.put_spot.ensures

pub returns : goal.returns
returns g c =
    Wrote-same _ _ _ _ _ _
    (each-flat_map (λ (one : Placed). g.F.Form.said one.finding one.place) (placed_in c.args.lines.now) c.args.spots.now)
    (Leads-all (λ (spot : Spot). placed_objects g.F.Form.said (placed_in c.args.lines.now spot)) c.args.spots.now c.spots.spot-index _ _ _ _ _
    (omega (arith, c.spots-test.false)) c.spots.invariant)
