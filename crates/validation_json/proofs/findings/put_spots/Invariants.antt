use Rattle.std.proofs.Common.{drop}
use Rattle.validation_report.specs.declared.places.Spot.{Spot}
use Rattle.validation_report.specs.Held.{placed_in}
use Rattle.json_text.specs.Making.{each}
use Rattle.json_text.proofs.MakingLemmas.{Leads}
use Rattle.validation_json.specs.ValidationJson.{placed_objects}
use Rattle.validation_json.proofs.findings.put_spots.Given as goal

-- those to come are left
abbrev pub invariant-spots : goal.invariant-spots
invariant-spots g l =
    Leads (each (λ (spot : Spot). placed_objects g.F.Form.said (placed_in l.lines spot)) l.spots) l.initial.pen (g.K.Sink.view l.initial.out)
    (each (λ (spot : Spot). placed_objects g.F.Form.said (placed_in l.lines spot)) (drop l.spot-index l.spots)) l.pen (g.K.Sink.view l.out)
