use Rattle.std.proofs.Common.{drop}
use Rattle.json_text.specs.Making.{each}
use Rattle.json_text.proofs.MakingLemmas.{Leads}
use Rattle.validation_json.specs.ValidationJson.{located_object}
use Rattle.validation_json.proofs.elements.put_all_elements.Given as goal

-- those to come are left
abbrev pub invariant-elements : goal.invariant-elements
invariant-elements g l =
    Leads (each located_object l.elements) l.initial.pen (g.K.Sink.view l.initial.out) (each located_object (drop l.element-index l.elements)) l.pen
    (g.K.Sink.view l.out)
