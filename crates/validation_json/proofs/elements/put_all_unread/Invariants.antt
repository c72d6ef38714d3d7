use Rattle.std.proofs.Common.{drop}
use Rattle.json_text.specs.Making.{each}
use Rattle.json_text.proofs.MakingLemmas.{Leads}
use Rattle.validation_json.specs.ValidationJson.{unread_object}
use Rattle.validation_json.proofs.elements.put_all_unread.Given as goal

-- those to come are left
abbrev pub invariant-nodes : goal.invariant-nodes
invariant-nodes g l =
    Leads (each unread_object l.nodes) l.initial.pen (g.K.Sink.view l.initial.out) (each unread_object (drop l.node-index l.nodes)) l.pen
    (g.K.Sink.view l.out)
