use Rattle.std.proofs.Common.{ap, subst, ◌∙◌}
use Rattle.node_arena.specs.Document.{Document, node_at}
use Rattle.rule_library.specs.Readings.{File, Fault}
use Rattle.rule_library.specs.Faults.{TellsOf}
use Rattle.rule_library.proofs.walk.fault_in.Goals as goal

pub returns : goal.returns
returns c =
    let name = c.name.ensures ∙ ap (λ (f : File). f.name) c.top_file.ensures in
    let place = c.place.ensures ∙ ap (λ (d : Document). (node_at d.nodes c.args.n).place) c.top_doc.ensures in
    subst (λ (w : Fault). TellsOf c.fault_at.result w) (λ i. record { kind = c.args.kind; file = name i; place = place i }) c.fault_at.ensures
