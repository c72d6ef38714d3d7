use Rattle.std.proofs.Common.{ap, ◌∙◌, ◌+◌}
use Rattle.node_arena.specs.Document.{Document, node_at}
use Rattle.rule_library.specs.Readings.{File}
use Rattle.rule_library.proofs.walk.place_in.Goals as goal

pub returns-in-Some : goal.returns-in-Some
returns-in-Some c =
    let place = c.place.ensures ∙ ap (λ (d : Document). (node_at d.nodes c.args.n).place) c.top_doc.ensures in
    let start = c.start.ensures ∙ ap (λ (f : File). f.start) c.top_file.ensures in
    c.in-Some.ensures.1 ∙ (λ i. place i + start i)
