use Rattle.std.proofs.Common.{◌∙◌, ap}
use Rattle.schematron_entries.specs.Seen.{seen_entries}
use Rattle.schematron_expansion.specs.Bodied.{bodies_at}
use Rattle.schematron_expansion.proofs.BodyLemmas.{bodies_are, graph_is}
use Rattle.schematron_expansion.proofs.bodies.graph_of.Goals as goal

pub returns : goal.returns
returns c = graph_is c.graph_with-graph.result _ _
    (ap (bodies_at (seen_entries c.args.entries.now)) c.deref.ensures.value ∙ bodies_are (seen_entries c.args.entries.now) _ c.in_ok-rules.ensures.nodes_are)
    c.graph_with-graph.ensures
