use Rattle.std.proofs.Common.{◌∙◌, ap}
use Rattle.std.specs.List.{flat_map}
use Rattle.schematron_graph.specs.Rules.{things_of, expansion}
use Rattle.schematron_graph.specs.Counts.{count_of}
use Rattle.schematron_graph.specs.Ranked.{found, things_behind}
use Rattle.schematron_graph.specs.Built.{built_body}
use Rattle.schematron_graph.proofs.BuiltLemmas.{built-expansion}
use Rattle.schematron_graph.proofs.graph.Graph.size.Goals as goal

pub returns : goal.returns
returns c =
    c.size_of_parts.ensures
    ∙ (ap (λ puts. count_of (flat_map (things_of (found (things_behind c.self.inside.ranked))) (built_body puts c.args.body.now))) c.deref.ensures.value
    ∙ (ap count_of (built-expansion _ _ _ c.self.invariant.0 c.self.invariant.1 c.args.body.now) ∙
    ap (λ rules. count_of (expansion rules c.args.body.now)) c.self.view_is))
