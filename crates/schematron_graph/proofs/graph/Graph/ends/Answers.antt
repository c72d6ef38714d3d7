use Rattle.std.proofs.Common.{◌∙◌, ap}
use Rattle.schematron_graph.specs.Rules.{ends}
use Rattle.schematron_graph.specs.Built.{is_settled}
use Rattle.schematron_graph.proofs.BuiltLemmas.{built-ends}
use Rattle.schematron_graph.proofs.graph.Graph.ends.Goals as goal

pub returns : goal.returns
returns c =
    c.is_settled.ensures
    ∙ (ap (λ puts. is_settled puts c.args.rule) c.deref.ensures.value
    ∙ (built-ends _ _ _ c.self.invariant.0 c.self.invariant.1 c.args.rule ∙ ap (λ rules. ends rules c.args.rule) c.self.view_is))
