use Rattle.std.proofs.Common.{◌≡◌, ◌∙◌, ap, subst}
use Rattle.std.specs.Prelude.{IfOk}
use Rattle.std.specs.List.{flat_map}
use Rattle.schematron_graph.specs.Rules.{things_of, expansion}
use Rattle.schematron_graph.specs.Ranked.{found, things_behind}
use Rattle.schematron_graph.specs.Built.{built_body}
use Rattle.schematron_graph.proofs.BuiltLemmas.{built-expansion}
use Rattle.schematron_graph.proofs.graph.Graph.expand.Goals as goal

pub returns : goal.returns
returns c =
    let all = ap (flat_map (things_of (found (things_behind c.self.inside.ranked))))
    (c.deref-2.ensures.value ∙ (c.in_ok-parts.ensures ∙ ap (λ puts. built_body puts c.args.body.now) c.deref.ensures.value))
    ∙ (built-expansion _ _ _ c.self.invariant.0 c.self.invariant.1 c.args.body.now ∙ ap (λ rules. expansion rules c.args.body.now) c.self.view_is) in
    subst (λ t. IfOk c.expand.result (λ things. things.items ≡ t)) all c.expand.ensures
