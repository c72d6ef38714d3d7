use Rattle.std.proofs.Common.{◌≡◌, ap, subst, ◌∙◌}
use Rattle.std.specs.Prelude.{IfOk}
use Rattle.schematron_graph.specs.Firsts.{firsts}
use Rattle.schematron_graph.proofs.OnceLemmas.{alike-firsts}
use Rattle.schematron_graph.proofs.once.firsts_of_body.Goals as goal

pub returns : goal.returns
returns c =
    subst (λ t. IfOk c.firsts_of.result (λ things. things.items ≡ t)) (ap firsts c.deref.ensures.value ∙ alike-firsts _ _ c.in_ok-things.ensures)
    c.firsts_of.ensures
