use Rattle.std.proofs.Common.{◌≡◌, ◌∙◌, IfOk, subst}
use Rattle.xpath_walks.specs.Order.{node_items}
use Rattle.xpath_steps.proofs.stepping.items_from.Goals as goal

pub returns-in_ok-nodes-in-None : goal.returns-in_ok-nodes-in-None
returns-in_ok-nodes-in-None g c = λ names is.
    subst (λ ns. IfOk c.of_nodes.result (λ items. items ≡ node_items ns)) (c.deref.ensures.value ∙ c.in_ok-nodes-in-None.ensures names is) c.of_nodes.ensures
