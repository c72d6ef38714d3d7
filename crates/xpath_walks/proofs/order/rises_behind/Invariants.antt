use Rattle.std.proofs.Common.{◌≡◌, ◌∷◌, drop}
use Rattle.xpath_walks.specs.Order.{rises}
use Rattle.xpath_walks.proofs.order.rises_behind.Given as goal

abbrev pub invariant-nodes : goal.invariant-nodes
invariant-nodes l = rises (l.last ∷ drop l.n-index l.others) ≡ rises (l.initial.last ∷ l.others)
