use Rattle.std.proofs.Common.{◌≡◌, filter, take}
use Rattle.inv_base.specs.Tree.{is_among}
use Rattle.xpath_steps.specs.Sets.{is_wanted}
use Rattle.xpath_steps.proofs.sets.those_in.Given as goal

abbrev pub invariant-nodes : goal.invariant-nodes
invariant-nodes l = l.found.items ≡ filter (λ n. is_wanted l.wanted (is_among n l.others)) (take l.n-index l.nodes)
