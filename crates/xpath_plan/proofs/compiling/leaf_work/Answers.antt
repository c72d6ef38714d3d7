use Rattle.std.proofs.Common.{ap, ◌∙◌}
use Rattle.xpath_plan.specs.Claims.{known_alone}
use Rattle.xpath_plan.proofs.SeenLaws.{known-simple}
use Rattle.xpath_plan.proofs.compiling.leaf_work.Goals as goal

pub returns-clause-work : goal.returns-clause-work
returns-clause-work c = λ later. known-simple _ c.in_ok-simple_of.field-0 ∙ ap known_alone (c.in_ok-simple_of.ensures.work later)
