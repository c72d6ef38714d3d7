use Rattle.std.proofs.Common.{◌++◌, ◌∷◌, [], ap, ◌∙◌}
use Rattle.xpath_plan.specs.declared.plan_node.Separator.TheVariants as l
use Rattle.xpath_plan.proofs.SeenLaws.{slot-known}
use Rattle.xpath_plan.proofs.marks.in_slot.Goals as goal

pub returns-in-Some-clause-work : goal.returns-in-Some-clause-work
returns-in-Some-clause-work c = λ names. slot-known names c.args.marks.now.slots c.args.height c.push.new.self c.args.work
    (c.in_ok-push.ensures.ok ∙ ap (λ works. works ++ (l.Other, c.args.work) ∷ []) c.new-parts.ensures)
