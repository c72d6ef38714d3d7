use Rattle.std.proofs.Common.{◌≡◌, Bool, List, IfOk, sym, subst}
use Rattle.inv_base.specs.Tree.{Name}
use Rattle.xpath_plan.specs.Claims.{known}
use Rattle.xpath_plan.specs.Walking.{kept_if}
use Rattle.xpath_plan.proofs.marks.kept_work.Goals as goal

pub returns-then-keeps-clause-work : goal.returns-then-keeps-clause-work
returns-then-keeps-clause-work c = subst (λ (keeps : Bool). IfOk c.in_slot.result
    (λ kept. (names : List Name) → known names kept ≡ kept_if keeps c.args.marks.now.slots c.args.height (known names c.args.work)))
    (sym c.if-keeps.true) c.in_slot.ensures.work
