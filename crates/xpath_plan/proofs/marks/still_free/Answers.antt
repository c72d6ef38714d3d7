use Rattle.xpath_plan.proofs.MarkLaws.{free-some, free-none}
use Rattle.xpath_plan.proofs.marks.still_free.Goals as goal

pub returns-in-Some : goal.returns-in-Some
returns-in-Some c = free-some c.args.typed.now.parts c.args.number c.in-Some.part.now c.args.label.now c.args.free c.is_free_part.result c.in-Some.ensures
    c.is_free_part.ensures

pub returns-in-None : goal.returns-in-None
returns-in-None c = free-none c.args.typed.now.parts c.args.number c.args.label.now c.args.free c.in-None.ensures
