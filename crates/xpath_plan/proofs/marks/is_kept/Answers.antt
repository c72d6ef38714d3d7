use Rattle.xpath_grammar.specs.View.{view}
use Rattle.xpath_plan.proofs.MarkLaws.{kept-some, kept-none}
use Rattle.xpath_plan.proofs.marks.is_kept.Goals as goal

pub returns-in-Some : goal.returns-in-Some
returns-in-Some c = kept-some c.args.typed.now.parts c.args.number c.in-Some.part.now
    (view c.args.x.now) c.is_literal.result c.in-Some.ensures c.is_literal.ensures

pub returns-in-None : goal.returns-in-None
returns-in-None c = kept-none c.args.typed.now.parts c.args.number (view c.args.x.now) c.in-None.ensures
