use Rattle.xpath_grammar.specs.View.{view}
use Rattle.xpath_tests.proofs.plan_cases.plan_in.Goals as goal

pub compiled-plan-requires : goal.compiled-plan-requires
compiled-plan-requires c = c.answers_are_grammatical.ensures.expression c.args.text.now (view c.in-Ok.expression) c.in-Ok.ensures
