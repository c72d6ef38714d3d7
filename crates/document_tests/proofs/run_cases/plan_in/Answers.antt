use Rattle.xpath_grammar.specs.View.{view}
use Rattle.document_tests.proofs.run_cases.plan_in.Goals as goal

pub plan_by-plan-requires : goal.plan_by-plan-requires
plan_by-plan-requires c = c.answers_are_grammatical.ensures.expression c.args.text.now (view c.in-Ok.tree) c.in-Ok.ensures
