use Rattle.xpath_grammar.specs.View.{view}
use Rattle.xpath_types.specs.Typing.{typing}
use Rattle.document_tests.proofs.pattern_cases.plan_by.Goals as goal

pub compile-plan-requires : goal.compile-plan-requires
compile-plan-requires c = c.typed_expressions_are_grammatical.ensures c.args.scope.now (view c.args.pattern.now)
    (typing c.in-Ok.typed) c.in-Ok.ensures c.requires
