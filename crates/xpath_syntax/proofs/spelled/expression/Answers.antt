use Rattle.xpath_syntax.proofs.Answering.{expression-found, expression-refused}
use Rattle.xpath_syntax.proofs.spelled.expression.Goals as goal

pub returns-in-Ok : goal.returns-in-Ok
returns-in-Ok c = expression-found _ _ _ c.trees_are_expressions.ensures c.in-Ok.ensures c.expression_of.ensures

pub returns-in-Err : goal.returns-in-Err
returns-in-Err c = expression-refused _ _ c.in-Err.ensures
