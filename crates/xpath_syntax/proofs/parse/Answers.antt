use Rattle.xpath_syntax.proofs.Answering.{text-found, text-refused}
use Rattle.xpath_syntax.proofs.parse.Goals as goal

pub returns-in-Ok : goal.returns-in-Ok
returns-in-Ok c = text-found _ _ _ c.in-Ok.ensures c.expression.ensures

pub returns-in-Err : goal.returns-in-Err
returns-in-Err c = text-refused _ _ c.in-Err.ensures
