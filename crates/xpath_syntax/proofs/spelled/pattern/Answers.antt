use Rattle.xpath_syntax.proofs.Answering.{pattern-found, pattern-refused, of_its_kind}
use Rattle.xpath_syntax.proofs.spelled.pattern.Goals as goal

pub returns-in-Ok : goal.returns-in-Ok
returns-in-Ok c = pattern-found _ _ _ c.trees_are_expressions.ensures c.in-Ok.ensures c.pattern_of.ensures

pub returns-in-Err : goal.returns-in-Err
returns-in-Err c = pattern-refused _ _ c.in-Err.ensures

pub pattern_of-requires : goal.pattern_of-requires
pattern_of-requires c = of_its_kind _ _ c.trees_are_expressions.ensures c.in-Ok.ensures
