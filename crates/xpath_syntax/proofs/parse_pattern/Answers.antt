use Rattle.xpath_syntax.proofs.Answering.{pattern_text-found, pattern_text-refused}
use Rattle.xpath_syntax.proofs.parse_pattern.Goals as goal

pub returns-in-Ok : goal.returns-in-Ok
returns-in-Ok c = pattern_text-found _ _ _ c.in-Ok.ensures c.pattern.ensures

pub returns-in-Err : goal.returns-in-Err
returns-in-Err c = pattern_text-refused _ _ c.in-Err.ensures
