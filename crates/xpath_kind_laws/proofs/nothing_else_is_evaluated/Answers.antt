use Rattle.xpath_kind_laws.proofs.Replacing.{value_replaced}
use Rattle.xpath_kind_laws.proofs.nothing_else_is_evaluated.Goals as goal

pub returns : goal.returns
returns c = value_replaced
