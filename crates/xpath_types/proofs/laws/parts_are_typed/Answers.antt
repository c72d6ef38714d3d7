use Rattle.xpath_types.proofs.OrderLaws.{placed-parts}
use Rattle.xpath_types.proofs.laws.parts_are_typed.Goals as goal

pub returns : goal.returns
returns c = λ env token x. placed-parts x env token
