use Rattle.xpath_types.proofs.OrderLaws.{first-least}
use Rattle.xpath_types.proofs.laws.first_refusal.Goals as goal

pub returns : goal.returns
returns c = first-least
