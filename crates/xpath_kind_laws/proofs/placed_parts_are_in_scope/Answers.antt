use Rattle.xpath_kind_laws.proofs.Placing.{in_scope}
use Rattle.xpath_kind_laws.proofs.placed_parts_are_in_scope.Goals as goal

pub returns : goal.returns
returns c = λ nodes env bound token x. in_scope nodes c.parts_have_their_kinds.ensures env bound token x
