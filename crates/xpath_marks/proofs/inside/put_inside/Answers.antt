use Rattle.std.proofs.Common.{[], refl}
use Rattle.xpath_marks.proofs.inside.put_inside.Goals as goal

pub returns : goal.returns
returns g c = c.axis_nodes.ensures [] refl
