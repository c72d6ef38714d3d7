use Rattle.std.proofs.Common.{refl, []}
use Rattle.xpath_types.specs.Typing.{outermost}
use Rattle.xpath_meaning.specs.Meaning.{at_top}
use Rattle.xpath_kind_laws.proofs.kinds_hold_at_each_node.Goals as goal

pub returns : goal.returns
returns c =
    λ nodes declared x n outer h. c.kinds_hold_where_parts_are_evaluated.ensures nodes (outermost declared) [] 0 x (at_top n outer) h refl
    (record { focus = refl; bound = tt })
