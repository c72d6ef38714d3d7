use Rattle.xpath_types.specs.Parts.{placed}
use Rattle.xpath_kind_laws.proofs.Holding.{all_hold}
use Rattle.xpath_kind_laws.proofs.kinds_hold_where_parts_are_evaluated.Goals as goal

pub returns : goal.returns
returns c = λ nodes env bound token x context h scope suits.
    all_hold nodes c.parts_have_their_kinds.ensures env bound token x context (placed env token x) h scope suits (λ part is. is)
