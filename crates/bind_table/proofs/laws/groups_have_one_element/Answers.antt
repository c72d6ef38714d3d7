use Rattle.bind_table.proofs.FrontLemmas.{one-element}
use Rattle.bind_table.proofs.laws.groups_have_one_element.Goals as goal

pub returns : goal.returns
returns c = one-element
