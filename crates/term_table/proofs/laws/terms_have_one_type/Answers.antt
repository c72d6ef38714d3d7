use Rattle.term_table.proofs.DataTypeLemmas.{one_type}
use Rattle.term_table.proofs.laws.terms_have_one_type.Goals as goal

pub returns : goal.returns
returns c = one_type
