use Rattle.term_table.proofs.TermLemmas.{table_is}
use Rattle.term_table.proofs.terms.term_rows.Goals as goal

pub returns : goal.returns
returns c = table_is
