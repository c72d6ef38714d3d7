use Rattle.bind_table.proofs.EndLemmas.{rows-ends}
use Rattle.bind_table.proofs.laws.lines_have_the_rows.Goals as goal

pub returns : goal.returns
returns c = rows-ends
